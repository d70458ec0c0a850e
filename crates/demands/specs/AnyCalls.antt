-- A head anywhere at the C boundary: the demands for the two calls, as Calls has them for 01's.
use Rattle.std.specs.Prelude.{ℕ, ◌+◌, ◌*◌, ◌≤◌, ◌<◌, ◌≡◌, ◌↔◌, List, length, get_or}
use Rattle.refusals.specs.declared.Refusal.{Refusal}
use Rattle.refusals.specs.declared.Refusal.TheVariants.{Accepted, ShortRow}
use Rattle.refusals.specs.Refusals.{number_of}
use Rattle.runs.specs.Run.{Run, stops_of}
use Rattle.runs.specs.Lists.{list_of}
use Rattle.walk.specs.declared.Leg.{Leg}
use Rattle.walk.specs.Walk.{head_at, Moves, ServesAll, sum_of}
use Rattle.walk.specs.Rows.{ReadRows}
use Rattle.planner.specs.Rows.{Rows, reads_in}
use Rattle.boundary.specs.Boundary.{PriceAnyCalled, PlanAnyCalled}
use Rattle.demands.specs.RefusalTable.{FirstThatApplies, SomeApplies}
use Rattle.demands.specs.Demand1.{price_order, plan_order}
use Rattle.demands.specs.Demand2.{list_in}
use Rattle.demands.specs.AnyHead.{NothingAppliesAny, PriceAnyApplies, PlanAnyApplies, IsWalkAnyOf, IsLeastAny, AsksNoLessAny}
use Rattle.demands.specs.Calls.{in_sums}

-- What the pricer and the planner are refused for, in their order; 8 also for a row of sums below 4 words. No rule is handed in, so 14 does not occur.
pub data PriceAnyCallApplies (r : Run) (froms tos : List ℕ) (rows : ReadRows) (sums : List ℕ) : Refusal → ℕ → Type 0 where
  price : {kind : Refusal} {place : ℕ} → PriceAnyApplies r froms tos rows kind place → PriceAnyCallApplies r froms tos rows sums kind place
  short_sums : length sums < 4 → PriceAnyCallApplies r froms tos rows sums ShortRow 0

pub data PlanAnyCallApplies (r : Run) (rows : Rows) (sums : List ℕ) : Refusal → ℕ → Type 0 where
  plan : {kind : Refusal} {place : ℕ} → PlanAnyApplies r rows kind place → PlanAnyCallApplies r rows sums kind place
  short_sums : length sums < 4 → PlanAnyCallApplies r rows sums ShortRow 0

-- Demand 1: the code says the first that applies, and a refusal changes nothing that was lent; another code than 0 just where something applies.
pub record PriceAnyCallAnswers (r : Run) (froms tos : List ℕ) (rows : ReadRows) (sums : List ℕ) (code : ℕ) (rowsOut : ReadRows) (sumsOut : List ℕ) : Type 0 where
  pub kind : Refusal
  pub place : ℕ
  pub says : code ≡ number_of kind + 256 * place
  pub first : FirstThatApplies (PriceAnyCallApplies r froms tos rows sums) price_order kind place
  pub kept : (kind ≡ Accepted → ⊥) → (rowsOut ≡ rows) × (sumsOut ≡ sums)
  pub both : (kind ≡ Accepted → ⊥) ↔ SomeApplies (PriceAnyCallApplies r froms tos rows sums) price_order

abbrev pub Demand1PriceAnyCall : Type 0
Demand1PriceAnyCall =
    (r : Run) (froms tos : List ℕ) (rows : ReadRows) (sums : List ℕ) (code : ℕ) (rowsOut : ReadRows) (sumsOut : List ℕ)
    → PriceAnyCalled r froms tos rows sums code rowsOut sumsOut
    → PriceAnyCallAnswers r froms tos rows sums code rowsOut sumsOut

pub record PlanAnyCallAnswers (r : Run) (before : Rows) (sums : List ℕ) (code : ℕ) (after : Rows) (out : List ℕ) : Type 0 where
  pub kind : Refusal
  pub place : ℕ
  pub says : code ≡ number_of kind + 256 * place
  pub first : FirstThatApplies (PlanAnyCallApplies r before sums) plan_order kind place
  pub kept : (kind ≡ Accepted → ⊥) → (after ≡ before) × (out ≡ sums)
  pub both : (kind ≡ Accepted → ⊥) ↔ SomeApplies (PlanAnyCallApplies r before sums) plan_order

abbrev pub Demand1PlanAnyCall : Type 0
Demand1PlanAnyCall =
    (r : Run) (before : Rows) (sums : List ℕ) (code : ℕ) (after : Rows) (out : List ℕ)
    → PlanAnyCalled r before sums code after out
    → PlanAnyCallAnswers r before sums code after out

-- Demand 2: code 0 leaves the walk of the list; the planner's is the least.
pub record PriceAnyCallWalks (r : Run) (froms tos : List ℕ) (rowsOut : ReadRows) (sumsOut : List ℕ) : Type 0 where
  pub four : 4 ≤ length sumsOut
  pub even : length froms ≡ length tos
  pub walk : IsWalkAnyOf r (list_of froms tos) rowsOut (in_sums sumsOut)

abbrev pub Demand2PriceAnyCall : Type 0
Demand2PriceAnyCall =
    (r : Run) (froms tos : List ℕ) (rows : ReadRows) (sums : List ℕ) (code : ℕ) (rowsOut : ReadRows) (sumsOut : List ℕ)
    → PriceAnyCalled r froms tos rows sums code rowsOut sumsOut
    → code ≡ 0
    → PriceAnyCallWalks r froms tos rowsOut sumsOut

pub record PlanAnyCallWalks (r : Run) (after : Rows) (out : List ℕ) : Type 0 where
  pub four : 4 ≤ length out
  pub walk : IsWalkAnyOf r (list_in (in_sums out) after) (reads_in after) (in_sums out)
  pub least : IsLeastAny r (in_sums out) after

abbrev pub Demand2PlanAnyCall : Type 0
Demand2PlanAnyCall =
    (r : Run) (before : Rows) (sums : List ℕ) (code : ℕ) (after : Rows) (out : List ℕ)
    → PlanAnyCalled r before sums code after out
    → code ≡ 0
    → PlanAnyCallWalks r after out

-- Demand 3 of the first word of the row of sums.
abbrev pub Demand3PlanAnyCall : Type 0
Demand3PlanAnyCall =
    (first second : Run) (before : Rows) (sums : List ℕ) (code : ℕ) (after : Rows) (out : List ℕ)
    → NothingAppliesAny first
    → PlanAnyCalled second before sums code after out
    → code ≡ 0
    → AsksNoLessAny first second
    → (gs : List Leg)
    → Moves first.head gs
    → ServesAll gs (stops_of first)
    → get_or out 0 0 ≤ sum_of first.turn (head_at first.head) gs (stops_of first)
