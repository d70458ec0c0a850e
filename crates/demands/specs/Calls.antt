-- The demands at the C boundary. A call gives back 0, or the refusal's number plus 256 times its place. The refusal is the first of the table
-- that applies, and every row that was lent then holds what it held (demand 1). Where it gives back 0, four words of the row of sums hold
-- sum, finish, end and number of detours of the walk of the list (demand 2), and no movement beats the first (demand 3).
use Rattle.std.specs.Prelude.{ℕ, ◌+◌, ◌*◌, ◌≤◌, ◌<◌, ◌≡◌, ◌↔◌, List, [], ◌∷◌, length, get_or}
use Rattle.refusals.specs.declared.Refusal.{Refusal}
use Rattle.refusals.specs.declared.Refusal.TheVariants.{Accepted, FileRows, BadFile, WantRows, BadWant, TooManyReads, TurnPrice, HeadPlace, ShortRow, ShortRoom, BadRule}
use Rattle.refusals.specs.Refusals.{number_of}
use Rattle.runs.specs.Run.{Run, stops_of}
use Rattle.walk.specs.declared.Answer.{Answer}
use Rattle.walk.specs.declared.Leg.{Leg}
use Rattle.walk.specs.Walk.{head_at, Moves, ServesAll, sum_of}
use Rattle.walk.specs.Rows.{ReadRows}
use Rattle.planner.specs.Rows.{Rows}
use Rattle.boundary.specs.Boundary.{PriceCalled, PlanCalled}
use Rattle.demands.specs.RefusalTable.{NothingApplies, FirstThatApplies}
use Rattle.demands.specs.Demand1.{PriceApplies, price_order, PlanApplies}
use Rattle.demands.specs.Demand2.{IsTheWalk, IsPriceOf, IsLeast}
use Rattle.demands.specs.Demand3.{AsksNoLess}

-- The pricer's call: what the pricer is refused for, in its order; 8 also for a row of sums below 4 words.
pub data PriceCallApplies (r : Run) (froms tos : List ℕ) (rows : ReadRows) (sums : List ℕ) : Refusal → ℕ → Type 0 where
  price : {kind : Refusal} {place : ℕ} → PriceApplies r froms tos rows kind place → PriceCallApplies r froms tos rows sums kind place
  short_sums : length sums < 4 → PriceCallApplies r froms tos rows sums ShortRow 0

-- Whatever is handed to the call, and whatever code and rows fit its contract:
pub record PriceCallAnswers (r : Run) (froms tos : List ℕ) (rows : ReadRows) (sums : List ℕ) (code : ℕ) (rowsOut : ReadRows) (sumsOut : List ℕ) : Type 0 where
  pub kind : Refusal
  pub place : ℕ
  pub says : code ≡ number_of kind + 256 * place
  pub first : FirstThatApplies (PriceCallApplies r froms tos rows sums) price_order kind place
  pub kept : (kind ≡ Accepted → ⊥) → (rowsOut ≡ rows) × (sumsOut ≡ sums)

abbrev pub Demand1PriceCall : Type 0
Demand1PriceCall =
    (r : Run) (froms tos : List ℕ) (rows : ReadRows) (sums : List ℕ) (code : ℕ) (rowsOut : ReadRows) (sumsOut : List ℕ)
    → PriceCalled r froms tos rows sums code rowsOut sumsOut
    → PriceCallAnswers r froms tos rows sums code rowsOut sumsOut

-- The planner's call: 1 to 7, then 14, then 8, then 9.
abbrev pub plan_call_order : List Refusal
plan_call_order = FileRows ∷ BadFile ∷ WantRows ∷ BadWant ∷ TooManyReads ∷ TurnPrice ∷ HeadPlace ∷ BadRule ∷ ShortRow ∷ ShortRoom ∷ []

-- 14: a rule number other than 1. 8 also for a row of sums below 4 words.
pub data PlanCallApplies (r : Run) (rule : ℕ) (rows : Rows) (sums : List ℕ) : Refusal → ℕ → Type 0 where
  plan : {kind : Refusal} {place : ℕ} → PlanApplies r rows kind place → PlanCallApplies r rule rows sums kind place
  bad_rule : (rule ≡ 1 → ⊥) → PlanCallApplies r rule rows sums BadRule 0
  short_sums : length sums < 4 → PlanCallApplies r rule rows sums ShortRow 0

pub record PlanCallAnswers (r : Run) (rule : ℕ) (before : Rows) (sums : List ℕ) (code : ℕ) (after : Rows) (out : List ℕ) : Type 0 where
  pub kind : Refusal
  pub place : ℕ
  pub says : code ≡ number_of kind + 256 * place
  pub first : FirstThatApplies (PlanCallApplies r rule before sums) plan_call_order kind place
  pub kept : (kind ≡ Accepted → ⊥) → (after ≡ before) × (out ≡ sums)

abbrev pub Demand1PlanCall : Type 0
Demand1PlanCall =
    (r : Run) (rule : ℕ) (before : Rows) (sums : List ℕ) (code : ℕ) (after : Rows) (out : List ℕ)
    → PlanCalled r rule before sums code after out
    → PlanCallAnswers r rule before sums code after out

-- So 14 comes back exactly where nothing of 1 to 7 applies and the rule number is not 1, whatever rows were lent.
pub record RuleAlone (r : Run) (rule : ℕ) : Type 0 where
  pub good_run : NothingApplies r
  pub bad_rule : rule ≡ 1 → ⊥

abbrev pub RefusedForItsRule : Type 0
RefusedForItsRule =
    (r : Run) (rule : ℕ) (before : Rows) (sums : List ℕ) (code : ℕ) (after : Rows) (out : List ℕ)
    → PlanCalled r rule before sums code after out
    → (code ≡ 14) ↔ RuleAlone r rule

-- The numbers that a row of sums holds: sum, finish, end and number of detours, in this order.
abbrev pub in_sums : List ℕ → Answer
in_sums sums = record { refusal = Accepted; place = 0; sum = get_or sums 0 0; finish = get_or sums 1 0; end = get_or sums 2 0; detours = get_or sums 3 0 }

-- Demand 2: the pricer's call leaves the walk of the list handed in.
pub record PriceCallWalks (r : Run) (froms tos : List ℕ) (rowsOut : ReadRows) (sumsOut : List ℕ) : Type 0 where
  pub four : 4 ≤ length sumsOut
  pub price : IsPriceOf r froms tos rowsOut (in_sums sumsOut)

abbrev pub Demand2PriceCall : Type 0
Demand2PriceCall =
    (r : Run) (froms tos : List ℕ) (rows : ReadRows) (sums : List ℕ) (code : ℕ) (rowsOut : ReadRows) (sumsOut : List ℕ)
    → PriceCalled r froms tos rows sums code rowsOut sumsOut
    → code ≡ 0
    → PriceCallWalks r froms tos rowsOut sumsOut

-- The planner's call leaves the walk of the list in the rows, which is the least.
pub record PlanCallWalks (r : Run) (after : Rows) (out : List ℕ) : Type 0 where
  pub four : 4 ≤ length out
  pub walk : IsTheWalk r (in_sums out) after
  pub least : IsLeast r (in_sums out) after

abbrev pub Demand2PlanCall : Type 0
Demand2PlanCall =
    (r : Run) (rule : ℕ) (before : Rows) (sums : List ℕ) (code : ℕ) (after : Rows) (out : List ℕ)
    → PlanCalled r rule before sums code after out
    → code ≡ 0
    → PlanCallWalks r after out

-- Demand 3 of the first word of the row of sums.
abbrev pub Demand3PlanCall : Type 0
Demand3PlanCall =
    (first second : Run) (rule : ℕ) (before : Rows) (sums : List ℕ) (code : ℕ) (after : Rows) (out : List ℕ)
    → NothingApplies first
    → PlanCalled second rule before sums code after out
    → code ≡ 0
    → AsksNoLess first second
    → (gs : List Leg)
    → Moves first.head gs
    → ServesAll gs (stops_of first)
    → get_or out 0 0 ≤ sum_of first.turn (head_at first.head) gs (stops_of first)
