-- What each detour of a list buys where the head may stand anywhere: as Buys has it, by the walks from such a head. In a plan each figure is above zero.
use Rattle.std.specs.Prelude.{ℕ, ◌≤◌, ◌<◌, ◌≡◌, ◌↔◌, List, length, get_or, take, drop, ℤ, pos}
use Rattle.refusals.specs.declared.Refusal.{Refusal}
use Rattle.refusals.specs.declared.Refusal.TheVariants.{Accepted, ShortRow, BadEntry}
use Rattle.walk.specs.declared.Answer.{Answer}
use Rattle.walk.specs.declared.Leg.{Leg}
use Rattle.walk.specs.Walk.{head_at, walked, sum_of}
use Rattle.runs.specs.Run.{Run, stops_of}
use Rattle.runs.specs.Lists.{Detour, list_of}
use Rattle.figures.specs.AnyHead.{figures_any_answer, figures_any_row}
use Rattle.planner.specs.AnyHead.{PlansAny}
use Rattle.planner.specs.Rows.{Rows}
use Rattle.demands.specs.RefusalTable.{SomeApplies}
use Rattle.demands.specs.Demand1.{ByTheTable, price_order}
use Rattle.demands.specs.AnyLegs.{AreLegsOf}
use Rattle.demands.specs.AnyHead.{RunAppliesAny, ListIsBadAny, IsFormedAny}
use Rattle.demands.specs.Buys.{IsLess, left_out, PlanPays}

-- The refusals, in the pricer's order: 1 to 7, then 10, then 8, where the row has fewer entries than the list.
pub data BuysAnyApplies (r : Run) (froms tos : List ℕ) (row : List ℤ) : Refusal → ℕ → Type 0 where
  run : {kind : Refusal} {place : ℕ} → RunAppliesAny r kind place → BuysAnyApplies r froms tos row kind place
  bad_list : {place : ℕ} → ListIsBadAny r froms tos place → BuysAnyApplies r froms tos row BadEntry place
  short_row : length row < length froms → BuysAnyApplies r froms tos row ShortRow 0

abbrev pub FiguresAnyByTable : Type 0
FiguresAnyByTable =
    (r : Run) (froms tos : List ℕ) (row : List ℤ) (answer : Answer) (out : List ℤ)
    → answer ≡ figures_any_answer r froms tos row
    → out ≡ figures_any_row r froms tos row
    → ByTheTable (BuysAnyApplies r froms tos row) price_order row answer out

abbrev pub FiguresAnyIff : Type 0
FiguresAnyIff =
    (r : Run) (froms tos : List ℕ) (row : List ℤ) (answer : Answer)
    → answer ≡ figures_any_answer r froms tos row
    → (answer.refusal ≡ Accepted → ⊥) ↔ SomeApplies (BuysAnyApplies r froms tos row) price_order

-- What entry i buys: the sum of the walk of the list without it, which is well formed, less that of the list.
pub record IsBoughtAny (r : Run) (list : List Detour) (i : ℕ) (figure : ℤ) : Type 0 where
  pub formed : IsFormedAny r (left_out list i)
  pub less : (gs hs : List Leg) → AreLegsOf r (left_out list i) gs → AreLegsOf r list hs
      → IsLess (sum_of r.turn (head_at r.head) gs (stops_of r)) (sum_of r.turn (head_at r.head) hs (stops_of r)) figure

-- An accepted answer: a figure for each entry, in the list's order; later entries of the row as they were.
pub record FiguresAnyTold (r : Run) (froms tos : List ℕ) (row : List ℤ) (answer : Answer) (out : List ℤ) : Type 0 where
  pub even : length froms ≡ length tos
  pub formed : IsFormedAny r (list_of froms tos)
  pub sum : (gs : List Leg) → AreLegsOf r (list_of froms tos) gs → answer.sum ≡ sum_of r.turn (head_at r.head) gs (stops_of r)
  pub finish : (gs : List Leg) → AreLegsOf r (list_of froms tos) gs → answer.finish ≡ (walked r.turn (head_at r.head) gs).clock
  pub end : (gs : List Leg) → AreLegsOf r (list_of froms tos) gs → answer.end ≡ (walked r.turn (head_at r.head) gs).place
  pub number : answer.detours ≡ length froms
  pub each : (i : ℕ) → i < length froms → IsBoughtAny r (list_of froms tos) i (get_or out i (pos 0))
  pub long : length out ≡ length row
  pub later : drop (length froms) out ≡ drop (length froms) row

abbrev pub FiguresAnyTell : Type 0
FiguresAnyTell =
    (r : Run) (froms tos : List ℕ) (row : List ℤ) (answer : Answer) (out : List ℤ)
    → answer ≡ figures_any_answer r froms tos row
    → out ≡ figures_any_row r froms tos row
    → answer.refusal ≡ Accepted
    → FiguresAnyTold r froms tos row answer out

-- The list that a plan leaves in its rows: the answer is the plan's own, and each figure is above zero.
abbrev pub PlansAnyPay : Type 0
PlansAnyPay =
    (r : Run) (before : Rows) (planned : Answer) (after : Rows)
    → PlansAny r before planned after
    → planned.refusal ≡ Accepted
    → (row : List ℤ) → planned.detours ≤ length row
    → (answer : Answer) → answer ≡ figures_any_answer r (take planned.detours after.froms) (take planned.detours after.tos) row
    → (out : List ℤ) → out ≡ figures_any_row r (take planned.detours after.froms) (take planned.detours after.tos) row
    → PlanPays planned answer out
