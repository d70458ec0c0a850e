-- What accepted calls leave behind the entries that they fill: of the pricer and the planner, by 01's rules and for a head anywhere, and of their calls in C. Later entries of
-- each row are as they were, and so are the words of the room behind those that the plan took, which are zero.
use Rattle.std.specs.Prelude.{ℕ, ◌+◌, ◌*◌, ◌≡◌, List, ◌++◌, length, get_or, drop, replicate}
use Rattle.refusals.specs.declared.Refusal.TheVariants.{Accepted}
use Rattle.runs.specs.Run.{Run, total}
use Rattle.walk.specs.declared.Answer.{Answer}
use Rattle.walk.specs.Price.{price_answer, price_rows}
use Rattle.walk.specs.AnyHead.{price_any_answer, price_any_rows}
use Rattle.walk.specs.Rows.{ReadRows}
use Rattle.planner.specs.Plan.{Plans}
use Rattle.planner.specs.AnyHead.{PlansAny}
use Rattle.planner.specs.Rows.{Rows}
use Rattle.boundary.specs.Boundary.{PriceCalled, PlanCalled, PriceAnyCalled, PlanAnyCalled}
use Rattle.demands.specs.RefusalTable.{HasStops}

-- Behind a time and a leg for each want.
pub record BehindReads (r : Run) (before after : ReadRows) : Type 0 where
  pub times : drop (length r.numbers) after.times ≡ drop (length r.numbers) before.times
  pub legs : drop (length r.numbers) after.legs ≡ drop (length r.numbers) before.legs

-- And behind the list's starts and ends; and the room.
pub record BehindPlan (r : Run) (detours : ℕ) (before after : Rows) : Type 0 where
  pub times : drop (length r.numbers) after.times ≡ drop (length r.numbers) before.times
  pub legs : drop (length r.numbers) after.legs ≡ drop (length r.numbers) before.legs
  pub starts : drop detours after.froms ≡ drop detours before.froms
  pub ends : drop detours after.tos ≡ drop detours before.tos
  pub room : (stops : ℕ) → HasStops r stops
      → after.room ≡ replicate (stops * stops * (total r.counts + 1)) 0 ++ drop (stops * stops * (total r.counts + 1)) before.room

abbrev pub PriceBehind : Type 0
PriceBehind =
    (r : Run) (froms tos : List ℕ) (rows : ReadRows) (answer : Answer) (out : ReadRows)
    → answer ≡ price_answer r froms tos rows
    → out ≡ price_rows r froms tos rows
    → answer.refusal ≡ Accepted
    → BehindReads r rows out

abbrev pub PriceAnyBehind : Type 0
PriceAnyBehind =
    (r : Run) (froms tos : List ℕ) (rows : ReadRows) (answer : Answer) (out : ReadRows)
    → answer ≡ price_any_answer r froms tos rows
    → out ≡ price_any_rows r froms tos rows
    → answer.refusal ≡ Accepted
    → BehindReads r rows out

abbrev pub PlanBehind : Type 0
PlanBehind = (r : Run) (before : Rows) (answer : Answer) (after : Rows) → Plans r before answer after → answer.refusal ≡ Accepted → BehindPlan r answer.detours before after

abbrev pub PlanAnyBehind : Type 0
PlanAnyBehind = (r : Run) (before : Rows) (answer : Answer) (after : Rows) → PlansAny r before answer after → answer.refusal ≡ Accepted → BehindPlan r answer.detours before after

-- In C, where the code is 0: also behind the four words of the row of sums, of which the fourth is the number of detours.
abbrev pub BehindSums : List ℕ → List ℕ → Type 0
BehindSums before after = drop 4 after ≡ drop 4 before

abbrev pub PriceCallBehind : Type 0
PriceCallBehind =
    (r : Run) (froms tos : List ℕ) (rows : ReadRows) (sums : List ℕ) (code : ℕ) (rowsOut : ReadRows) (sumsOut : List ℕ)
    → PriceCalled r froms tos rows sums code rowsOut sumsOut
    → code ≡ 0
    → BehindReads r rows rowsOut × BehindSums sums sumsOut

abbrev pub PriceAnyCallBehind : Type 0
PriceAnyCallBehind =
    (r : Run) (froms tos : List ℕ) (rows : ReadRows) (sums : List ℕ) (code : ℕ) (rowsOut : ReadRows) (sumsOut : List ℕ)
    → PriceAnyCalled r froms tos rows sums code rowsOut sumsOut
    → code ≡ 0
    → BehindReads r rows rowsOut × BehindSums sums sumsOut

abbrev pub PlanCallBehind : Type 0
PlanCallBehind =
    (r : Run) (rule : ℕ) (before : Rows) (sums : List ℕ) (code : ℕ) (after : Rows) (out : List ℕ)
    → PlanCalled r rule before sums code after out
    → code ≡ 0
    → BehindPlan r (get_or out 3 0) before after × BehindSums sums out

abbrev pub PlanAnyCallBehind : Type 0
PlanAnyCallBehind =
    (r : Run) (before : Rows) (sums : List ℕ) (code : ℕ) (after : Rows) (out : List ℕ)
    → PlanAnyCalled r before sums code after out
    → code ≡ 0
    → BehindPlan r (get_or out 3 0) before after × BehindSums sums out
