-- Request L5: the plain engine, which has no work table and takes at most eight wants. For every run that it accepts it answers what the planner
-- answers with room enough; and the three demands hold of it, the first with its own order of checks.
use Rattle.std.specs.Prelude.{ℕ, ◌+◌, ◌*◌, ◌-◌, ◌≤◌, ◌<◌, ◌≡◌, ◌↔◌, List, [], ◌∷◌, ◌++◌, length, take, drop, replicate}
use Rattle.refusals.specs.declared.Refusal.{Refusal}
use Rattle.refusals.specs.declared.Refusal.TheVariants.{Accepted, FileRows, BadFile, WantRows, OverEightWants, BadWant, TooManyReads, TurnPrice, HeadPlace, ShortRow}
use Rattle.runs.specs.Run.{Run, stops_of, total}
use Rattle.walk.specs.declared.Answer.{Answer}
use Rattle.walk.specs.declared.Leg.{Leg}
use Rattle.walk.specs.Walk.{head_at, Moves, ServesAll, sum_of}
use Rattle.planner.specs.Plan.{Plans}
use Rattle.planner.specs.Rows.{Rows}
use Rattle.engine_plain.specs.Plain.{PlainRows, PlainPlans}
use Rattle.demands.specs.RefusalTable.{HasStops, RunApplies, NothingApplies, SomeApplies}
use Rattle.demands.specs.Demand1.{ByTheTable}
use Rattle.demands.specs.Demand2.{list_in, IsTheWalk, IsLeast}
use Rattle.demands.specs.Demand3.{AsksNoLess}

-- The rows that the plain engine is lent, and a room beside them: what the planner is lent.
abbrev pub with_room : PlainRows → List ℕ → Rows
with_room rows room = record { froms = rows.froms; tos = rows.tos; times = rows.times; legs = rows.legs; room = room }

-- Demand 1. The order: 1, 2, 3, then 24, then 4 to 7, then 8.
abbrev pub plain_order : List Refusal
plain_order = FileRows ∷ BadFile ∷ WantRows ∷ OverEightWants ∷ BadWant ∷ TooManyReads ∷ TurnPrice ∷ HeadPlace ∷ ShortRow ∷ []

-- 24: more than eight wants as handed in, however few stops they make.
pub data PlainApplies (r : Run) (rows : PlainRows) : Refusal → ℕ → Type 0 where
  run : {kind : Refusal} {place : ℕ} → RunApplies r kind place → PlainApplies r rows kind place
  over_eight : 8 < length r.numbers → PlainApplies r rows OverEightWants 0
  short_times : length rows.times < length r.numbers → PlainApplies r rows ShortRow 0
  short_legs : length rows.legs < length r.numbers → PlainApplies r rows ShortRow 0
  short_starts : {stops : ℕ} → HasStops r stops → length rows.froms < stops - 1 → PlainApplies r rows ShortRow 0
  short_ends : {stops : ℕ} → HasStops r stops → length rows.tos < stops - 1 → PlainApplies r rows ShortRow 0

abbrev pub Demand1Plain : Type 0
Demand1Plain =
    (r : Run) (before : PlainRows) (answer : Answer) (after : PlainRows)
    → PlainPlans r before answer after
    → ByTheTable (PlainApplies r before) plain_order before answer after

abbrev pub Demand1PlainIff : Type 0
Demand1PlainIff =
    (r : Run) (before : PlainRows) (answer : Answer) (after : PlainRows)
    → PlainPlans r before answer after
    → (answer.refusal ≡ Accepted → ⊥) ↔ SomeApplies (PlainApplies r before) plain_order

-- The same answer as the planner's, whatever rows and however much room the planner was lent: the record, the list, the times and the legs.
pub record SameAnswer (r : Run) (answer : Answer) (after : PlainRows) (planned : Answer) (rows : Rows) : Type 0 where
  pub answers : answer ≡ planned
  pub lists : list_in answer (with_room after []) ≡ list_in planned rows
  pub times : take (length r.numbers) after.times ≡ take (length r.numbers) rows.times
  pub legs : take (length r.numbers) after.legs ≡ take (length r.numbers) rows.legs

abbrev pub PlainAsPlanned : Type 0
PlainAsPlanned =
    (r : Run) (before : PlainRows) (answer : Answer) (after : PlainRows) (lent : Rows) (planned : Answer) (rows : Rows)
    → PlainPlans r before answer after
    → answer.refusal ≡ Accepted
    → Plans r lent planned rows
    → planned.refusal ≡ Accepted
    → SameAnswer r answer after planned rows

-- A planner that is lent the same rows and room enough accepts what the plain engine accepts, and leaves the same in every row, its room zeroed.
abbrev pub words_for : Run → ℕ → ℕ
words_for r stops = stops * stops * (total r.counts + 1)

abbrev pub PlannerWithRoom : Type 0
PlannerWithRoom =
    (r : Run) (before : PlainRows) (answer : Answer) (after : PlainRows) (stops : ℕ) (room : List ℕ) (planned : Answer) (rows : Rows)
    → PlainPlans r before answer after
    → answer.refusal ≡ Accepted
    → HasStops r stops
    → words_for r stops ≤ length room
    → Plans r (with_room before room) planned rows
    → (planned ≡ answer) × (rows ≡ with_room after (replicate (words_for r stops) 0 ++ drop (words_for r stops) room))

-- Demand 2: the numbers are those of the walk of the list in the rows; no well-formed list is cheaper, ties by the fixed rule; and two answers that
-- fit are equal.
pub record PlainWalks (r : Run) (answer : Answer) (after : PlainRows) : Type 0 where
  pub walk : IsTheWalk r answer (with_room after [])
  pub least : IsLeast r answer (with_room after [])

abbrev pub Demand2Plain : Type 0
Demand2Plain =
    (r : Run) (before : PlainRows) (answer : Answer) (after : PlainRows)
    → PlainPlans r before answer after
    → answer.refusal ≡ Accepted
    → PlainWalks r answer after

abbrev pub Demand2PlainOne : Type 0
Demand2PlainOne =
    (r : Run) (before : PlainRows) (answer answer' : Answer) (after after' : PlainRows)
    → PlainPlans r before answer after
    → PlainPlans r before answer' after'
    → (answer ≡ answer') × (after ≡ after')

-- Demand 3: no movement of a run that asks for no less has a smaller sum.
abbrev pub Demand3Plain : Type 0
Demand3Plain =
    (first second : Run) (before : PlainRows) (answer : Answer) (after : PlainRows)
    → NothingApplies first
    → PlainPlans second before answer after
    → answer.refusal ≡ Accepted
    → AsksNoLess first second
    → (gs : List Leg)
    → Moves first.head gs
    → ServesAll gs (stops_of first)
    → answer.sum ≤ sum_of first.turn (head_at first.head) gs (stops_of first)
