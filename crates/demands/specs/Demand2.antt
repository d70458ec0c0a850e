-- Demand 2: times, legs and sum are those of the walk of a list: for the pricer the list handed in, for the planner the one that it leaves in the
-- rows. No well-formed list has a smaller sum than the planner's, and ties go by the fixed rule. Two answers that fit are equal.
-- Here and in demand 3 a run has a turn price. One that was read from a sheet with an empty `turn=` has 12,000 (Turns).
use Rattle.std.specs.Prelude.{ℕ, ◌≤◌, ◌≡◌, ◌⊎◌, List, map, length, take}
use Rattle.refusals.specs.declared.Refusal.TheVariants.{Accepted}
use Rattle.walk.specs.declared.Answer.{Answer}
use Rattle.runs.specs.Run.{Run, stops_of, want_stops_of}
use Rattle.walk.specs.Walk.{head_at, walked, Moves, ServesAll, times_of, legs_for, sum_of}
use Rattle.runs.specs.Lists.{Detour, list_of}
use Rattle.walk.specs.Detours.{legs_of}
use Rattle.walk.specs.Price.{price_answer, price_rows}
use Rattle.walk.specs.Rows.{ReadRows}
use Rattle.least.specs.Least.{ComesFirst, list_sum}
use Rattle.planner.specs.Plan.{Plans}
use Rattle.planner.specs.Rows.{Rows, reads_in}
use Rattle.demands.specs.RefusalTable.{ListIsBad}

-- A list is well formed where 10 does not apply to it.
abbrev pub IsFormed : Run → List Detour → Type 0
IsFormed r list = (place : ℕ) → ListIsBad r (map (λ d. d.from) list) (map (λ d. d.to) list) place → ⊥

-- The list that an accepted answer leaves in the rows: as many entries as the answer says.
abbrev pub list_in : Answer → Rows → List Detour
list_in answer after = list_of (take answer.detours after.froms) (take answer.detours after.tos)

-- The first entries of two rows and an answer's numbers are those of the walk of a list, from the run's head at its price: a movement that the head
-- can make, and that reads every stop. Lists and legs are of stops; times and legs are told of each want handed in, and the sum is the same over both.
pub record IsWalkOf (r : Run) (list : List Detour) (rows : ReadRows) (answer : Answer) : Type 0 where
  pub number : length list ≡ answer.detours
  pub formed : IsFormed r list
  pub moves : Moves r.head (legs_of (stops_of r) list)
  pub serves : ServesAll (legs_of (stops_of r) list) (stops_of r)
  pub times : take (length r.numbers) rows.times ≡ times_of r.turn (head_at r.head) (legs_of (stops_of r) list) (want_stops_of r)
  pub legs : take (length r.numbers) rows.legs ≡ legs_for (legs_of (stops_of r) list) (want_stops_of r)
  pub sum : answer.sum ≡ sum_of r.turn (head_at r.head) (legs_of (stops_of r) list) (stops_of r)
  pub summed : answer.sum ≡ sum_of r.turn (head_at r.head) (legs_of (stops_of r) list) (want_stops_of r)
  pub finish : answer.finish ≡ (walked r.turn (head_at r.head) (legs_of (stops_of r) list)).clock
  pub end : answer.end ≡ (walked r.turn (head_at r.head) (legs_of (stops_of r) list)).place

-- The planner's are those of the list that it leaves.
abbrev pub IsTheWalk : Run → Answer → Rows → Type 0
IsTheWalk r answer after = IsWalkOf r (list_in answer after) (reads_in after) answer

-- The pricer's are those of the list handed in, whose starts and ends are of one number.
pub record IsPriceOf (r : Run) (froms tos : List ℕ) (rows : ReadRows) (answer : Answer) : Type 0 where
  pub even : length froms ≡ length tos
  pub walk : IsWalkOf r (list_of froms tos) rows answer

abbrev pub Demand2Price : Type 0
Demand2Price =
    (r : Run) (froms tos : List ℕ) (rows : ReadRows) (answer : Answer) (out : ReadRows)
    → answer ≡ price_answer r froms tos rows
    → out ≡ price_rows r froms tos rows
    → answer.refusal ≡ Accepted
    → IsPriceOf r froms tos out answer

-- No well-formed list is cheaper, and one of the same sum is the same list or comes later by the tie rule.
pub record IsLeast (r : Run) (answer : Answer) (after : Rows) : Type 0 where
  pub smallest : (other : List Detour) → IsFormed r other → answer.sum ≤ list_sum r.turn r.head (stops_of r) other
  pub first : (other : List Detour) → IsFormed r other → list_sum r.turn r.head (stops_of r) other ≡ answer.sum
      → (other ≡ list_in answer after) ⊎ ComesFirst (list_in answer after) other

abbrev pub Demand2Walk : Type 0
Demand2Walk =
    (r : Run) (before : Rows) (answer : Answer) (after : Rows)
    → Plans r before answer after
    → answer.refusal ≡ Accepted
    → IsTheWalk r answer after

abbrev pub Demand2Least : Type 0
Demand2Least =
    (r : Run) (before : Rows) (answer : Answer) (after : Rows)
    → Plans r before answer after
    → answer.refusal ≡ Accepted
    → IsLeast r answer after

-- The contract determines the answer and every row.
abbrev pub Demand2One : Type 0
Demand2One =
    (r : Run) (before : Rows) (answer answer' : Answer) (after after' : Rows)
    → Plans r before answer after
    → Plans r before answer' after'
    → (answer ≡ answer') × (after ≡ after')
