-- Request L9: the leg that is told of a want is the one that reads it first, and its time is the clock in that leg.
use Rattle.std.specs.Prelude.{ℕ, ◌+◌, ◌-◌, ◌≤◌, ◌<◌, ◌≡◌, true, false, List, [], length, get_or, take}
use Rattle.refusals.specs.declared.Refusal.TheVariants.{Accepted}
use Rattle.walk.specs.declared.Answer.{Answer}
use Rattle.walk.specs.declared.Head.{Head}
use Rattle.walk.specs.declared.Leg.{Leg}
use Rattle.runs.specs.Run.{Run, Stop, stops_of, want_stops_of}
use Rattle.runs.specs.Rows.{stop_at}
use Rattle.runs.specs.Lists.{Detour, list_of}
use Rattle.walk.specs.Walk.{head_at, set_off, run_right, walked, reads}
use Rattle.walk.specs.Detours.{legs_of}
use Rattle.walk.specs.Price.{price_answer, price_rows}
use Rattle.walk.specs.AnyHead.{run_legs, price_any_answer, price_any_rows}
use Rattle.walk.specs.Rows.{ReadRows}
use Rattle.planner.specs.Plan.{Plans}
use Rattle.planner.specs.AnyHead.{PlansAny}
use Rattle.planner.specs.Rows.{Rows, reads_in}
use Rattle.demands.specs.Demand2.{list_in}

-- A leg by its number, counted from 1.
abbrev pub leg_numbered : List Leg → ℕ → Leg
leg_numbered gs n = get_or gs (n - 1) (record { left = 0; right = 0 })

-- Leg n of a movement reads a file, and no earlier one does; the time is the clock when the head, which has made the legs before it, comes to
-- the file's end in the rightward run of leg n.
pub record ReadsIn (price : ℕ) (h : Head) (gs : List Leg) (s : Stop) (time n : ℕ) : Type 0 where
  pub counted : (0 < n) × (n ≤ length gs)
  pub here : reads (leg_numbered gs n) s ≡ true
  pub first : (m : ℕ) → 0 < m → m < n → reads (leg_numbered gs m) s ≡ false
  pub clock : time ≡ (run_right (set_off price (walked price h (take (n - 1) gs)) (leg_numbered gs n)) s.end).clock

-- What the rows tell of a list's walk, whose legs are gs. There are as many legs as detours and one more, the last sweep, where anything is wanted. Each
-- want is read in its leg; the leftmost in the last. With no detours all are read in leg 1. Wants with different legs have different times.
pub record LegsTold (r : Run) (list : List Detour) (gs : List Leg) (rows : ReadRows) : Type 0 where
  pub many : 0 < length r.numbers → length gs ≡ length list + 1
  pub each : (i : ℕ) → i < length r.numbers
      → ReadsIn r.turn (head_at r.head) gs (stop_at (want_stops_of r) i) (get_or rows.times i 0) (get_or rows.legs i 0)
  pub leftmost : 0 < length r.numbers → get_or rows.legs 0 0 ≡ length list + 1
  pub one : list ≡ [] → (i : ℕ) → i < length r.numbers → get_or rows.legs i 0 ≡ 1
  pub apart : (i j : ℕ) → i < length r.numbers → j < length r.numbers
      → get_or rows.legs i 0 < get_or rows.legs j 0 → get_or rows.times i 0 < get_or rows.times j 0

abbrev pub PriceTellsLegs : Type 0
PriceTellsLegs =
    (r : Run) (froms tos : List ℕ) (rows : ReadRows) (answer : Answer) (out : ReadRows)
    → answer ≡ price_answer r froms tos rows
    → out ≡ price_rows r froms tos rows
    → answer.refusal ≡ Accepted
    → LegsTold r (list_of froms tos) (legs_of (stops_of r) (list_of froms tos)) out

abbrev pub PlanTellsLegs : Type 0
PlanTellsLegs =
    (r : Run) (before : Rows) (answer : Answer) (after : Rows)
    → Plans r before answer after
    → answer.refusal ≡ Accepted
    → LegsTold r (list_in answer after) (legs_of (stops_of r) (list_in answer after)) (reads_in after)

-- The same for a head anywhere.
abbrev pub PriceAnyTellsLegs : Type 0
PriceAnyTellsLegs =
    (r : Run) (froms tos : List ℕ) (rows : ReadRows) (answer : Answer) (out : ReadRows)
    → answer ≡ price_any_answer r froms tos rows
    → out ≡ price_any_rows r froms tos rows
    → answer.refusal ≡ Accepted
    → LegsTold r (list_of froms tos) (run_legs r (list_of froms tos)) out

abbrev pub PlanAnyTellsLegs : Type 0
PlanAnyTellsLegs =
    (r : Run) (before : Rows) (answer : Answer) (after : Rows)
    → PlansAny r before answer after
    → answer.refusal ≡ Accepted
    → LegsTold r (list_in answer after) (run_legs r (list_in answer after)) (reads_in after)
