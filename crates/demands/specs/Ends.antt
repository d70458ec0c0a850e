-- Request L2: the last sweep stops where nothing is left to read. The log's last event is a read, and no time has moved. Where nothing is wanted there is
-- no sweep, and the head stays.
use Rattle.std.specs.Prelude.{ℕ, ◌-◌, ◌≤◌, ◌<◌, ◌≡◌, ◌↔◌, List, [], length, get_or}
use Rattle.refusals.specs.declared.Refusal.TheVariants.{Accepted}
use Rattle.walk.specs.declared.Answer.{Answer}
use Rattle.runs.specs.Run.{Run, stops_of, want_stops_of}
use Rattle.runs.specs.Lists.{Detour}
use Rattle.walk.specs.Walk.{head_at, times_of, sum_of}
use Rattle.walk.specs.Detours.{legs_of, full_legs_of}
use Rattle.walk.specs.Price.{price_answer, price_rows}
use Rattle.walk.specs.AnyHead.{price_any_answer, price_any_rows}
use Rattle.walk.specs.Rows.{ReadRows}
use Rattle.planner.specs.Plan.{Plans}
use Rattle.planner.specs.AnyHead.{PlansAny}
use Rattle.planner.specs.Rows.{Rows}
use Rattle.demands.specs.RefusalTable.{IsFile, Together, end_of_file, NothingApplies}
use Rattle.demands.specs.Demand2.{IsFormed}
use Rattle.demands.specs.AnyHead.{IsFormedAny}

-- The finish is the time of one of the wants and no want has a later one; the end is the end of the last file that lies together with it.
pub record EndsWithARead (r : Run) (times : List ℕ) (answer : Answer) : Type 0 where
  pub want : ℕ
  pub within : want < length r.numbers
  pub finish : answer.finish ≡ get_or times want 0
  pub latest : (i : ℕ) → i < length r.numbers → get_or times i 0 ≤ answer.finish
  pub last : ℕ
  pub file : IsFile r last
  pub together : Together r last (get_or r.numbers want 0)
  pub end : answer.end ≡ end_of_file r last
  pub rightmost : (f : ℕ) → IsFile r f → Together r f (get_or r.numbers want 0) → end_of_file r f ≤ answer.end

-- So it is for every list that is priced, and for every plan, where anything is wanted.
abbrev pub PriceEndsWithARead : Type 0
PriceEndsWithARead =
    (r : Run) (froms tos : List ℕ) (rows : ReadRows) (answer : Answer) (out : ReadRows)
    → answer ≡ price_answer r froms tos rows
    → out ≡ price_rows r froms tos rows
    → answer.refusal ≡ Accepted
    → 0 < length r.numbers
    → EndsWithARead r out.times answer

abbrev pub PlanEndsWithARead : Type 0
PlanEndsWithARead =
    (r : Run) (before : Rows) (answer : Answer) (after : Rows)
    → Plans r before answer after
    → answer.refusal ≡ Accepted
    → 0 < length r.numbers
    → EndsWithARead r after.times answer

-- The same for a head anywhere.
abbrev pub PriceAnyEndsWithARead : Type 0
PriceAnyEndsWithARead =
    (r : Run) (froms tos : List ℕ) (rows : ReadRows) (answer : Answer) (out : ReadRows)
    → answer ≡ price_any_answer r froms tos rows
    → out ≡ price_any_rows r froms tos rows
    → answer.refusal ≡ Accepted
    → 0 < length r.numbers
    → EndsWithARead r out.times answer

abbrev pub PlanAnyEndsWithARead : Type 0
PlanAnyEndsWithARead =
    (r : Run) (before : Rows) (answer : Answer) (after : Rows)
    → PlansAny r before answer after
    → answer.refusal ≡ Accepted
    → 0 < length r.numbers
    → EndsWithARead r after.times answer

-- Times and sums are what they were with a sweep that runs on to the rightmost wanted file, read or not; so lists and ties are too.
pub record Stay (r : Run) (list : List Detour) : Type 0 where
  pub times : times_of r.turn (head_at r.head) (legs_of (stops_of r) list) (want_stops_of r) ≡ times_of r.turn (head_at r.head) (full_legs_of (stops_of r) list) (want_stops_of r)
  pub sum : sum_of r.turn (head_at r.head) (legs_of (stops_of r) list) (stops_of r) ≡ sum_of r.turn (head_at r.head) (full_legs_of (stops_of r) list) (stops_of r)

abbrev pub TimesStay : Type 0
TimesStay = (r : Run) → NothingApplies r → (list : List Detour) → Stay r list

-- Where nothing is wanted, only the empty list is well formed, sum and finish are 0, and the head ends where it stood.
pub record NothingWanted (formed : List Detour → Type 0) (r : Run) (answer : Answer) : Type 0 where
  pub only : (list : List Detour) → formed list ↔ (list ≡ [])
  pub sum : answer.sum ≡ 0
  pub finish : answer.finish ≡ 0
  pub end : answer.end ≡ r.head
  pub detours : answer.detours ≡ 0

abbrev pub PriceOfNothing : Type 0
PriceOfNothing =
    (r : Run) (froms tos : List ℕ) (rows : ReadRows) (answer : Answer) (out : ReadRows)
    → answer ≡ price_answer r froms tos rows
    → out ≡ price_rows r froms tos rows
    → answer.refusal ≡ Accepted
    → length r.numbers ≡ 0
    → NothingWanted (IsFormed r) r answer

abbrev pub PlanOfNothing : Type 0
PlanOfNothing =
    (r : Run) (before : Rows) (answer : Answer) (after : Rows)
    → Plans r before answer after
    → answer.refusal ≡ Accepted
    → length r.numbers ≡ 0
    → NothingWanted (IsFormed r) r answer

-- The same for a head anywhere.
abbrev pub PriceAnyOfNothing : Type 0
PriceAnyOfNothing =
    (r : Run) (froms tos : List ℕ) (rows : ReadRows) (answer : Answer) (out : ReadRows)
    → answer ≡ price_any_answer r froms tos rows
    → out ≡ price_any_rows r froms tos rows
    → answer.refusal ≡ Accepted
    → length r.numbers ≡ 0
    → NothingWanted (IsFormedAny r) r answer

abbrev pub PlanAnyOfNothing : Type 0
PlanAnyOfNothing =
    (r : Run) (before : Rows) (answer : Answer) (after : Rows)
    → PlansAny r before answer after
    → answer.refusal ≡ Accepted
    → length r.numbers ≡ 0
    → NothingWanted (IsFormedAny r) r answer
