-- Request L10, by the members of an aggregate: it reaches from its first start to its last end, whichever of its members are wanted; counts of several
-- members add up; and every member gets the aggregate's time and leg. Members are files that lie `Together`: nothing here looks at neighbours.
use Rattle.std.specs.Prelude.{ℕ, suc, ◌+◌, ◌-◌, ◌≤◌, ◌<◌, ◌≡◌, List, length, get_or}
use Rattle.refusals.specs.declared.Refusal.TheVariants.{Accepted}
use Rattle.walk.specs.declared.Answer.{Answer}
use Rattle.runs.specs.Run.{Run, stops_of, want_stops_of}
use Rattle.runs.specs.Rows.{stop_at}
use Rattle.walk.specs.Price.{price_answer, price_rows}
use Rattle.walk.specs.AnyHead.{price_any_answer, price_any_rows}
use Rattle.walk.specs.Rows.{ReadRows}
use Rattle.planner.specs.Plan.{Plans}
use Rattle.planner.specs.AnyHead.{PlansAny}
use Rattle.planner.specs.Rows.{Rows, reads_in}
use Rattle.demands.specs.RefusalTable.{IsFile, Together, end_of_file, NamesStop, HasStops}
use Rattle.demands.specs.AnyHead.{NothingAppliesAny}

-- The start of file f of the table.
abbrev pub start_of_file : Run → ℕ → ℕ
start_of_file r f = get_or r.starts (f - 1) 0

-- The least start and the greatest end of all files that lie together with file f, wanted or not: some file has it, and none a smaller or a greater.
pub record Reaches (r : Run) (f start end : ℕ) : Type 0 where
  pub first : ℕ
  pub first_file : IsFile r first
  pub first_with : Together r first f
  pub starts : start ≡ start_of_file r first
  pub no_sooner : (g : ℕ) → IsFile r g → Together r g f → start ≤ start_of_file r g
  pub last : ℕ
  pub last_file : IsFile r last
  pub last_with : Together r last f
  pub ends : end ≡ end_of_file r last
  pub no_later : (g : ℕ) → IsFile r g → Together r g f → end_of_file r g ≤ end

-- The counts of the wants from index i on that lie together with file f, added.
pub data ReadsFrom (r : Run) (f : ℕ) : ℕ → ℕ → Type 0 where
  behind : ReadsFrom r f (length r.numbers) 0
  counted : {i n : ℕ} → Together r (get_or r.numbers i 0) f → ReadsFrom r f (suc i) n → ReadsFrom r f i (get_or r.counts i 0 + n)
  passed : {i n : ℕ} → (Together r (get_or r.numbers i 0) f → ⊥) → ReadsFrom r f (suc i) n → ReadsFrom r f i n

-- The stop at index j: it has a stop's name, the reach of that file's aggregate, and the reads of all wants in it.
pub record IsStopAt (r : Run) (j : ℕ) : Type 0 where
  pub name : NamesStop r (stop_at (stops_of r) j).file
  pub reach : Reaches r (stop_at (stops_of r) j).file (stop_at (stops_of r) j).start (stop_at (stops_of r) j).end
  pub reads : ReadsFrom r (stop_at (stops_of r) j).file 0 (stop_at (stops_of r) j).count

-- The stops of a run: one for each want handed in, with the reach of its aggregate and its own count; and joined, as many as the wants make, by rising
-- names. So they are determined: there are no more names than that.
pub record StopsByMembers (r : Run) : Type 0 where
  pub wants : length (want_stops_of r) ≡ length r.numbers
  pub reach : (i : ℕ) → i < length r.numbers → Reaches r (get_or r.numbers i 0) (stop_at (want_stops_of r) i).start (stop_at (want_stops_of r) i).end
  pub count : (i : ℕ) → i < length r.numbers → (stop_at (want_stops_of r) i).count ≡ get_or r.counts i 0
  pub many : HasStops r (length (stops_of r))
  pub rising : (j : ℕ) → suc j < length (stops_of r) → (stop_at (stops_of r) j).file < (stop_at (stops_of r) (suc j)).file
  pub each : (j : ℕ) → j < length (stops_of r) → IsStopAt r j

-- Wherever the head stands: so of every run that 01 takes too (`TakesWhat01Takes`).
abbrev pub AggregatesReach : Type 0
AggregatesReach = (r : Run) → NothingAppliesAny r → StopsByMembers r

-- Two wants that lie together have one time and one leg.
pub record MembersShare (r : Run) (rows : ReadRows) : Type 0 where
  pub times : (i j : ℕ) → i < length r.numbers → j < length r.numbers → Together r (get_or r.numbers i 0) (get_or r.numbers j 0)
      → get_or rows.times i 0 ≡ get_or rows.times j 0
  pub legs : (i j : ℕ) → i < length r.numbers → j < length r.numbers → Together r (get_or r.numbers i 0) (get_or r.numbers j 0)
      → get_or rows.legs i 0 ≡ get_or rows.legs j 0

abbrev pub PriceMembersShare : Type 0
PriceMembersShare =
    (r : Run) (froms tos : List ℕ) (rows : ReadRows) (answer : Answer) (out : ReadRows)
    → answer ≡ price_answer r froms tos rows
    → out ≡ price_rows r froms tos rows
    → answer.refusal ≡ Accepted
    → MembersShare r out

abbrev pub PlanMembersShare : Type 0
PlanMembersShare =
    (r : Run) (before : Rows) (answer : Answer) (after : Rows)
    → Plans r before answer after
    → answer.refusal ≡ Accepted
    → MembersShare r (reads_in after)

-- The same for a head anywhere.
abbrev pub PriceAnyMembersShare : Type 0
PriceAnyMembersShare =
    (r : Run) (froms tos : List ℕ) (rows : ReadRows) (answer : Answer) (out : ReadRows)
    → answer ≡ price_any_answer r froms tos rows
    → out ≡ price_any_rows r froms tos rows
    → answer.refusal ≡ Accepted
    → MembersShare r out

abbrev pub PlanAnyMembersShare : Type 0
PlanAnyMembersShare =
    (r : Run) (before : Rows) (answer : Answer) (after : Rows)
    → PlansAny r before answer after
    → answer.refusal ≡ Accepted
    → MembersShare r (reads_in after)
