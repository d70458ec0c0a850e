-- Request L14: what sharing a run costs. Of runs on one tape with one head place and one turn price: a run that asks for what two others ask for
-- together has a sum no less than their two; one that asks for the same c times over has the same plan and a sum c times as large.
use Rattle.std.specs.Prelude.{ℕ, ◌+◌, ◌*◌, ◌≤◌, ◌≡◌, List, map, length, take}
use Rattle.refusals.specs.declared.Refusal.TheVariants.{Accepted}
use Rattle.walk.specs.declared.Answer.{Answer}
use Rattle.runs.specs.Run.{Run}
use Rattle.least.specs.Wants.{reads_of_file}
use Rattle.planner.specs.Plan.{Plans}
use Rattle.planner.specs.Rows.{Rows}
use Rattle.demands.specs.RefusalTable.{NothingApplies}
use Rattle.demands.specs.Demand2.{list_in}

-- What the planner reports of a run that it accepts: its answer, and the rows before and after.
pub record Reports (r : Run) (before : Rows) (answer : Answer) (after : Rows) : Type 0 where
  pub plans : Plans r before answer after
  pub accepts : answer.refusal ≡ Accepted

-- The same tape table with the same aggregates, the head at the same place, the same turn price.
pub record OneTape (r r' : Run) : Type 0 where
  pub starts : r.starts ≡ r'.starts
  pub lengths : r.lengths ≡ r'.lengths
  pub aggregates : r.aggregates ≡ r'.aggregates
  pub head : r.head ≡ r'.head
  pub turn : r.turn ≡ r'.turn

-- How often a run wants a file, by the file's number as handed in; 0 where it does not.
abbrev pub reads_by : Run → ℕ → ℕ
reads_by r f = reads_of_file r.numbers r.counts f

-- The shared run asks for what the two ask for together: of every file as many reads as both.
pub record Shares (shared one other : Run) : Type 0 where
  pub tape : OneTape shared one
  pub tape' : OneTape shared other
  pub reads : (f : ℕ) → reads_by shared f ≡ reads_by one f + reads_by other f

-- Then its sum is at least the two together.
abbrev pub SharingNeverPays : Type 0
SharingNeverPays =
    (shared one other : Run) (before before₁ before₂ : Rows) (answer answer₁ answer₂ : Answer) (after after₁ after₂ : Rows)
    → Reports shared before answer after
    → Reports one before₁ answer₁ after₁
    → Reports other before₂ answer₂ after₂
    → Shares shared one other
    → answer₁.sum + answer₂.sum ≤ answer.sum

-- The first run asks for what the second does, c times over: of every file c times as many reads.
pub record Multiplies (c : ℕ) (many r : Run) : Type 0 where
  pub tape : OneTape many r
  pub reads : (f : ℕ) → reads_by many f ≡ c * reads_by r f

-- So of accepted runs the wants are of the same files, and every count is c times as large.
abbrev pub MultipliedWants : Type 0
MultipliedWants =
    (c : ℕ) (many r : Run)
    → 1 ≤ c
    → NothingApplies many
    → NothingApplies r
    → Multiplies c many r
    → (many.numbers ≡ r.numbers) × (many.counts ≡ map (λ n. c * n) r.counts)

-- Two answers with one list, the same time and leg for each want, one finish and one end; the first's sum is c times the second's.
pub record SamePlan (c wants : ℕ) (answer answer' : Answer) (after after' : Rows) : Type 0 where
  pub detours : answer.detours ≡ answer'.detours
  pub list : list_in answer after ≡ list_in answer' after'
  pub times : take wants after.times ≡ take wants after'.times
  pub legs : take wants after.legs ≡ take wants after'.legs
  pub finish : answer.finish ≡ answer'.finish
  pub end : answer.end ≡ answer'.end
  pub sum : answer.sum ≡ c * answer'.sum

abbrev pub MultipliedTheSame : Type 0
MultipliedTheSame =
    (c : ℕ) (many r : Run) (before before' : Rows) (answer answer' : Answer) (after after' : Rows)
    → 1 ≤ c
    → Reports many before answer after
    → Reports r before' answer' after'
    → Multiplies c many r
    → SamePlan c (length r.numbers) answer answer' after after'
