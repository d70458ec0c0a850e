-- The longest time of a month (L13), down to the want: no want of any accepted run has a longer time, and it is the first met of those that have it.
use Rattle.std.specs.Prelude.{ℕ, ◌≤◌, ◌<◌, ◌≡◌, List, length, get_or, take}
use Rattle.refusals.specs.declared.Refusal.TheVariants.{Accepted}
use Rattle.runs.specs.Run.{Run, stops_of, want_stops_of}
use Rattle.runs.specs.Lists.{Detour}
use Rattle.walk.specs.Walk.{head_at, times_of}
use Rattle.walk.specs.Detours.{legs_of}
use Rattle.least.specs.Least.{LeastForRun}
use Rattle.sheet_reader.specs.Sheet.{sheet_run, sheet_name}
use Rattle.answer_outcome.specs.declared.Outcome.{Outcome}
use Rattle.answer_outcome.specs.Outcomes.{OutcomeOf}
use Rattle.answer_month.specs.Month.{empty_month, added_all}
use Rattle.promises.specs.Months.{OneByOne, Outcomes, Reordered, SameNames}

-- Of wants with these files and times one has the longest: no other is longer, and those before it are shorter.
pub record FirstOfLongest (files times : List ℕ) (time file : ℕ) : Type 0 where
  pub want : ℕ
  pub within : want < length files
  pub has_time : get_or times want 0 ≡ time
  pub has_file : get_or files want 0 ≡ file
  pub shorter : (i : ℕ) → i < want → get_or times i 0 < time
  pub longest : (i : ℕ) → i < length files → get_or times i 0 ≤ time

-- The times of a run's wants by the walk of a list, as demand 2 has them.
abbrev pub times_by_walk : Run → List Detour → List ℕ
times_by_walk r list = times_of r.turn (head_at r.head) (legs_of (stops_of r) list) (want_stops_of r)

-- The longest time of an accepted run that has one, with its file and tape, by the times of its least list.
pub record LongestOfRun (name : List ℕ) (run : Run) (list : List Detour) (o : Outcome) : Type 0 where
  pub want : FirstOfLongest run.numbers (times_by_walk run list) o.time o.file
  pub tape : take o.letters o.tape ≡ name

abbrev pub LongestInside : Type 0
LongestInside =
    (sheet : List ℕ) (o : Outcome) (list : List Detour)
    → OutcomeOf sheet o
    → o.refusal ≡ Accepted
    → 0 < o.time
    → LeastForRun (sheet_run sheet) list
    → LongestOfRun (sheet_name sheet) (sheet_run sheet) list o

-- No want of any accepted run of a month has a longer time than the month's.
abbrev pub NoneLonger : ℕ → List ℕ → Outcome → Type 0
NoneLonger time sheet o =
    o.refusal ≡ Accepted
    → (list : List Detour)
    → LeastForRun (sheet_run sheet) list
    → (want : ℕ)
    → want < length (sheet_run sheet).numbers
    → get_or (times_by_walk (sheet_run sheet) list) want 0 ≤ time

abbrev pub NoWantIsLonger : Type 0
NoWantIsLonger =
    (sheets : List (List ℕ)) (runs : List Outcome)
    → length sheets ≤ 1000
    → Outcomes sheets runs
    → OneByOne (NoneLonger (added_all empty_month runs).time) sheets runs

-- The order of the sheets matters for the tie alone, also where nothing is read: then no order names a tape or a file.
abbrev pub OrderWithoutReads : Type 0
OrderWithoutReads =
    (sheets sheets' : List (List ℕ)) (runs runs' : List Outcome)
    → length sheets ≤ 1000
    → Reordered sheets sheets'
    → Outcomes sheets runs
    → Outcomes sheets' runs'
    → (added_all empty_month runs).reads ≡ 0
    → SameNames (added_all empty_month runs) (added_all empty_month runs')
