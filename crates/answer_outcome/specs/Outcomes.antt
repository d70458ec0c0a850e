-- The outcome of a run sheet, whatever its bytes are: the refusal that the program would print, or what the plan of its run comes to.
use Rattle.std.specs.Prelude.{ℕ, ◌-◌, ◌≡◌, true, false, cond, List, [], ◌∷◌, ◌++◌, length, replicate, ltb}
use Rattle.refusals.specs.declared.Refusal.{Refusal}
use Rattle.refusals.specs.declared.Refusal.TheVariants.{Accepted}
use Rattle.refusals.specs.declared.Verdict.{Verdict}
use Rattle.refusals.specs.Refusals.{is_refusal}
use Rattle.runs.specs.Run.{Run, total}
use Rattle.runs.specs.Lists.{Detour}
use Rattle.walk.specs.Price.{priced_answer, priced_times}
use Rattle.least.specs.Least.{LeastForRun}
use Rattle.sheet_reader.specs.Sheet.{sheet_run, sheet_name}
use Rattle.answer_plan.specs.Recall.{recall_verdict}
use Rattle.answer_outcome.specs.declared.Outcome.{Outcome}
use Rattle.answer_outcome.specs.declared.Longest.{Longest}

-- A tape name in sixteen bytes: its letters, and zeros behind them.
abbrev pub name_letters : ℕ
name_letters = 16

unfoldable pub name_in : List ℕ → List ℕ
name_in name = name ++ replicate (name_letters - length name) 0

-- One time more: it takes the place of the longest so far where it is longer, so that of equal ones the first stays.
abbrev pub longer : Longest → ℕ → ℕ → Longest
longer most file time = cond (ltb most.time time) (record { time = time; file = file }) most

-- The longest of some times with its file, each in turn; 0 and no file before the first.
unfoldable pub longest_from : Longest → List ℕ → List ℕ → Longest
longest_from most [] times = most
longest_from most (file ∷ files) [] = most
longest_from most (file ∷ files) (time ∷ times) = longest_from (longer most file time) files times

abbrev pub longest_of : List ℕ → List ℕ → Longest
longest_of files times = longest_from (record { time = 0; file = 0 }) files times

-- A run that is refused: the kind, and no numbers.
unfoldable pub refused_outcome : Refusal → Outcome
refused_outcome kind =
    record {
      refusal = kind;
      reads = 0;
      sum = 0;
      saved = 0;
      time = 0;
      file = 0;
      letters = 0;
      tape = replicate name_letters 0;
    }

-- A run that is planned by a list: its reads, the list's sum, what that saves against the empty list, and the longest time with its file and tape.
unfoldable pub planned_outcome : List ℕ → Run → List Detour → Outcome
planned_outcome name run list =
    record {
      refusal = Accepted;
      reads = total run.counts;
      sum = (priced_answer run list).sum;
      saved = (priced_answer run []).sum - (priced_answer run list).sum;
      time = (longest_of run.numbers (priced_times run list)).time;
      file = (longest_of run.numbers (priced_times run list)).file;
      letters = length name;
      tape = name_in name;
    }

-- The least list plans a run. There is one such list.
pub record PlannedAs (name : List ℕ) (run : Run) (o : Outcome) : Type 0 where
  pub list : List Detour
  pub least : LeastForRun run list
  pub says : o ≡ planned_outcome name run list

-- The outcome under a verdict.
pub record Ends (v : Verdict) (name : List ℕ) (run : Run) (o : Outcome) : Type 0 where
  pub refused : is_refusal v.refusal ≡ true → o ≡ refused_outcome v.refusal
  pub planned : is_refusal v.refusal ≡ false → PlannedAs name run o

-- The outcome of a sheet, under the program's verdict on it.
abbrev pub OutcomeOf : List ℕ → Outcome → Type 0
OutcomeOf sheet o = Ends (recall_verdict sheet) (sheet_name sheet) (sheet_run sheet) o
