-- A list by value: that of a sheet's run under an engine's checks, and what is written of it.
use Rattle.std.specs.Prelude.{ℕ, ◌≡◌, true, false, List, [], ◌∷◌, map, length, take}
use Rattle.refusals.specs.declared.Verdict.{Verdict}
use Rattle.refusals.specs.Refusals.{is_refusal, accepted, first_of}
use Rattle.runs.specs.Run.{Run}
use Rattle.runs.specs.Lists.{Detour}
use Rattle.least.specs.Least.{LeastForRun}
use Rattle.sheet_reader.specs.Reading.{read_name}
use Rattle.sheet_runs.specs.declared.SheetRun.{SheetRun}
use Rattle.sheet_runs.specs.SheetRuns.{filled_up, run_held}
use Rattle.sheet_writer.specs.declared.Written.{Written}
use Rattle.sheet_writer.specs.Writing.{row_verdict, Handed}
use Rattle.sheet_writer.specs.PlanSheet.{PlanWritten}
use Rattle.sheet_writer.specs.RefusalLines.{RefusalWritten}
use Rattle.answer_plan.specs.declared.PlannedList.{PlannedList}

-- A verdict, and a list in two rows of 63.
abbrev pub in_list : Verdict → List Detour → PlannedList
in_list v list =
    record { verdict = v; detours = length list; froms = filled_up 63 (map (λ d. d.from) list); tos = filled_up 63 (map (λ d. d.to) list) }

-- The least list of a run, by what least is. There is one such list.
pub record ListIn (Least : Run → List Detour → Type 0) (run : Run) (l : PlannedList) : Type 0 where
  pub list : List Detour
  pub least : Least run list
  pub says : l ≡ in_list accepted list

abbrev pub LeastIn : Run → PlannedList → Type 0
LeastIn run l = ListIn LeastForRun run l

-- Under a verdict: no list, or the least one.
pub record ListUnder (Least : Run → List Detour → Type 0) (v : Verdict) (run : Run) (l : PlannedList) : Type 0 where
  pub refused : is_refusal v.refusal ≡ true → l ≡ in_list v []
  pub planned : is_refusal v.refusal ≡ false → ListIn Least run l

abbrev pub ListedUnder : Verdict → Run → PlannedList → Type 0
ListedUnder v run l = ListUnder LeastForRun v run l

-- The list of a sheet's run by value: the run's own refusal, then what an engine checks.
abbrev pub ListsRun : (Run → List Detour → Type 0) → (Run → List Verdict) → SheetRun → PlannedList → Type 0
ListsRun Least checks r l = ListUnder Least (first_of (r.verdict ∷ checks (run_held r))) (run_held r) l

abbrev pub RunListed : (Run → List Verdict) → SheetRun → PlannedList → Type 0
RunListed checks r l = ListsRun LeastForRun checks r l

-- What is written of a list by a writer of sheets: the two lines of a refusal, or the writer's text, which has checks of its own.
pub record WrittenBy (Writes : List ℕ → Run → List ℕ → List ℕ → List ℕ → Written → List ℕ → Type 0) (sheet : List ℕ) (r : SheetRun) (l : PlannedList) (row : List ℕ) (n : ℕ) (row' : List ℕ) : Type 0 where
  pub text : Written
  pub bytes : n ≡ text.bytes
  pub refused : is_refusal l.verdict.refusal ≡ true → RefusalWritten l.verdict row text row'
  pub planned : is_refusal l.verdict.refusal ≡ false → Writes (read_name sheet) (run_held r) (take l.detours l.froms) (take l.detours l.tos) row text row'

abbrev pub ListWritten : List ℕ → SheetRun → PlannedList → List ℕ → ℕ → List ℕ → Type 0
ListWritten sheet r l row n row' = WrittenBy PlanWritten sheet r l row n row'

-- A text that was asked for, handed out: 8 where the row is shorter.
pub record TextHanded (Asked : List ℕ → Type 0) (row : List ℕ) (w : Written) (row' : List ℕ) : Type 0 where
  pub text : List ℕ
  pub asked : Asked text
  pub handed : Handed (row_verdict text row) text row w row'
