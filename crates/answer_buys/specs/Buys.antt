-- What is answered to the bytes of a run sheet, whatever they are: the figure sheet of the least list, or the two lines of the first refusal that
-- applies; and the row that takes the answer. The checks, the working room and the row are those of `answer_plan`.
use Rattle.std.specs.Prelude.{ℕ, ◌≡◌, true, false, List, map}
use Rattle.refusals.specs.declared.Verdict.{Verdict}
use Rattle.refusals.specs.Refusals.{is_refusal, first_of}
use Rattle.runs.specs.Run.{Run}
use Rattle.runs.specs.Lists.{Detour}
use Rattle.least.specs.Least.{LeastForRun}
use Rattle.sheet_reader.specs.Sheet.{sheet_run, sheet_name}
use Rattle.sheet_figures.specs.FigureSheet.{figure_text}
use Rattle.sheet_writer.specs.RefusalLines.{refusal_text}
use Rattle.answer_plan.specs.Recall.{run_checks, recall_verdict, bytes_put, row_put}

-- The figure sheet of the least list of a run. There is one such list.
pub record BuysText (name : List ℕ) (run : Run) (text : List ℕ) : Type 0 where
  pub list : List Detour
  pub least : LeastForRun run list
  pub says : text ≡ figure_text name run (map (λ d. d.from) list) (map (λ d. d.to) list)

-- The text of the answer, under a verdict.
pub record AnswersBuys (v : Verdict) (name : List ℕ) (run : Run) (text : List ℕ) : Type 0 where
  pub refused : is_refusal v.refusal ≡ true → text ≡ refusal_text v
  pub figured : is_refusal v.refusal ≡ false → BuysText name run text

-- The number of bytes of the answer, and the row that holds it.
pub record BuysWritten (v : Verdict) (name : List ℕ) (run : Run) (row : List ℕ) (n : ℕ) (row' : List ℕ) : Type 0 where
  pub text : List ℕ
  pub answers : AnswersBuys v name run text
  pub bytes : n ≡ bytes_put text row
  pub left : row' ≡ row_put text row

-- The answer to a sheet.
abbrev pub SheetBought : List ℕ → List ℕ → ℕ → List ℕ → Type 0
SheetBought sheet row n row' = BuysWritten (recall_verdict sheet) (sheet_name sheet) (sheet_run sheet) row n row'
