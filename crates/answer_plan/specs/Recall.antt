-- What is answered to the bytes of a run sheet, whatever they are: the plan sheet of the least list, or the two lines of the first refusal that
-- applies; and the row that takes the answer.
use Rattle.std.specs.Prelude.{ℕ, ◌≡◌, true, false, cond, List, [], ◌∷◌, ◌++◌, map, length, drop, ltb}
use Rattle.refusals.specs.declared.Refusal.TheVariants.{ShortRoom}
use Rattle.refusals.specs.declared.Verdict.{Verdict}
use Rattle.refusals.specs.Refusals.{is_refusal, refuse_if, first_of}
use Rattle.runs.specs.Run.{Run}
use Rattle.runs.specs.Judging.{judge_of}
use Rattle.runs.specs.Lists.{Detour}
use Rattle.least.specs.Least.{LeastForRun}
use Rattle.planner.specs.Plan.{room_for}
use Rattle.sheet_reader.specs.Sheet.{sheet_run, sheet_name}
use Rattle.sheet_reader.specs.Reading.{sheet_verdict, rule_verdict}
use Rattle.sheet_writer.specs.PlanSheet.{plan_text}
use Rattle.sheet_writer.specs.RefusalLines.{refusal_text}

-- The words of working room.
abbrev pub room_words : ℕ
room_words = 5120

-- 1 to 7, then 9.
abbrev pub run_checks : Run → List Verdict
run_checks run = judge_of run ∷ refuse_if (ltb room_words (room_for run)) ShortRoom ∷ []

-- 12, then 11 with its line, then 19 with the fourth, then what an engine checks of a run.
unfoldable pub verdict_by : (Run → List Verdict) → List ℕ → Verdict
verdict_by checks sheet = first_of (sheet_verdict sheet ∷ rule_verdict sheet ∷ checks (sheet_run sheet))

-- 1 to 7, then 9, behind these. The rows suffice for every sheet that can be read, so 8 never applies.
abbrev pub recall_verdict : List ℕ → Verdict
recall_verdict sheet = verdict_by run_checks sheet

-- A text of the least list, by what least is and by what text is asked for; and the plan sheet. There is one such list.
pub record TextOf (Least : Run → List Detour → Type 0) (text_of : List ℕ → Run → List ℕ → List ℕ → List ℕ) (name : List ℕ) (run : Run) (text : List ℕ) : Type 0 where
  pub list : List Detour
  pub least : Least run list
  pub says : text ≡ text_of name run (map (λ d. d.from) list) (map (λ d. d.to) list)

abbrev pub PlanOf : List ℕ → Run → List ℕ → Type 0
PlanOf name run text = TextOf LeastForRun plan_text name run text

-- The text of the answer, under a verdict: the two lines of a refusal, or what was asked for; and where that is the plan sheet.
pub record Answers (Asked : List ℕ → Run → List ℕ → Type 0) (v : Verdict) (name : List ℕ) (run : Run) (text : List ℕ) : Type 0 where
  pub refused : is_refusal v.refusal ≡ true → text ≡ refusal_text v
  pub planned : is_refusal v.refusal ≡ false → Asked name run text

abbrev pub AnswersRun : Verdict → List ℕ → Run → List ℕ → Type 0
AnswersRun v name run text = Answers PlanOf v name run text

-- A text in the first bytes of a row, the later ones as they were. A row shorter than the text keeps all its bytes, and the number of bytes is then 0.
unfoldable pub bytes_put : List ℕ → List ℕ → ℕ
bytes_put text row = cond (ltb (length row) (length text)) 0 (length text)

unfoldable pub row_put : List ℕ → List ℕ → List ℕ
row_put text row = cond (ltb (length row) (length text)) row (text ++ drop (length text) row)

-- The number of bytes of the answer, and the row that holds it.
pub record Given (Asked : List ℕ → Run → List ℕ → Type 0) (v : Verdict) (name : List ℕ) (run : Run) (row : List ℕ) (n : ℕ) (row' : List ℕ) : Type 0 where
  pub text : List ℕ
  pub answers : Answers Asked v name run text
  pub bytes : n ≡ bytes_put text row
  pub left : row' ≡ row_put text row

abbrev pub Recalled : Verdict → List ℕ → Run → List ℕ → ℕ → List ℕ → Type 0
Recalled v name run row n row' = Given PlanOf v name run row n row'

-- The answer to a sheet, under an engine's checks; and under the planner's.
abbrev pub SheetGiven : (List ℕ → Run → List ℕ → Type 0) → (Run → List Verdict) → List ℕ → List ℕ → ℕ → List ℕ → Type 0
SheetGiven Asked checks sheet row n row' = Given Asked (verdict_by checks sheet) (sheet_name sheet) (sheet_run sheet) row n row'

abbrev pub SheetRecalledBy : (Run → List Verdict) → List ℕ → List ℕ → ℕ → List ℕ → Type 0
SheetRecalledBy checks sheet row n row' = SheetGiven PlanOf checks sheet row n row'

abbrev pub SheetRecalled : List ℕ → List ℕ → ℕ → List ℕ → Type 0
SheetRecalled sheet row n row' = SheetRecalledBy run_checks sheet row n row'
