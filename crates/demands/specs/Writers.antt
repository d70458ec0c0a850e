-- The writers of sheets, whatever answer and row fit their contracts: of run sheets, of plan sheets and of figure sheets, the last two also for a head anywhere. The first refusal
-- of the table that applies, and nothing written; or the sheet in the row's first bytes, and the later bytes as they were.
use Rattle.std.specs.Prelude.{ℕ, ◌<◌, ◌≡◌, true, false, List, ◌++◌, length, take, drop}
use Rattle.refusals.specs.declared.Refusal.{Refusal}
use Rattle.refusals.specs.declared.Refusal.TheVariants.{Accepted, ShortRow, BadEntry, BadName}
use Rattle.refusals.specs.declared.Verdict.{Verdict}
use Rattle.refusals.specs.Refusals.{is_refusal}
use Rattle.runs.specs.Run.{Run}
use Rattle.text_bytes.specs.Text.{is_name}
use Rattle.sheet_writer.specs.declared.Written.{Written}
use Rattle.sheet_writer.specs.Writing.{sheet_text, written_row, SheetWritten}
use Rattle.sheet_writer.specs.PlanSheet.{plan_text, PlanWritten}
use Rattle.sheet_writer.specs.AnyHead.{plan_any_text, PlanAnyWritten}
use Rattle.sheet_figures.specs.FigureSheet.{figure_text, FigureWritten}
use Rattle.sheet_figures.specs.AnyHead.{figure_any_text, FigureAnyWritten}
use Rattle.demands.specs.Sheets.{write_order, list_sheet_order, WriteApplies, ListSheetApplies, WriteAnswers}
use Rattle.demands.specs.AnyHead.{RunAppliesAny, ListIsBadAny}

pub record WritesItsSheet (applies : Refusal → ℕ → Type 0) (order : List Refusal) (sheet row : List ℕ) (answer : Written) (out : List ℕ) : Type 0 where
  pub answers : WriteAnswers applies order row answer out
  pub holds : answer.refusal ≡ Accepted → take answer.bytes out ≡ sheet
  pub counted : answer.refusal ≡ Accepted → answer.bytes ≡ length sheet
  pub behind : drop answer.bytes out ≡ drop answer.bytes row

-- The row that a verdict leaves, whoever writes: accepted the text, and later bytes as they were; on a refusal the row as it was.
pub record RowIsLeft (v : Verdict) (text row : List ℕ) : Type 0 where
  pub written : is_refusal v.refusal ≡ false → written_row v text row ≡ text ++ drop (length text) row
  pub kept : is_refusal v.refusal ≡ true → written_row v text row ≡ row

abbrev pub RowsAreLeft : Type 0
RowsAreLeft = (v : Verdict) (text row : List ℕ) → RowIsLeft v text row

abbrev pub RunSheetWriter : Type 0
RunSheetWriter =
    (name : List ℕ) (r : Run) (row : List ℕ) (answer : Written) (out : List ℕ)
    → SheetWritten name r row answer out
    → WritesItsSheet (WriteApplies name r row) write_order (sheet_text name r) row answer out

abbrev pub PlanSheetWriter : Type 0
PlanSheetWriter =
    (name : List ℕ) (r : Run) (froms tos row : List ℕ) (answer : Written) (out : List ℕ)
    → PlanWritten name r froms tos row answer out
    → WritesItsSheet (ListSheetApplies name r froms tos (plan_text name r froms tos) row) list_sheet_order (plan_text name r froms tos) row answer out

abbrev pub FigureSheetWriter : Type 0
FigureSheetWriter =
    (name : List ℕ) (r : Run) (froms tos row : List ℕ) (answer : Written) (out : List ℕ)
    → FigureWritten name r froms tos row answer out
    → WritesItsSheet (ListSheetApplies name r froms tos (figure_text name r froms tos) row) list_sheet_order (figure_text name r froms tos) row answer out

-- For a head anywhere: 7 only of a head past the last place, 10 also of a start right of the head's own stop; the order is the same.
pub data ListSheetAnyApplies (name : List ℕ) (r : Run) (froms tos sheet row : List ℕ) : Refusal → ℕ → Type 0 where
  run : {kind : Refusal} {place : ℕ} → RunAppliesAny r kind place → ListSheetAnyApplies name r froms tos sheet row kind place
  bad_name : is_name name ≡ false → ListSheetAnyApplies name r froms tos sheet row BadName 0
  bad_list : {place : ℕ} → ListIsBadAny r froms tos place → ListSheetAnyApplies name r froms tos sheet row BadEntry place
  short_row : length row < length sheet → ListSheetAnyApplies name r froms tos sheet row ShortRow 0

abbrev pub PlanAnySheetWriter : Type 0
PlanAnySheetWriter =
    (name : List ℕ) (r : Run) (froms tos row : List ℕ) (answer : Written) (out : List ℕ)
    → PlanAnyWritten name r froms tos row answer out
    → WritesItsSheet (ListSheetAnyApplies name r froms tos (plan_any_text name r froms tos) row) list_sheet_order (plan_any_text name r froms tos) row answer out

abbrev pub FigureAnySheetWriter : Type 0
FigureAnySheetWriter =
    (name : List ℕ) (r : Run) (froms tos row : List ℕ) (answer : Written) (out : List ℕ)
    → FigureAnyWritten name r froms tos row answer out
    → WritesItsSheet (ListSheetAnyApplies name r froms tos (figure_any_text name r froms tos) row) list_sheet_order (figure_any_text name r froms tos) row answer out
