-- What is answered to the bytes of a run sheet, whatever they are, with the head anywhere and in working room that is lent: the figure sheet of the least
-- list for that head, or the first refusal that applies; then the row and the room. The checks and both are those of `answer_any`.
use Rattle.std.specs.Prelude.{ℕ, ◌≡◌, true, false, List, length}
use Rattle.refusals.specs.Refusals.{is_refusal}
use Rattle.runs.specs.Run.{Run}
use Rattle.least.specs.AnyHead.{LeastAny}
use Rattle.sheet_figures.specs.AnyHead.{figure_any_text}
use Rattle.sheet_reader.specs.Sheet.{sheet_run, sheet_name}
use Rattle.sheet_writer.specs.declared.Written.{Written}
use Rattle.answer_plan.specs.Recall.{TextOf, SheetGiven}
use Rattle.answer_plan.specs.PlannedLists.{TextHanded}
use Rattle.answer_any.specs.AnyRun.{any_checks, any_verdict, room_left, NotAnswered}

-- The figure sheet of the least list for the head where it stands. There is one such list.
abbrev pub BuysAnyOf : List ℕ → Run → List ℕ → Type 0
BuysAnyOf name run text = TextOf LeastAny figure_any_text name run text

-- For a program: the number of bytes of the figure sheet, or of a refusal's two lines, and the row that holds them; and the room.
pub record SheetBoughtAny (sheet row room : List ℕ) (n : ℕ) (row' room' : List ℕ) : Type 0 where
  pub given : SheetGiven BuysAnyOf (any_checks (length room)) sheet row n row'
  pub cleared : room' ≡ room_left sheet room

-- For a caller: a refusal's record and the row as it was; else the figure sheet is handed out, by 8 not. The room is left as the plan leaves it, by 8 too.
pub record SheetFiguredAny (sheet row room : List ℕ) (w : Written) (row' room' : List ℕ) : Type 0 where
  pub refused : is_refusal (any_verdict (length room) sheet).refusal ≡ true → NotAnswered (any_verdict (length room) sheet) row w row'
  pub figured : is_refusal (any_verdict (length room) sheet).refusal ≡ false → TextHanded (BuysAnyOf (sheet_name sheet) (sheet_run sheet)) row w row'
  pub cleared : room' ≡ room_left sheet room
