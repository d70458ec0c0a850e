-- One line as `./violstream desk` takes it, by `take_line`: what begins with # is a remark and passed over, and every other line is answered as the event that it
-- holds. So what is promised of `answer_held` holds of the program's lines.
use Rattle.std.specs.Prelude.{ℕ, ◌≡◌, true, ◌↔◌, List, ◌++◌}
use Rattle.text_bytes.specs.Text.{bytes}
use Rattle.text_lines.specs.Lines.{line_of}
use Rattle.desk_tickets.specs.declared.Ticket.{Ticket}
use Rattle.desk_tickets.specs.declared.Lasts.{Lasts}
use Rattle.desk_boardings.specs.Boardings.{Tape}
use Rattle.answer_desk.specs.Events.{event_of}
use Rattle.desk_rows.specs.declared.ToldRow.{ToldRow}
use Rattle.desk_rows.specs.Events.{HeldAnswered}
use Rattle.desk_rows.specs.Journal.{is_remark, LineTaken}

-- A line that begins with #.
pub record BeginsWithHash (line : List ℕ) : Type 0 where
  pub rest : List ℕ
  pub is : line ≡ bytes "#" ++ rest

abbrev pub RemarkIsItsHash : Type 0
RemarkIsItsHash = (line : List ℕ) → (is_remark line ≡ true) ↔ BeginsWithHash line

-- Every other line is answered as the event that it holds, on the same table, room and row, and what is handed back is that answer's.
abbrev pub OtherLinesAreAnswered : Type 0
OtherLinesAreAnswered =
    (row : List Ticket) (l : Lasts) (tape : Tape) (room out line : List ℕ) (r : ToldRow) (room' out' : List ℕ)
    → LineTaken row l tape room out line r room' out'
    → (BeginsWithHash line → ⊥)
    → HeldAnswered row l tape room out (event_of (line_of line)) r room' out'
