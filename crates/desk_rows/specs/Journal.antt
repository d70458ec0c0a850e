-- A line of a journal: one that begins with # is a remark, which is passed over; any other is an event.
use Rattle.std.specs.Prelude.{ℕ, ◌≡◌, Bool, true, false, List, [], ◌∷◌, eqb}
use Rattle.refusals.specs.Refusals.{accepted}
use Rattle.text_lines.specs.Lines.{line_of}
use Rattle.desk_tickets.specs.declared.Ticket.{Ticket}
use Rattle.desk_tickets.specs.declared.Lasts.{Lasts}
use Rattle.desk_boardings.specs.Boardings.{Tape}
use Rattle.answer_desk.specs.Events.{event_of}
use Rattle.desk_rows.specs.declared.ToldRow.{ToldRow}
use Rattle.desk_rows.specs.Events.{told_row, HeldAnswered}

-- Whether a line begins with #.
unfoldable pub is_remark : List ℕ → Bool
is_remark [] = false
is_remark (b ∷ bs) = eqb b 35

-- Passed over: nothing is told, and all is as it was.
pub record PassedOver (row : List Ticket) (l : Lasts) (room out : List ℕ) (r : ToldRow) (room' out' : List ℕ) : Type 0 where
  pub says : r ≡ told_row row (record { lasts = l; verdict = accepted; bytes = 0 })
  pub same_room : room' ≡ room
  pub same_row : out' ≡ out

-- What is answered to a line, on a table of 32 records.
pub record LineTaken (row : List Ticket) (l : Lasts) (tape : Tape) (room out line : List ℕ) (r : ToldRow) (room' out' : List ℕ) : Type 0 where
  pub remark : is_remark line ≡ true → PassedOver row l room out r room' out'
  pub event : is_remark line ≡ false → HeldAnswered row l tape room out (event_of (line_of line)) r room' out'
