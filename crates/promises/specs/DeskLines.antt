-- Request L6: each ticket that boards has its want. Its file stands among the wants of the boarded run, and the line that closes the ticket tells the
-- time and the leg which the rows hold for that want; that these are the walk's, `BoardedRunHolds` says.
use Rattle.std.specs.Prelude.{ℕ, ◌<◌, ◌≡◌, List, length, get_or}
use Rattle.refusals.specs.declared.Refusal.TheVariants.{Accepted}
use Rattle.runs.specs.Run.{Run}
use Rattle.planner.specs.Rows.{Rows}
use Rattle.desk_tickets.specs.declared.Ticket.{Ticket}
use Rattle.desk_tickets.specs.WaitingTable.{no_ticket}
use Rattle.desk_boardings.specs.declared.Boarding.{Boarding}
use Rattle.desk_boardings.specs.declared.BoardedRow.{BoardedRow}
use Rattle.desk_boardings.specs.Boarders.{boarders}
use Rattle.desk_boardings.specs.Boardings.{Tape, board_run, Boards}
use Rattle.answer_desk.specs.declared.Reads.{Reads}
use Rattle.answer_desk.specs.Answers.{ticket_line, closed_line}
use Rattle.answer_desk.specs.Days.{reads_boarded}

-- Which of a run's wants a ticket's is, counted from 0, and the line that closes the ticket.
pub record HasItsWant (run : Run) (reads : Reads) (t : Ticket) : Type 0 where
  pub want : ℕ
  pub among : want < length run.numbers
  pub file : get_or run.numbers want 0 ≡ t.file
  pub line : closed_line reads t ≡ ticket_line t (get_or reads.times want 0) (get_or reads.legs want 0)

abbrev pub TicketsHaveWants : Type 0
TicketsHaveWants =
    (len : ℕ) (tape : Tape) (row : List Ticket) (b : Boarding) (before after : Rows) (r : BoardedRow) (i : ℕ)
    → Boards len tape row b before r after
    → r.boarded.answer.refusal ≡ Accepted
    → i < length (boarders row)
    → HasItsWant (board_run tape row b) (reads_boarded r after) (get_or (boarders row) i no_ticket)
