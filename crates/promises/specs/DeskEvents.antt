-- An accepted event at the desk is its call, whatever room and row are lent: the table and the last numbers afterwards are those that the accepted filing, withdrawal or
-- boarding leaves. So on a lent row of any length, whose later records stay as they were, and on the program's table.
use Rattle.std.specs.Prelude.{ℕ, ◌≡◌, List, drop, Option}
use Rattle.refusals.specs.declared.Refusal.TheVariants.{Accepted}
use Rattle.desk_tickets.specs.declared.Ticket.{Ticket}
use Rattle.desk_tickets.specs.declared.Lasts.{Lasts}
use Rattle.desk_boardings.specs.Boardings.{Tape}
use Rattle.answer_desk.specs.declared.Day as desk
use Rattle.answer_desk.specs.declared.Event.{Event}
use Rattle.answer_desk.specs.declared.Answered.{Answered}
use Rattle.answer_desk.specs.Days.{EventAnswered}
use Rattle.desk_rows.specs.declared.Told.{Told}
use Rattle.desk_rows.specs.declared.ToldRow.{ToldRow}
use Rattle.desk_rows.specs.Events.{day_of, LentAnswered, HeldAnswered}
use Rattle.promises.specs.Desk.{Kept, Call, Fits, answered}
use Rattle.promises.specs.DeskDays.{IsCall, kept_at}
use Rattle.promises.specs.DeskRows.{kept_in}

-- The event's call, with the numbers of its line; it is accepted, and takes what was kept to what is kept then.
pub record ItsCall (tape : Tape) (e : Option Event) (before after : Kept) : Type 0 where
  pub call : Call
  pub is : IsCall tape e call
  pub accepts : answered call ≡ Accepted
  pub fits : Fits before call after

abbrev pub EventIsItsCall : Type 0
EventIsItsCall =
    (len : ℕ) (tape : Tape) (day : desk.Day) (room out : List ℕ) (e : Option Event) (r : Answered) (room' out' : List ℕ)
    → EventAnswered len tape day room out e r room' out'
    → r.verdict.refusal ≡ Accepted
    → ItsCall tape e (kept_at day) (kept_at r.day)

abbrev pub LentIsItsCall : Type 0
LentIsItsCall =
    (ts : List Ticket) (l : Lasts) (tape : Tape) (room out : List ℕ) (e : Option Event) (r : Told) (exit : List Ticket) (room' out' : List ℕ)
    → LentAnswered ts l tape room out e r exit room' out'
    → r.verdict.refusal ≡ Accepted
    → ItsCall tape e (kept_in ts l) (kept_in exit r.lasts) × (drop 32 exit ≡ drop 32 ts)

abbrev pub HeldIsItsCall : Type 0
HeldIsItsCall =
    (row : List Ticket) (l : Lasts) (tape : Tape) (room out : List ℕ) (e : Option Event) (r : ToldRow) (room' out' : List ℕ)
    → HeldAnswered row l tape room out e r room' out'
    → r.told.verdict.refusal ≡ Accepted
    → ItsCall tape e (kept_at (day_of row l)) (kept_at (day_of r.row r.told.lasts))
