-- What an accepted event leaves in the working room that it was lent. Only a boarding works in it, and leaves what its plan leaves: zero in the words that the plan took,
-- and the later words as they were. The same on a lent row, and by the program.
use Rattle.std.specs.Prelude.{ℕ, ◌≡◌, List, Option, Some, None}
use Rattle.refusals.specs.declared.Refusal.TheVariants.{Accepted}
use Rattle.desk_tickets.specs.declared.Ticket.{Ticket}
use Rattle.desk_tickets.specs.declared.Lasts.{Lasts}
use Rattle.desk_boardings.specs.Boardings.{Tape, board_run}
use Rattle.answer_desk.specs.declared.Day as desk
use Rattle.answer_desk.specs.declared.Event.{Event}
use Rattle.answer_desk.specs.declared.Answered.{Answered}
use Rattle.answer_desk.specs.Days.{EventAnswered}
use Rattle.desk_rows.specs.declared.Told.{Told}
use Rattle.desk_rows.specs.declared.ToldRow.{ToldRow}
use Rattle.desk_rows.specs.Desk.{table_in}
use Rattle.desk_rows.specs.Events.{day_of, LentAnswered, HeldAnswered}
use Rattle.promises.specs.Rooms.{RoomOfPlan}
use Rattle.promises.specs.DeskTells.{boarding_at}

-- By the event. A line that is none is never accepted.
abbrev pub RoomLeft : Tape → desk.Day → List ℕ → Option Event → List ℕ → Type 0
RoomLeft tape day room (Some (Event.File office file count)) room' = room' ≡ room
RoomLeft tape day room (Some (Event.Withdraw office number)) room' = room' ≡ room
RoomLeft tape day room (Some (Event.Board head turn)) room' = RoomOfPlan (board_run tape day.row (boarding_at day head turn)) room room'
RoomLeft tape day room None room' = ⊥

abbrev pub EventLeavesTheRoom : Type 0
EventLeavesTheRoom =
    (len : ℕ) (tape : Tape) (day : desk.Day) (room out : List ℕ) (e : Option Event) (r : Answered) (room' out' : List ℕ)
    → EventAnswered len tape day room out e r room' out'
    → r.verdict.refusal ≡ Accepted
    → RoomLeft tape day room e room'

abbrev pub LentLeavesTheRoom : Type 0
LentLeavesTheRoom =
    (ts : List Ticket) (l : Lasts) (tape : Tape) (room out : List ℕ) (e : Option Event) (r : Told) (exit : List Ticket) (room' out' : List ℕ)
    → LentAnswered ts l tape room out e r exit room' out'
    → r.verdict.refusal ≡ Accepted
    → RoomLeft tape (day_of (table_in ts) l) room e room'

abbrev pub ProgramLeavesTheRoom : Type 0
ProgramLeavesTheRoom =
    (row : List Ticket) (l : Lasts) (tape : Tape) (room out : List ℕ) (e : Option Event) (r : ToldRow) (room' out' : List ℕ)
    → HeldAnswered row l tape room out e r room' out'
    → r.told.verdict.refusal ≡ Accepted
    → RoomLeft tape (day_of row l) room e room'
