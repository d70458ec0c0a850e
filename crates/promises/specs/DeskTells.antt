-- What the desk tells, in words of its own: an accepted event's text stands in the first bytes of the lent row, and later bytes stay.
use Rattle.std.specs.Prelude.{ℕ, suc, ◌≤◌, ◌<◌, ◌≡◌, List, [], ◌∷◌, ◌++◌, length, get_or, take, drop, Option, Some, None}
use Rattle.refusals.specs.declared.Refusal.TheVariants.{Accepted}
use Rattle.runs.specs.Run.{Run}
use Rattle.runs.specs.Alone.{zeros}
use Rattle.walk.specs.declared.Answer.{Answer}
use Rattle.planner.specs.Rows.{Rows, rows_of}
use Rattle.text_bytes.specs.Text.{bytes, decimal}
use Rattle.desk_tickets.specs.declared.Ticket.{Ticket}
use Rattle.desk_tickets.specs.WaitingTable.{last_of}
use Rattle.desk_boardings.specs.declared.Taken.{Taken}
use Rattle.desk_boardings.specs.declared.Boarding.{Boarding}
use Rattle.desk_boardings.specs.declared.BoardedRow.{BoardedRow}
use Rattle.desk_boardings.specs.Boarders.{boarders}
use Rattle.desk_boardings.specs.Boardings.{Tape, board_run, Boards}
use Rattle.answer_desk.specs.declared.Day as desk
use Rattle.answer_desk.specs.declared.Event.{Event}
use Rattle.answer_desk.specs.declared.Answered.{Answered}
use Rattle.answer_desk.specs.Days.{EventAnswered}
use Rattle.promises.specs.Texts.{pair, triple}

-- A filing: the number told is one more than its office's last before, and the last afterwards.
pub record FilingTold (day : desk.Day) (office : ℕ) (next : desk.Day) (text : List ℕ) : Type 0 where
  pub number : ℕ
  pub counts : number ≡ suc (last_of office day.lasts)
  pub last : last_of office next.lasts ≡ number
  pub line : text ≡ bytes "filed=" ++ pair office number ++ bytes "\n"

-- A boarding: how many of each office, and the plan's numbers.
abbrev pub boarded_lines : Taken → Answer → List ℕ
boarded_lines taken a =
    (bytes "boarded=" ++ pair taken.one taken.two ++ bytes "\n")
    ++ (bytes "sum=" ++ decimal a.sum ++ bytes "\n")
    ++ (bytes "finish=" ++ decimal a.finish ++ bytes "\n")
    ++ (bytes "end=" ++ decimal a.end ++ bytes "\n")
    ++ (bytes "detours=" ++ decimal a.detours ++ bytes "\n")

abbrev pub detour_lines : List ℕ → List ℕ → List ℕ
detour_lines [] tos = []
detour_lines (a ∷ froms) [] = []
detour_lines (a ∷ froms) (b ∷ tos) = (bytes "detour=" ++ pair a b ++ bytes "\n") ++ detour_lines froms tos

-- `ticket=OFFICE,NUMBER,FILE,COUNT,TIME,LEG`.
abbrev pub leave_line : Ticket → ℕ → ℕ → List ℕ
leave_line t time leg =
    bytes "ticket=" ++ pair t.office t.number ++ bytes "," ++ decimal t.file ++ (bytes "," ++ triple t.count time leg ++ bytes "\n")

-- One such line for each of some tickets, in their order, with the time and the leg that the rows hold for the want of its file.
pub data Leave (run : Run) (after : Rows) : List Ticket → List ℕ → Type 0 where
  none_left : Leave run after [] []
  one_leaves : {t : Ticket} {ts : List Ticket} {text : List ℕ} {want : ℕ}
      → want < length run.numbers
      → get_or run.numbers want 0 ≡ t.file
      → Leave run after ts text
      → Leave run after (t ∷ ts) (leave_line t (get_or after.times want 0) (get_or after.legs want 0) ++ text)

abbrev pub boarding_at : desk.Day → ℕ → ℕ → Boarding
boarding_at day head turn = record { head = head; turn = turn; lasts = day.lasts }

-- These lines, the plan's detours, and the lines of those who board, for an accepted boarding that leaves the day afterwards.
pub record BoardingTold (len : ℕ) (tape : Tape) (day : desk.Day) (room : List ℕ) (head turn : ℕ) (next : desk.Day) (text : List ℕ) : Type 0 where
  pub done : BoardedRow
  pub after : Rows
  pub boards : Boards len tape day.row (boarding_at day head turn) (rows_of (zeros 8) (zeros 8) (zeros 8) (zeros 8) room) done after
  pub accepts : done.boarded.answer.refusal ≡ Accepted
  pub leaves : next ≡ record { row = done.row; lasts = done.boarded.lasts }
  pub closing : List ℕ
  pub closes : Leave (board_run tape day.row (boarding_at day head turn)) after (boarders day.row) closing
  pub lines : text
      ≡ boarded_lines done.boarded.taken done.boarded.answer
      ++ detour_lines (take done.boarded.answer.detours after.froms) (take done.boarded.answer.detours after.tos)
      ++ closing

-- The text by the event. A line that is none is never accepted.
abbrev pub EventTold : ℕ → Tape → desk.Day → List ℕ → Option Event → desk.Day → List ℕ → Type 0
EventTold len tape day room (Some (Event.File office file count)) next text = FilingTold day office next text
EventTold len tape day room (Some (Event.Withdraw office number)) next text = text ≡ bytes "withdrawn=" ++ pair office number ++ bytes "\n"
EventTold len tape day room (Some (Event.Board head turn)) next text = BoardingTold len tape day room head turn next text
EventTold len tape day room None next text = ⊥

-- It stands in the row: at least one byte, and no byte behind it has changed.
pub record TextStands (len : ℕ) (tape : Tape) (day : desk.Day) (room out : List ℕ) (e : Option Event) (next : desk.Day) (n : ℕ) (out' : List ℕ) : Type 0 where
  pub some : 0 < n
  pub within : n ≤ length out
  pub whole : length (take n out') ≡ n
  pub text : EventTold len tape day room e next (take n out')
  pub later : drop n out' ≡ drop n out

abbrev pub AcceptedEventTells : Type 0
AcceptedEventTells =
    (len : ℕ) (tape : Tape) (day : desk.Day) (room out : List ℕ) (e : Option Event) (r : Answered) (room' out' : List ℕ)
    → EventAnswered len tape day room out e r room' out'
    → r.verdict.refusal ≡ Accepted
    → TextStands len tape day room out e r.day r.bytes out'
