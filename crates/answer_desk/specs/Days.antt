-- What is answered to an event, for every input: the day afterwards, the text in the lent row, and the working room. The refusals of an event are its own,
-- or 11 for a line that is none; last comes 8, for a row shorter than the text. A refusal changes nothing.
use Rattle.std.specs.Prelude.{ℕ, ◌≤◌, ◌<◌, ◌≡◌, true, false, cond, List, ◌++◌, length, drop, replicate, Option, Some, None}
use Rattle.refusals.specs.declared.Refusal.TheVariants.{ShortRow, BadLine}
use Rattle.refusals.specs.declared.Verdict.{Verdict}
use Rattle.refusals.specs.Refusals.{is_refusal, accepted}
use Rattle.runs.specs.Alone.{zeros}
use Rattle.text_pages.specs.Printing.{pair_line}
use Rattle.sheet_writer.specs.declared.Written.{Written}
use Rattle.planner.specs.Rows.{Rows, rows_of}
use Rattle.desk_tickets.specs.declared.Filing.{Filing}
use Rattle.desk_tickets.specs.declared.FiledRow.{FiledRow}
use Rattle.desk_tickets.specs.declared.Withdrawal.{Withdrawal}
use Rattle.desk_tickets.specs.declared.WithdrawnRow.{WithdrawnRow}
use Rattle.desk_tickets.specs.declared.Ticket.{Ticket}
use Rattle.desk_tickets.specs.WaitingTable.{no_ticket, all_places}
use Rattle.desk_tickets.specs.Filings.{file_row}
use Rattle.desk_tickets.specs.Withdrawals.{withdraw_row}
use Rattle.desk_boardings.specs.declared.Boarding.{Boarding}
use Rattle.desk_boardings.specs.declared.BoardedRow.{BoardedRow}
use Rattle.desk_boardings.specs.Boardings.{Tape, Boards}
use Rattle.answer_desk.specs.declared.Day.{Day}
use Rattle.answer_desk.specs.declared.Event.{Event}
use Rattle.answer_desk.specs.declared.Reads.{Reads}
use Rattle.answer_desk.specs.declared.Answered.{Answered}
use Rattle.answer_desk.specs.Answers.{most_text, filed_key, withdrawn_key, verdict_in, boarded_text}

-- A day's beginning: nobody waits and no number is given.
abbrev pub morning_day : Day
morning_day = record { row = replicate all_places no_ticket; lasts = record { one = 0; two = 0 } }

-- No boarding asks for more words of working room: eight wants with 1,024 reads.
abbrev pub most_room : ℕ
most_room = 65600

-- What an event comes to: its verdict; and where that accepts, the day afterwards, the text, and the room as it is left.
pub record Outcome : Type 0 where
  pub verdict : Verdict
  pub next : Day
  pub text : List ℕ
  pub left : List ℕ

-- The answer of a refusal; and that by what was written.
abbrev pub refused_answer : Day → Verdict → Answered
refused_answer day v = record { day = day; verdict = v; bytes = 0 }

abbrev pub answered_by : Day → Day → Written → Answered
answered_by day next w =
    cond (is_refusal w.refusal) (refused_answer day (record { refusal = w.refusal; place = w.place }))
    (record { day = next; verdict = accepted; bytes = w.bytes })

-- Refused: all is as it was.
pub record Refuses (v : Verdict) (day : Day) (room out : List ℕ) (r : Answered) (room' out' : List ℕ) : Type 0 where
  pub says : r ≡ refused_answer day v
  pub same_room : room' ≡ room
  pub same_row : out' ≡ out

-- Accepted: the day afterwards, and the text in the first bytes of the row.
pub record Tells (o : Outcome) (out : List ℕ) (r : Answered) (room' out' : List ℕ) : Type 0 where
  pub says : r ≡ record { day = o.next; verdict = accepted; bytes = length o.text }
  pub left : room' ≡ o.left
  pub handed : out' ≡ o.text ++ drop (length o.text) out

-- The event's own refusal; then 8, where the row is shorter than the text, which never has more than 2,677 bytes; else the text.
pub record AnswersEvent (day : Day) (o : Outcome) (room out : List ℕ) (r : Answered) (room' out' : List ℕ) : Type 0 where
  pub refused : is_refusal o.verdict.refusal ≡ true → Refuses o.verdict day room out r room' out'
  pub most : is_refusal o.verdict.refusal ≡ false → length o.text ≤ most_text
  pub short : is_refusal o.verdict.refusal ≡ false → length out < length o.text → Refuses (record { refusal = ShortRow; place = 0 }) day room out r room' out'
  pub told : is_refusal o.verdict.refusal ≡ false → length o.text ≤ length out → Tells o out r room' out'

-- A filing in the table of a row with so many places: `filed=OFFICE,NUMBER`.
abbrev pub filed_day : FiledRow → Day
filed_day f = record { row = f.row; lasts = f.filed.lasts }

abbrev pub filing_outcome : Filing → FiledRow → List ℕ → Outcome
filing_outcome filing f room =
    record { verdict = f.filed.verdict; next = filed_day f; text = pair_line filed_key filing.office f.filed.number; left = room }

abbrev pub FilingAnswered : ℕ → Day → Filing → List ℕ → Answered → List ℕ → Type 0
FilingAnswered len day filing out r out' =
    (room : List ℕ) → AnswersEvent day (filing_outcome filing (file_row len day.row filing) room) room out r room out'

-- A withdrawal: `withdrawn=OFFICE,NUMBER`.
abbrev pub withdrawn_day : WithdrawnRow → Day
withdrawn_day w = record { row = w.row; lasts = w.withdrawn.lasts }

abbrev pub withdrawal_outcome : Withdrawal → WithdrawnRow → List ℕ → Outcome
withdrawal_outcome withdrawal w room =
    record { verdict = w.withdrawn.verdict; next = withdrawn_day w; text = pair_line withdrawn_key withdrawal.office withdrawal.number; left = room }

abbrev pub WithdrawalAnswered : ℕ → Day → Withdrawal → List ℕ → Answered → List ℕ → Type 0
WithdrawalAnswered len day withdrawal out r out' =
    (room : List ℕ) → AnswersEvent day (withdrawal_outcome withdrawal (withdraw_row len day.row withdrawal) room) room out r room out'

-- A boarding: what it answers and leaves in rows of eight zeros and in the working room; the text of that, by the plan's list, and each ticket's time and
-- leg by its file among the wants.
abbrev pub boarded_day : BoardedRow → Day
boarded_day b = record { row = b.row; lasts = b.boarded.lasts }

abbrev pub rows_lent : List ℕ → Rows
rows_lent room = rows_of (zeros 8) (zeros 8) (zeros 8) (zeros 8) room

abbrev pub reads_boarded : BoardedRow → Rows → Reads
reads_boarded b rows = record { numbers = b.boarded.wants.numbers; times = rows.times; legs = rows.legs }

abbrev pub boarding_text : List Ticket → BoardedRow → Rows → List ℕ
boarding_text row b rows = boarded_text row b.boarded rows.froms rows.tos (reads_boarded b rows)

abbrev pub boarding_outcome : List Ticket → BoardedRow → Rows → Outcome
boarding_outcome row b rows =
    record { verdict = verdict_in b.boarded.answer; next = boarded_day b; text = boarding_text row b rows; left = rows.room }

pub record BoardingAnswered (len : ℕ) (tape : Tape) (day : Day) (b : Boarding) (room out : List ℕ) (r : Answered) (room' out' : List ℕ) : Type 0 where
  pub done : BoardedRow
  pub rows : Rows
  pub boards : Boards len tape day.row b (rows_lent room) done rows
  pub answers : AnswersEvent day (boarding_outcome day.row done rows) room out r room' out'

-- The answer to an event. Only a boarding works in the room. A line that is none is refused by 11.
abbrev pub EventAnswered : ℕ → Tape → Day → List ℕ → List ℕ → Option Event → Answered → List ℕ → List ℕ → Type 0
EventAnswered len tape day room out (Some (Event.File office file count)) r room' out' =
    FilingAnswered len day (record { office = office; file = file; count = count; files = length tape.starts; lasts = day.lasts }) out r out' × (room' ≡ room)
EventAnswered len tape day room out (Some (Event.Withdraw office number)) r room' out' =
    WithdrawalAnswered len day (record { office = office; number = number; lasts = day.lasts }) out r out' × (room' ≡ room)
EventAnswered len tape day room out (Some (Event.Board head turn)) r room' out' =
    BoardingAnswered len tape day (record { head = head; turn = turn; lasts = day.lasts }) room out r room' out'
EventAnswered len tape day room out None r room' out' = Refuses (record { refusal = BadLine; place = 0 }) day room out r room' out'
