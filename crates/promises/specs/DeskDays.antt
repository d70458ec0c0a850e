-- Requests L6 and L7 at the terminal: the lines of a day at one tape, each answered by `answer_desk` on the day that the one before it left. Such a day is calls on
-- one table (Desk), so every promise over days holds of `./violstream desk`. A refusal changes nothing, and the rows of the program are long enough.
use Rattle.std.specs.Prelude.{ℕ, ◌≤◌, ◌≡◌, List, [], ◌∷◌, length, drop, replicate, Option, Some, None}
use Rattle.refusals.specs.declared.Refusal.{Refusal}
use Rattle.refusals.specs.declared.Refusal.TheVariants.{Accepted, FileRows, BadFile, TurnPrice, HeadPlace, ShortRow}
use Rattle.refusals.specs.Refusals.{accepted}
use Rattle.runs.specs.Alone.{zeros}
use Rattle.walk.specs.declared.Answer.{Answer}
use Rattle.planner.specs.Rows.{Rows, rows_of}
use Rattle.text_lines.specs.Lines.{line_of}
use Rattle.desk_tickets.specs.declared.Ticket.{Ticket}
use Rattle.desk_tickets.specs.declared.Lasts.{Lasts}
use Rattle.desk_tickets.specs.declared.FiledRow.{FiledRow}
use Rattle.desk_tickets.specs.declared.WithdrawnRow.{WithdrawnRow}
use Rattle.desk_tickets.specs.WaitingTable.{row_of}
use Rattle.desk_boardings.specs.declared.Boarding.{Boarding}
use Rattle.desk_boardings.specs.declared.BoardedRow.{BoardedRow}
use Rattle.desk_boardings.specs.Boardings.{Tape}
use Rattle.answer_desk.specs.declared.Day as desk
use Rattle.answer_desk.specs.declared.Event.{Event}
use Rattle.answer_desk.specs.declared.Answered.{Answered}
use Rattle.answer_desk.specs.Events.{event_of}
use Rattle.answer_desk.specs.Days.{morning_day, EventAnswered}
use Rattle.desk_rows.specs.declared.Told.{Told}
use Rattle.desk_rows.specs.Desk.{table_in}
use Rattle.desk_rows.specs.Events.{day_of, LentAnswered}
use Rattle.demands.specs.RefusalTable.{RunApplies}
use Rattle.promises.specs.Desk.{Kept, at_first, Call, filing, withdrawal, boarding, Day, answered}
use Rattle.promises.specs.DeskWants.{no_wants_on, ForTape}
use Rattle.promises.specs.DeskCases.{ticket, lasts, filed}

-- Whatever is lent: a refusal, 8 for a row too short for the text among them, leaves the table, the last numbers, the working room and the row as they were.
abbrev pub RefusedEventChangesNothing : Type 0
RefusedEventChangesNothing =
    (len : ℕ) (tape : Tape) (day : desk.Day) (room out : List ℕ) (e : Option Event) (r : Answered) (room' out' : List ℕ)
    → EventAnswered len tape day room out e r room' out'
    → (r.verdict.refusal ≡ Accepted → ⊥)
    → (r.day ≡ day) × (room' ≡ room) × (out' ≡ out) × (r.bytes ≡ 0)

-- A row of 2,677 bytes takes every answer: with a table of 32 places or more 8 is never answered.
abbrev pub RowTakesEveryAnswer : Type 0
RowTakesEveryAnswer =
    (len : ℕ) (tape : Tape) (day : desk.Day) (room out : List ℕ) (e : Option Event) (r : Answered) (room' out' : List ℕ)
    → 32 ≤ len
    → 2677 ≤ length out
    → EventAnswered len tape day room out e r room' out'
    → r.verdict.refusal ≡ ShortRow
    → ⊥

-- What was asked and what was answered: a line, and a refusal or acceptance.
pub record Exchange : Type 0 where
  pub line : List ℕ
  pub answer : Refusal

-- One line, answered on a day, in a room and on a row of any content and of the program's lengths or more, with the table in a row of 32 places or more; and
-- the next day.
pub record Turned (tape : Tape) (day : desk.Day) (x : Exchange) (next : desk.Day) : Type 0 where
  pub len : ℕ
  pub room : List ℕ
  pub room' : List ℕ
  pub out : List ℕ
  pub out' : List ℕ
  pub places : 32 ≤ len
  pub words : 65600 ≤ length room
  pub bytes : 2677 ≤ length out
  pub result : Answered
  pub fits : EventAnswered len tape day room out (event_of (line_of x.line)) result room' out'
  pub says : x.answer ≡ result.verdict.refusal
  pub leaves : next ≡ result.day

pub data Held (tape : Tape) : desk.Day → List Exchange → desk.Day → Type 0 where
  ends : {day : desk.Day} → Held tape day [] day
  goes_on : {day next last : desk.Day} {x : Exchange} {xs : List Exchange} → Turned tape day x next → Held tape next xs last → Held tape day (x ∷ xs) last

-- The call that an event is, at one tape, with the numbers of its line; a boarding with rows of eight entries beside the room.
pub data IsCall (tape : Tape) : Option Event → Call → Type 0 where
  a_filing : {len office file count : ℕ} {l : Lasts} {r : FiledRow}
      → IsCall tape (Some (Event.File office file count)) (filing len (record { office = office; file = file; count = count; files = length tape.starts; lasts = l }) r)
  a_withdrawal : {len office number : ℕ} {l : Lasts} {r : WithdrawnRow}
      → IsCall tape (Some (Event.Withdraw office number)) (withdrawal len (record { office = office; number = number; lasts = l }) r)
  a_boarding : {len head turn : ℕ} {l : Lasts} {room : List ℕ} {after : Rows} {r : BoardedRow}
      → IsCall tape (Some (Event.Board head turn)) (boarding len tape (record { head = head; turn = turn; lasts = l }) (rows_of (zeros 8) (zeros 8) (zeros 8) (zeros 8) room) after r)

-- The calls of a day's lines, in order: a line that is an event is its call, and is answered as that; one that is none is no call.
pub data AreCalls (tape : Tape) : List Exchange → List Call → Type 0 where
  no_more : AreCalls tape [] []
  no_event : {x : Exchange} {xs : List Exchange} {cs : List Call} → event_of (line_of x.line) ≡ None → AreCalls tape xs cs → AreCalls tape (x ∷ xs) cs
  an_event : {x : Exchange} {xs : List Exchange} {c : Call} {cs : List Call}
      → IsCall tape (event_of (line_of x.line)) c → x.answer ≡ answered c → AreCalls tape xs cs → AreCalls tape (x ∷ xs) (c ∷ cs)

-- What is kept at the desk is what is kept from call to call.
abbrev pub kept_at : desk.Day → Kept
kept_at day = record { row = day.row; lasts = day.lasts }

-- Lines are a day of calls on what was kept before the first of them: the empty table in the morning, or any other.
pub record IsADay (tape : Tape) (first : desk.Day) (xs : List Exchange) (last : desk.Day) : Type 0 where
  pub calls : List Call
  pub are : AreCalls tape xs calls
  pub day : Day (kept_at first) calls (kept_at last)
  pub one_tape : ForTape tape calls

abbrev pub DayAtTheDesk : Type 0
DayAtTheDesk =
    (kept_at morning_day ≡ at_first)
    × ((tape : Tape) (first last : desk.Day) (xs : List Exchange) → Held tape first xs last → IsADay tape first xs last)

-- The same on a lent row of records, by `desk_rows::answer`: the lines of a day, each on the row and the last numbers that the one before it left.
pub record TurnedOn (tape : Tape) (ts : List Ticket) (l : Lasts) (x : Exchange) (next : List Ticket) (m : Lasts) : Type 0 where
  pub room : List ℕ
  pub room' : List ℕ
  pub out : List ℕ
  pub out' : List ℕ
  pub words : 65600 ≤ length room
  pub bytes : 2677 ≤ length out
  pub result : Told
  pub fits : LentAnswered ts l tape room out (event_of (line_of x.line)) result next room' out'
  pub says : x.answer ≡ result.verdict.refusal
  pub leaves : m ≡ result.lasts

pub data HeldOn (tape : Tape) : List Ticket → Lasts → List Exchange → List Ticket → Lasts → Type 0 where
  row_ends : {ts : List Ticket} {l : Lasts} → HeldOn tape ts l [] ts l
  row_goes_on : {ts next last : List Ticket} {l m n : Lasts} {x : Exchange} {xs : List Exchange}
      → TurnedOn tape ts l x next m → HeldOn tape next m xs last n → HeldOn tape ts l (x ∷ xs) last n

-- It is a day at the desk on the table in the row's first 32 records, and later records stay as they were.
abbrev pub DeskOnALentRow : Type 0
DeskOnALentRow =
    (tape : Tape) (ts last : List Ticket) (l m : Lasts) (xs : List Exchange)
    → 32 ≤ length ts
    → HeldOn tape ts l xs last m
    → Held tape (day_of (table_in ts) l) xs (day_of (table_in last) m) × (drop 32 last ≡ drop 32 ts)

-- A boarding at the desk is accepted, or refused for the turn price (6), the head's place (7) or a bad file of the tape (2); where the tape's rows are as long as each
-- other and not too long, as those of a sheet are.
pub data AtTheDesk : Refusal → Type 0 where
  nothing : AtTheDesk Accepted
  bad_file : AtTheDesk BadFile
  turn_price : AtTheDesk TurnPrice
  head_place : AtTheDesk HeadPlace

abbrev pub BoardsAtTheDesk : Type 0
BoardsAtTheDesk =
    (tape : Tape) (xs : List Exchange) (day next : desk.Day) (x : Exchange) (head turn : ℕ)
    → Held tape morning_day xs day
    → Turned tape day x next
    → event_of (line_of x.line) ≡ Some (Event.Board head turn)
    → ((place : ℕ) → RunApplies (no_wants_on tape) FileRows place → ⊥)
    → AtTheDesk x.answer

-- Worked: document 01's sheet as tickets of both offices. Three filings, and a boarding of all of them that is accepted, with the sum 367.
abbrev pub sheet_tape : Tape
sheet_tape = record { starts = 0 ∷ 10 ∷ 20 ∷ []; lengths = 10 ∷ 4 ∷ 30 ∷ []; aggregates = 0 ∷ 0 ∷ 0 ∷ [] }

abbrev pub filed_so : ℕ → Lasts → List Ticket → FiledRow
filed_so number l row = record { filed = record { verdict = accepted; number = number; lasts = l }; row = row }

abbrev pub sheet_boarding : Boarding
sheet_boarding = record { head = 60; turn = 1; lasts = lasts 2 1 }

abbrev pub sheet_boarded : BoardedRow
sheet_boarded =
    record {
      boarded = record {
        answer = record { refusal = Accepted; place = 0; sum = 367; finish = 121; end = 50; detours = 1 };
        taken = record { one = 2; two = 1 };
        wants = record { k = 3; numbers = 1 ∷ 2 ∷ 3 ∷ zeros 5; counts = 1 ∷ 3 ∷ 1 ∷ zeros 5 };
        lasts = lasts 2 1;
      };
      row = at_first.row;
    }

-- The rows of eight: the detour (2,2), the times and the legs; 54 words of room are cleared.
abbrev pub sheet_after : Rows
sheet_after = rows_of (2 ∷ zeros 7) (2 ∷ zeros 7) (81 ∷ 55 ∷ 121 ∷ zeros 5) (2 ∷ 1 ∷ 2 ∷ zeros 5) (zeros 54)

abbrev pub AcceptedBoardingCase : Type 0
AcceptedBoardingCase =
    Day at_first
    (filing 32 (filed 1 1 1 3 (lasts 0 0)) (filed_so 1 (lasts 1 0) (row_of (ticket 1 1 1 1 ∷ []) []))
    ∷ filing 32 (filed 1 2 3 3 (lasts 1 0)) (filed_so 2 (lasts 2 0) (row_of (ticket 1 1 1 1 ∷ ticket 1 2 3 2 ∷ []) []))
    ∷ filing 32 (filed 2 3 1 3 (lasts 2 0)) (filed_so 1 (lasts 2 1) (row_of (ticket 1 1 1 1 ∷ ticket 1 2 3 2 ∷ []) (ticket 2 3 1 1 ∷ [])))
    ∷ boarding 32 sheet_tape sheet_boarding (rows_of (zeros 8) (zeros 8) (zeros 8) (zeros 8) (replicate 54 7)) sheet_after sheet_boarded
    ∷ [])
    (record { row = at_first.row; lasts = lasts 2 1 })
