-- What an accepted call for tickets tells, beside the records that it leaves: the number that a filing is given; of a boarding how many left of each office and the want of each, and
-- the plan's four numbers; the text of an event at the desk; and who waits. Later words of each row stay as they were.
use Rattle.std.specs.Prelude.{ℕ, suc, ◌<◌, ◌≡◌, List, [], ◌∷◌, ◌++◌, length, get_or, take, drop, Option, None}
use Rattle.refusals.specs.declared.Refusal.TheVariants.{Accepted}
use Rattle.runs.specs.Run.{Run}
use Rattle.text_lines.specs.Lines.{line_of}
use Rattle.planner.specs.Rows.{Rows}
use Rattle.desk_tickets.specs.declared.Ticket.{Ticket}
use Rattle.desk_tickets.specs.declared.Filing.{Filing}
use Rattle.desk_tickets.specs.WaitingTable.{last_of}
use Rattle.desk_boardings.specs.declared.Boarding.{Boarding}
use Rattle.desk_boardings.specs.declared.BoardedRow.{BoardedRow}
use Rattle.desk_boardings.specs.Boarders.{boarders}
use Rattle.desk_boardings.specs.Boardings.{Tape, board_run, Boards}
use Rattle.answer_desk.specs.declared.Event.{Event}
use Rattle.answer_desk.specs.Events.{event_of}
use Rattle.desk_waits.specs.Waits.{waiting_text}
use Rattle.boundary_desk.specs.Records.{table_at, lasts_in, places_if}
use Rattle.boundary_desk.specs.Calls.{FileCalled, boarding_of, BoardCalled, one_line, EventCalled, WaitingCalled}
use Rattle.demands.specs.Behind.{BehindPlan}
use Rattle.promises.specs.Desk.{Call, filing, withdrawal, boarding, Fits}
use Rattle.promises.specs.DeskDays.{IsCall}
use Rattle.promises.specs.DeskTells.{TextStands}
use Rattle.promises.specs.DeskRoom.{RoomLeft}
use Rattle.promises_calls.specs.DeskCalls.{kept_in_c, day_in_c}

-- A filing is given the last number of its office, as the row of last numbers then has it.
abbrev pub FileCallTells : Type 0
FileCallTells =
    (rows rows' : List (List ℕ)) (lasts lasts' given given' : List ℕ) (f : Filing) (code : ℕ)
    → FileCalled rows lasts f given code rows' lasts' given'
    → code ≡ 0
    → given' ≡ last_of f.office (lasts_in lasts') ∷ drop 1 given

-- For each of some tickets the place of its file among a run's wants, counted from 1.
pub data AtTheirWants (run : Run) : List Ticket → List ℕ → Type 0 where
  no_more : AtTheirWants run [] []
  one_more : {t : Ticket} {ts : List Ticket} {want : ℕ} {places : List ℕ}
      → want < length run.numbers
      → get_or run.numbers want 0 ≡ t.file
      → AtTheirWants run ts places
      → AtTheirWants run (t ∷ ts) (suc want ∷ places)

pub record BoardTells (run : Run) (row : List Ticket) (done : BoardedRow) (taken sums taken' sums' : List ℕ) : Type 0 where
  pub places : List ℕ
  pub wants : AtTheirWants run (boarders row) places
  pub left : taken' ≡ (done.boarded.taken.one ∷ done.boarded.taken.two ∷ places) ++ drop (suc (suc (length places))) taken
  pub four : sums' ≡ done.boarded.answer.sum ∷ done.boarded.answer.finish ∷ done.boarded.answer.end ∷ done.boarded.answer.detours ∷ drop 4 sums

abbrev pub BoardCallTells : Type 0
BoardCallTells =
    (rows rows' : List (List ℕ)) (lasts taken taken' sums sums' : List ℕ) (tape : Tape) (head turn code : ℕ) (lent after : Rows)
    → (called : BoardCalled rows lasts tape head turn lent taken sums code rows' after taken' sums')
    → code ≡ 0
    → BoardTells (board_run tape (table_at rows) (boarding_of lasts head turn)) (table_at rows) called.done taken sums taken' sums'

-- Every accepted boarding, this call's among them (`boards`), leaves later entries of the rows that it was lent as they were, and the room as a plan does.
abbrev pub BoardBehind : Type 0
BoardBehind =
    (len : ℕ) (tape : Tape) (row : List Ticket) (b : Boarding) (before after : Rows) (r : BoardedRow)
    → Boards len tape row b before r after
    → r.boarded.answer.refusal ≡ Accepted
    → BehindPlan (board_run tape row b) r.boarded.answer.detours before after

-- An event: its text stands in the row, and its bytes are counted in the first word of the row of sizes.
abbrev pub EventCallTells : Type 0
EventCallTells =
    (rows rows' : List (List ℕ)) (lasts lasts' line out out' room room' sizes sizes' : List ℕ) (tape : Tape) (code : ℕ)
    → (called : EventCalled rows lasts tape line out room sizes code rows' lasts' out' room' sizes')
    → code ≡ 0
    → TextStands (places_if 1 sizes (places_if 2 lasts (length rows))) tape (day_in_c rows lasts) room out (event_of (line_of (one_line line))) called.done.day (get_or sizes' 0 0) out'
    × (drop 1 sizes' ≡ drop 1 sizes)

-- The room that it was lent is left as the event leaves it: a filing's and a withdrawal's as it was, a boarding's as its plan does.
abbrev pub EventCallLeavesTheRoom : Type 0
EventCallLeavesTheRoom =
    (rows rows' : List (List ℕ)) (lasts lasts' line out out' room room' sizes sizes' : List ℕ) (tape : Tape) (code : ℕ)
    → EventCalled rows lasts tape line out room sizes code rows' lasts' out' room' sizes'
    → code ≡ 0
    → RoomLeft tape (day_in_c rows lasts) room (event_of (line_of (one_line line))) room'

-- It is a call on the table in the row, which is accepted: what it leaves there is what the call leaves, and later records and words stay.
abbrev pub CallAccepts : Call → Type 0
CallAccepts (filing len f r) = r.filed.verdict.refusal ≡ Accepted
CallAccepts (withdrawal len w r) = r.withdrawn.verdict.refusal ≡ Accepted
CallAccepts (boarding len tape b before after r) = r.boarded.answer.refusal ≡ Accepted

pub record EventIsACall (tape : Tape) (e : Option Event) (rows rows' : List (List ℕ)) (lasts lasts' : List ℕ) : Type 0 where
  pub call : Call
  pub is : IsCall tape e call
  pub accepts : CallAccepts call
  pub fits : Fits (kept_in_c rows lasts) call (kept_in_c rows' lasts')
  pub later : drop 32 rows' ≡ drop 32 rows
  pub words : drop 2 lasts' ≡ drop 2 lasts

abbrev pub EventCallIsACall : Type 0
EventCallIsACall =
    (rows rows' : List (List ℕ)) (lasts lasts' line out out' room room' sizes sizes' : List ℕ) (tape : Tape) (code : ℕ)
    → EventCalled rows lasts tape line out room sizes code rows' lasts' out' room' sizes'
    → code ≡ 0
    → EventIsACall tape (event_of (line_of (one_line line))) rows rows' lasts lasts'

-- Bytes that are no event are refused by 11, without a place, whatever rows were lent.
abbrev pub NoEventCalled : Type 0
NoEventCalled =
    (rows rows' : List (List ℕ)) (lasts lasts' line out out' room room' sizes sizes' : List ℕ) (tape : Tape) (code : ℕ)
    → EventCalled rows lasts tape line out room sizes code rows' lasts' out' room' sizes'
    → event_of (line_of (one_line line)) ≡ None
    → code ≡ 11

-- Who waits: the text of the table in the row's first bytes, and how long it is; refused, both rows as they were.
pub record WaitingTells (row : List Ticket) (out sizes out' sizes' : List ℕ) : Type 0 where
  pub text : take (get_or sizes' 0 0) out' ≡ waiting_text row
  pub counted : get_or sizes' 0 0 ≡ length (waiting_text row)
  pub behind : drop (get_or sizes' 0 0) out' ≡ drop (get_or sizes' 0 0) out
  pub later : drop 1 sizes' ≡ drop 1 sizes

abbrev pub WaitingCallTells : Type 0
WaitingCallTells =
    (rows : List (List ℕ)) (out out' sizes sizes' : List ℕ) (code : ℕ)
    → WaitingCalled rows out sizes code out' sizes'
    → (code ≡ 0 → WaitingTells (table_at rows) out sizes out' sizes') × ((code ≡ 0 → ⊥) → (out' ≡ out) × (sizes' ≡ sizes))
