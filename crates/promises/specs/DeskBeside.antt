-- What stands beside a verdict at the desk. A row of fewer than 32 records is refused by 8 with place 0, whatever is called on it. A refused call says its refusal and
-- place and nothing else, and leaves the rows lent beside the table. An accepted boarding hands out the wants of those who board; an accepted event is told.
use Rattle.std.specs.Prelude.{ℕ, ◌-◌, ◌≤◌, ◌<◌, ◌≡◌, List, length, take, drop, replicate, Option, None}
use Rattle.refusals.specs.declared.Refusal.TheVariants.{Accepted, ShortRow}
use Rattle.refusals.specs.declared.Verdict.{Verdict}
use Rattle.runs.specs.Run.{Run}
use Rattle.planner.specs.Rows.{Rows}
use Rattle.desk_tickets.specs.declared.Ticket.{Ticket}
use Rattle.desk_tickets.specs.declared.Lasts.{Lasts}
use Rattle.desk_boardings.specs.declared.Boarding.{Boarding}
use Rattle.desk_boardings.specs.declared.Boarded.{Boarded}
use Rattle.desk_boardings.specs.declared.BoardedRow.{BoardedRow}
use Rattle.desk_boardings.specs.declared.Wants.{Wants}
use Rattle.desk_boardings.specs.Boardings.{Tape, board_run, Boards}
use Rattle.answer_desk.specs.declared.Event.{Event}
use Rattle.desk_rows.specs.declared.Told.{Told}
use Rattle.desk_rows.specs.Desk.{table_in, BoardsLent}
use Rattle.desk_rows.specs.Events.{day_of, LentAnswered}
use Rattle.demands.specs.Demand1.{OnlyPlace}
use Rattle.promises.specs.Desk.{Kept, Call, filing, withdrawal, boarding, Fits, answered}
use Rattle.promises.specs.DeskRows.{LentFits}
use Rattle.promises.specs.DeskTells.{TextStands}

-- What a call answers, with the place.
abbrev pub verdict_of_call : Call → Verdict
verdict_of_call (filing len f r) = r.filed.verdict
verdict_of_call (withdrawal len w r) = r.withdrawn.verdict
verdict_of_call (boarding len tape b before after r) = record { refusal = r.boarded.answer.refusal; place = r.boarded.answer.place }

-- On a row of fewer than 32 records: of each call, and of each event but a line that is none, which 11 refuses.
abbrev pub ShortRowsRefused : Type 0
ShortRowsRefused =
    (ts exit : List Ticket) (l m : Lasts) (c : Call)
    → LentFits ts l c exit m
    → length ts < 32
    → verdict_of_call c ≡ record { refusal = ShortRow; place = 0 }

abbrev pub ShortRowsAnswered : Type 0
ShortRowsAnswered =
    (ts : List Ticket) (l : Lasts) (tape : Tape) (room out : List ℕ) (e : Option Event) (r : Told) (exit : List Ticket) (room' out' : List ℕ)
    → LentAnswered ts l tape room out e r exit room' out'
    → length ts < 32
    → (e ≡ None → ⊥)
    → r.verdict ≡ record { refusal = ShortRow; place = 0 }

-- A refused boarding: no number of a plan, nobody taken, no wants, and the rows beside the table as they were.
pub record NothingBoards (before after : Rows) (b : Boarded) : Type 0 where
  pub plan : OnlyPlace b.answer
  pub taken : (b.taken.one ≡ 0) × (b.taken.two ≡ 0)
  pub wants : b.wants ≡ record { k = 0; numbers = replicate 8 0; counts = replicate 8 0 }
  pub rows : after ≡ before

-- A refused filing gives no number.
abbrev pub SaysNoMore : Call → Type 0
SaysNoMore (filing len f r) = r.filed.number ≡ 0
SaysNoMore (withdrawal len w r) = Unit {0}
SaysNoMore (boarding len tape b before after r) = NothingBoards before after r.boarded

abbrev pub RefusedSaysNoMore : Type 0
RefusedSaysNoMore = (k next : Kept) (c : Call) → Fits k c next → (answered c ≡ Accepted → ⊥) → SaysNoMore c

-- So on a lent row, of any length.
abbrev pub RefusedRowSaysNoMore : Type 0
RefusedRowSaysNoMore = (ts exit : List Ticket) (l m : Lasts) (c : Call) → LentFits ts l c exit m → (answered c ≡ Accepted → ⊥) → SaysNoMore c

-- The wants in two rows of eight are those of a run, which `WantsAdded` says by the tickets; zeros behind them.
pub record WantsHandedOut (run : Run) (w : Wants) : Type 0 where
  pub many : w.k ≡ length run.numbers
  pub numbers : take w.k w.numbers ≡ run.numbers
  pub counts : take w.k w.counts ≡ run.counts
  pub numbers_behind : drop w.k w.numbers ≡ replicate (8 - w.k) 0
  pub counts_behind : drop w.k w.counts ≡ replicate (8 - w.k) 0

abbrev pub BoardingHandsOutWants : Type 0
BoardingHandsOutWants =
    (len : ℕ) (tape : Tape) (row : List Ticket) (b : Boarding) (before after : Rows) (r : BoardedRow)
    → Boards len tape row b before r after
    → r.boarded.answer.refusal ≡ Accepted
    → WantsHandedOut (board_run tape row b) r.boarded.wants

abbrev pub RowHandsOutWants : Type 0
RowHandsOutWants =
    (ts : List Ticket) (tape : Tape) (b : Boarding) (before : Rows) (r : Boarded) (after : Rows) (exit : List Ticket)
    → BoardsLent ts tape b before r after exit
    → r.answer.refusal ≡ Accepted
    → WantsHandedOut (board_run tape (table_in ts) b) r.wants

-- An event accepted on a lent row: what it tells stands in the row for the text, and the table told of is the one in the row afterwards.
abbrev pub AcceptedAnswerTells : Type 0
AcceptedAnswerTells =
    (ts : List Ticket) (l : Lasts) (tape : Tape) (room out : List ℕ) (e : Option Event) (r : Told) (exit : List Ticket) (room' out' : List ℕ)
    → LentAnswered ts l tape room out e r exit room' out'
    → 32 ≤ length ts
    → r.verdict.refusal ≡ Accepted
    → TextStands (length ts) tape (day_of (table_in ts) l) room out e (day_of (table_in exit) r.lasts) r.bytes out'
