-- Request L6: the wants of a boarding are the counts of the tickets taken, added by file; and for a tape table that 1 and 2 accept, whose files the
-- tickets name, a boarding is refused only by 6, 7, 8 or 9.
use Rattle.std.specs.Prelude.{ℕ, suc, ◌+◌, ◌≤◌, ◌<◌, ◌≡◌, cond, List, [], ◌∷◌, eqb, length, get_or}
use Rattle.refusals.specs.declared.Refusal.{Refusal}
use Rattle.refusals.specs.declared.Refusal.TheVariants.{Accepted, FileRows, BadFile, TurnPrice, HeadPlace, ShortRow, ShortRoom}
use Rattle.runs.specs.Run.{Run, run_of}
use Rattle.least.specs.Wants.{reads_of_file}
use Rattle.planner.specs.Rows.{Rows}
use Rattle.desk_tickets.specs.declared.Ticket.{Ticket}
use Rattle.desk_tickets.specs.WaitingTable.{no_ticket, waiting}
use Rattle.desk_boardings.specs.declared.Boarding.{Boarding}
use Rattle.desk_boardings.specs.declared.BoardedRow.{BoardedRow}
use Rattle.desk_boardings.specs.Boarders.{boarders}
use Rattle.desk_boardings.specs.Boardings.{Tape, board_run, Boards}
use Rattle.demands.specs.RefusalTable.{RunApplies}
use Rattle.promises.specs.Desk.{Kept, at_first, IsTable, IsOffice, Call, filing, withdrawal, boarding, Day}

-- The reads of a file that some tickets ask for.
unfoldable pub asked : ℕ → List Ticket → ℕ
asked f [] = 0
asked f (t ∷ ts) = cond (eqb t.file f) t.count 0 + asked f ts

abbrev pub WantsAdded : Type 0
WantsAdded =
    (tape : Tape) (row : List Ticket) (b : Boarding) (f : ℕ)
    → reads_of_file (board_run tape row b).numbers (board_run tape row b).counts f ≡ asked f (boarders row)

-- They stand in order of their files, each with a count that is not 0.
pub record InFileOrder (run : Run) : Type 0 where
  pub rise : (i : ℕ) → suc i < length run.numbers → get_or run.numbers i 0 < get_or run.numbers (suc i) 0
  pub even : length run.counts ≡ length run.numbers
  pub reads : (i : ℕ) → i < length run.counts → 0 < get_or run.counts i 0

abbrev pub WantsInOrder : Type 0
WantsInOrder = (tape : Tape) (row : List Ticket) (b : Boarding) → IsTable (record { row = row; lasts = b.lasts }) → InFileOrder (board_run tape row b)

-- Neither 1 nor 2 applies to the tape table, with no wants on it; and every ticket that waits names one of its files.
abbrev pub no_wants_on : Tape → Run
no_wants_on tape = run_of tape.starts tape.lengths tape.aggregates [] [] 0 0

pub record TapeAccepted (tape : Tape) : Type 0 where
  pub rows : (place : ℕ) → RunApplies (no_wants_on tape) FileRows place → ⊥
  pub files : (place : ℕ) → RunApplies (no_wants_on tape) BadFile place → ⊥

abbrev pub NamesItsFiles : Tape → List Ticket → Type 0
NamesItsFiles tape row = (office i : ℕ) → IsOffice office → i < length (waiting office row) → (get_or (waiting office row) i no_ticket).file ≤ length tape.starts

-- The head's place, the turn price, a row, the room: or nothing.
pub data OnlyTheRun : Refusal → Type 0 where
  nothing : OnlyTheRun Accepted
  turn_price : OnlyTheRun TurnPrice
  head_place : OnlyTheRun HeadPlace
  short_row : OnlyTheRun ShortRow
  short_room : OnlyTheRun ShortRoom

abbrev pub RefusedForTheRun : Type 0
RefusedForTheRun =
    (len : ℕ) (tape : Tape) (row : List Ticket) (b : Boarding) (before after : Rows) (r : BoardedRow)
    → IsTable (record { row = row; lasts = b.lasts })
    → TapeAccepted tape
    → NamesItsFiles tape row
    → Boards len tape row b before r after
    → OnlyTheRun r.boarded.answer.refusal

-- A day's filings are for one tape table: each names its number of files.
abbrev pub ForTape : Tape → List Call → Type 0
ForTape tape [] = Unit {0}
ForTape tape (filing len f r ∷ cs) = (f.files ≡ length tape.starts) × ForTape tape cs
ForTape tape (withdrawal len w r ∷ cs) = ForTape tape cs
ForTape tape (boarding len tape' b before after r ∷ cs) = ForTape tape cs

-- So from an empty table, for one tape table, only these refusals are ever met.
abbrev pub RefusedForTheRunFromEmpty : Type 0
RefusedForTheRunFromEmpty =
    (len : ℕ) (tape : Tape) (k : Kept) (cs : List Call) (b : Boarding) (before after : Rows) (r : BoardedRow)
    → Day at_first cs k
    → ForTape tape cs
    → TapeAccepted tape
    → b.lasts ≡ k.lasts
    → Boards len tape k.row b before r after
    → OnlyTheRun r.boarded.answer.refusal
