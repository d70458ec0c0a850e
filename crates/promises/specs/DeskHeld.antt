-- The same of the functions of `desk_rows`, by which `./violstream desk` goes: `answer_held` on the program's table, `answer` on a lent row of any length.
use Rattle.std.specs.Prelude.{ℕ, ◌≤◌, ◌≡◌, List, [], ◌∷◌, length, Option}
use Rattle.refusals.specs.declared.Refusal.TheVariants.{Accepted}
use Rattle.text_lines.specs.Lines.{line_of}
use Rattle.desk_tickets.specs.declared.Ticket.{Ticket}
use Rattle.desk_tickets.specs.declared.Lasts.{Lasts}
use Rattle.desk_boardings.specs.Boardings.{Tape}
use Rattle.answer_desk.specs.declared.Event.{Event}
use Rattle.answer_desk.specs.Events.{event_of}
use Rattle.desk_rows.specs.declared.Told.{Told}
use Rattle.desk_rows.specs.declared.ToldRow.{ToldRow}
use Rattle.desk_rows.specs.Events.{day_of, LentAnswered, HeldAnswered}
use Rattle.promises.specs.DeskDays.{Exchange, Held, IsADay}
use Rattle.promises.specs.DeskTells.{TextStands}

-- One line by `answer_held`, on a table and last numbers, in a room and on a row of the program's lengths or more; and what is handed on to the next line.
pub record TurnedHeld (tape : Tape) (row : List Ticket) (l : Lasts) (x : Exchange) (next : List Ticket) (m : Lasts) : Type 0 where
  pub room : List ℕ
  pub room' : List ℕ
  pub out : List ℕ
  pub out' : List ℕ
  pub words : 65600 ≤ length room
  pub bytes : 2677 ≤ length out
  pub result : ToldRow
  pub fits : HeldAnswered row l tape room out (event_of (line_of x.line)) result room' out'
  pub says : x.answer ≡ result.told.verdict.refusal
  pub table : next ≡ result.row
  pub leaves : m ≡ result.told.lasts

pub data HeldByTheProgram (tape : Tape) : List Ticket → Lasts → List Exchange → List Ticket → Lasts → Type 0 where
  table_ends : {row : List Ticket} {l : Lasts} → HeldByTheProgram tape row l [] row l
  table_goes_on : {row next last : List Ticket} {l m n : Lasts} {x : Exchange} {xs : List Exchange}
      → TurnedHeld tape row l x next m → HeldByTheProgram tape next m xs last n → HeldByTheProgram tape row l (x ∷ xs) last n

-- Such lines are a day at the desk, from any table; so from an empty one they are calls on one table.
abbrev pub ProgramHoldsADay : Type 0
ProgramHoldsADay =
    (tape : Tape) (row last : List Ticket) (l m : Lasts) (xs : List Exchange)
    → HeldByTheProgram tape row l xs last m
    → Held tape (day_of row l) xs (day_of last m)

abbrev pub ProgramMakesCalls : Type 0
ProgramMakesCalls =
    (tape : Tape) (first last : List Ticket) (l m : Lasts) (xs : List Exchange)
    → HeldByTheProgram tape first l xs last m
    → IsADay tape (day_of first l) xs (day_of last m)

-- What it tells of one line: the text of an accepted event; of a refusal no byte, and all is as it was.
abbrev pub ProgramTells : Type 0
ProgramTells =
    (row : List Ticket) (l : Lasts) (tape : Tape) (room out : List ℕ) (e : Option Event) (r : ToldRow) (room' out' : List ℕ)
    → HeldAnswered row l tape room out e r room' out'
    → r.told.verdict.refusal ≡ Accepted
    → TextStands 32 tape (day_of row l) room out e (day_of r.row r.told.lasts) r.told.bytes out'

abbrev pub ProgramKeeps : Type 0
ProgramKeeps =
    (row : List Ticket) (l : Lasts) (tape : Tape) (room out : List ℕ) (e : Option Event) (r : ToldRow) (room' out' : List ℕ)
    → HeldAnswered row l tape room out e r room' out'
    → (r.told.verdict.refusal ≡ Accepted → ⊥)
    → (r.row ≡ row) × (r.told.lasts ≡ l) × (room' ≡ room) × (out' ≡ out) × (r.told.bytes ≡ 0)

-- An event refused on a lent row, of any length, leaves every record, the last numbers, the room and the row for the text as they were.
abbrev pub RefusedAnswerLeavesTheRow : Type 0
RefusedAnswerLeavesTheRow =
    (ts : List Ticket) (l : Lasts) (tape : Tape) (room out : List ℕ) (e : Option Event) (r : Told) (exit : List Ticket) (room' out' : List ℕ)
    → LentAnswered ts l tape room out e r exit room' out'
    → (r.verdict.refusal ≡ Accepted → ⊥)
    → (exit ≡ ts) × (r.lasts ≡ l) × (room' ≡ room) × (out' ≡ out) × (r.bytes ≡ 0)
