-- A journal of a day at the desk: the lines of the events that were accepted, with remarks between them. Replayed by the program it gives the table and the last
-- numbers that the calls gave which it was written from, however many those were and whatever was refused between them.
use Rattle.std.specs.Prelude.{ℕ, ◌≤◌, ◌≡◌, Bool, true, false, cond, List, [], ◌∷◌, map, length}
use Rattle.refusals.specs.declared.Refusal.{Refusal}
use Rattle.refusals.specs.declared.Refusal.TheVariants.{Accepted}
use Rattle.refusals.specs.Refusals.{is_refusal, accepted}
use Rattle.desk_tickets.specs.declared.Ticket.{Ticket}
use Rattle.desk_tickets.specs.declared.Lasts.{Lasts}
use Rattle.desk_boardings.specs.Boardings.{Tape}
use Rattle.desk_rows.specs.declared.ToldRow.{ToldRow}
use Rattle.desk_rows.specs.Desk.{table_in}
use Rattle.desk_rows.specs.Journal.{is_remark, LineTaken}
use Rattle.promises.specs.DeskDays.{Exchange, HeldOn}
use Rattle.promises.specs.DeskHeld.{HeldByTheProgram}

-- One line of a journal by `take_line`, which the program calls, on a table and last numbers, in a room and on a row of the program's lengths or more.
pub record TurnedLine (tape : Tape) (row : List Ticket) (l : Lasts) (x : Exchange) (next : List Ticket) (m : Lasts) : Type 0 where
  pub room : List ℕ
  pub room' : List ℕ
  pub out : List ℕ
  pub out' : List ℕ
  pub words : 65600 ≤ length room
  pub bytes : 2677 ≤ length out
  pub result : ToldRow
  pub fits : LineTaken row l tape room out x.line result room' out'
  pub says : x.answer ≡ result.told.verdict.refusal
  pub table : next ≡ result.row
  pub leaves : m ≡ result.told.lasts

pub data Replayed (tape : Tape) : List Ticket → Lasts → List Exchange → List Ticket → Lasts → Type 0 where
  journal_ends : {row : List Ticket} {l : Lasts} → Replayed tape row l [] row l
  journal_goes_on : {row next last : List Ticket} {l m n : Lasts} {x : Exchange} {xs : List Exchange}
      → TurnedLine tape row l x next m → Replayed tape next m xs last n → Replayed tape row l (x ∷ xs) last n

-- A remark changes nothing, neither the table, nor the last numbers, nor what is lent, and is not refused: the day goes on.
abbrev pub RemarkChangesNothing : Type 0
RemarkChangesNothing =
    (row : List Ticket) (l : Lasts) (tape : Tape) (room out line : List ℕ) (r : ToldRow) (room' out' : List ℕ)
    → LineTaken row l tape room out line r room' out'
    → is_remark line ≡ true
    → (r.row ≡ row) × (r.told.lasts ≡ l) × (r.told.bytes ≡ 0) × (room' ≡ room) × (out' ≡ out) × (r.told.verdict ≡ accepted)

-- The lines that are no remarks, and what was answered to them.
unfoldable pub events_of : List Exchange → List Exchange
events_of [] = []
events_of (x ∷ xs) = cond (is_remark x.line) (events_of xs) (x ∷ events_of xs)

-- So a journal is the day of its events.
abbrev pub RemarksPassedOver : Type 0
RemarksPassedOver =
    (tape : Tape) (row last : List Ticket) (l m : Lasts) (xs : List Exchange)
    → Replayed tape row l xs last m
    → HeldByTheProgram tape row l (events_of xs) last m

-- The exchanges that were accepted, in their order; and the lines of exchanges.
unfoldable pub accepted_of : List Exchange → List Exchange
accepted_of [] = []
accepted_of (x ∷ xs) = cond (is_refusal x.answer) (accepted_of xs) (x ∷ accepted_of xs)

abbrev pub lines_of : List Exchange → List (List ℕ)
lines_of xs = map (λ x. x.line) xs

-- Calls on a row of records, from a table and last numbers on; and a journal with the lines of those that were accepted, replayed from there: the same table, the
-- same last numbers, and nothing is refused.
abbrev pub JournalGivesTheTable : Type 0
JournalGivesTheTable =
    (tape : Tape) (ts end : List Ticket) (l m : Lasts) (calls : List Exchange) (last : List Ticket) (n : Lasts) (journal : List Exchange)
    → 32 ≤ length ts
    → HeldOn tape ts l calls end m
    → Replayed tape (table_in ts) l journal last n
    → lines_of (events_of journal) ≡ lines_of (accepted_of calls)
    → (last ≡ table_in end) × (n ≡ m) × (events_of journal ≡ accepted_of calls)
