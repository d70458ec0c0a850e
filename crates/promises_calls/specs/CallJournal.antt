-- The server's table: events by violstream_event, one after the other on one row of records and one row of last numbers. A journal of those that were accepted, replayed by the
-- program, gives the table that stands in the row.
use Rattle.std.specs.Prelude.{ℕ, ◌≤◌, ◌≡◌, List, [], ◌∷◌, length}
use Rattle.desk_tickets.specs.declared.Ticket.{Ticket}
use Rattle.desk_tickets.specs.declared.Lasts.{Lasts}
use Rattle.desk_boardings.specs.Boardings.{Tape}
use Rattle.boundary_desk.specs.Records.{table_at, lasts_in}
use Rattle.boundary_desk.specs.Calls.{one_line, EventCalled}
use Rattle.promises.specs.DeskDays.{Exchange}
use Rattle.promises.specs.DeskReplay.{Replayed, events_of, accepted_of, lines_of}

-- One event by the call, with rows as long as the header says or longer: what was asked and what was answered.
pub record EventMade (tape : Tape) (rows : List (List ℕ)) (lasts : List ℕ) (x : Exchange) (rows' : List (List ℕ)) (lasts' : List ℕ) : Type 0 where
  pub text : List ℕ
  pub out : List ℕ
  pub out' : List ℕ
  pub room : List ℕ
  pub room' : List ℕ
  pub sizes : List ℕ
  pub sizes' : List ℕ
  pub code : ℕ
  pub records : 32 ≤ length rows
  pub numbers : 2 ≤ length lasts
  pub size : 1 ≤ length sizes
  pub words : 65600 ≤ length room
  pub bytes : 2677 ≤ length out
  pub called : EventCalled rows lasts tape text out room sizes code rows' lasts' out' room' sizes'
  pub asks : x.line ≡ one_line text
  pub says : x.answer ≡ called.done.verdict.refusal

pub data EventsMade (tape : Tape) : List (List ℕ) → List ℕ → List Exchange → List (List ℕ) → List ℕ → Type 0 where
  events_over : {rows : List (List ℕ)} {lasts : List ℕ} → EventsMade tape rows lasts [] rows lasts
  events_then : {rows next last : List (List ℕ)} {lasts m n : List ℕ} {x : Exchange} {xs : List Exchange}
      → EventMade tape rows lasts x next m → EventsMade tape next m xs last n → EventsMade tape rows lasts (x ∷ xs) last n

-- From whatever the rows hold at first: the same table, the same last numbers, and nothing of the journal is refused.
abbrev pub JournalGivesTheRow : Type 0
JournalGivesTheRow =
    (tape : Tape) (rows end : List (List ℕ)) (lasts m : List ℕ) (calls : List Exchange) (last : List Ticket) (n : Lasts) (journal : List Exchange)
    → EventsMade tape rows lasts calls end m
    → Replayed tape (table_at rows) (lasts_in lasts) journal last n
    → lines_of (events_of journal) ≡ lines_of (accepted_of calls)
    → (last ≡ table_at end) × (n ≡ lasts_in m) × (events_of journal ≡ accepted_of calls)
