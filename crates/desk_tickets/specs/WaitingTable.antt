-- The waiting table: 32 records, 16 places for each office, office 1's first; each office's tickets in order of filing, their numbers ascending, then its
-- empty places.
use Rattle.std.specs.Prelude.{ℕ, suc, ◌-◌, ◌≤◌, ◌<◌, ◌≡◌, Bool, true, not, cond, ◌&&◌, ◌||◌, List, [], ◌∷◌, ◌++◌, length, get_or, take, drop, replicate, ltb, leb, eqb}
use Rattle.refusals.specs.declared.Refusal.TheVariants.{ShortRow, BadRecord}
use Rattle.refusals.specs.declared.Verdict.{Verdict}
use Rattle.refusals.specs.Refusals.{refuse_if, refuse_at, first_of, first_where}
use Rattle.runs.specs.Run.{most_files}
use Rattle.desk_tickets.specs.declared.Ticket.{Ticket}
use Rattle.desk_tickets.specs.declared.Lasts.{Lasts}

-- The offices, 1 and 2; the places of one office, and of both.
abbrev pub offices : ℕ
offices = 2

abbrev pub places : ℕ
places = 16

abbrev pub all_places : ℕ
all_places = 32

-- The most reads that one ticket asks for.
abbrev pub most_count : ℕ
most_count = 128

-- An empty place: all fields 0.
abbrev pub no_ticket : Ticket
no_ticket = record { office = 0; file = 0; count = 0; number = 0 }

abbrev pub is_empty_place : Ticket → Bool
is_empty_place t = eqb t.office 0 && eqb t.file 0 && eqb t.count 0 && eqb t.number 0

-- Whether a number is one of 1 to `most`.
abbrev pub up_to : ℕ → ℕ → Bool
up_to most n = not (eqb n 0) && leb n most

-- The last number given to an office.
abbrev pub last_of : ℕ → Lasts → ℕ
last_of office l = cond (eqb office 2) l.two l.one

-- Whether a record is a ticket of an office whose last number is `last`.
abbrev pub is_ticket : ℕ → ℕ → Ticket → Bool
is_ticket office last t =
    eqb t.office office && up_to most_files t.file && up_to most_count t.count && up_to last t.number

-- Whether a ticket may stand directly behind a record of the same office: that is a ticket, and numbers ascend.
abbrev pub follows : Ticket → Ticket → Bool
follows ahead t = not (is_empty_place ahead) && ltb ahead.number t.number

-- The first place of an office, counted from 0, and its places.
abbrev pub first_place : ℕ → ℕ
first_place office = cond (eqb office 2) places 0

abbrev pub half : ℕ → List Ticket → List Ticket
half office row = take places (drop (first_place office) row)

-- The tickets of some places: those before the first empty one.
unfoldable pub tickets_in : List Ticket → List Ticket
tickets_in [] = []
tickets_in (t ∷ ts) = cond (is_empty_place t) [] (t ∷ tickets_in ts)

-- The tickets of an office that wait, in order of filing.
abbrev pub waiting : ℕ → List Ticket → List Ticket
waiting office row = tickets_in (half office row)

-- Tickets at the places of an office, then its empty places; and the row of both offices.
abbrev pub placed : List Ticket → List Ticket
placed ts = ts ++ replicate (places - length ts) no_ticket

abbrev pub row_of : List Ticket → List Ticket → List Ticket
row_of ones twos = placed ones ++ placed twos

-- Tickets of an office, no more than it has places for, their numbers ascending.
pub record Waits (office last : ℕ) (ts : List Ticket) : Type 0 where
  pub few : length ts ≤ places
  pub each : (i : ℕ) → i < length ts → is_ticket office last (get_or ts i no_ticket) ≡ true
  pub ascends : (i : ℕ) → suc i < length ts → (get_or ts i no_ticket).number < (get_or ts (suc i) no_ticket).number

-- A sound row: these tickets wait at office 1, those at office 2, and nothing else stands in it.
pub record Sound (lasts : Lasts) (ones twos row : List Ticket) : Type 0 where
  pub one : Waits 1 lasts.one ones
  pub two : Waits 2 lasts.two twos
  pub is : row ≡ row_of ones twos

-- The office whose place a record has, by its index from 0, and whether it is that office's first.
abbrev pub office_at : ℕ → ℕ
office_at i = cond (ltb i places) 1 2

abbrev pub is_first_place : ℕ → Bool
is_first_place i = eqb i 0 || eqb i places

-- Whether a record has one before it at the same office, and does not follow it.
abbrev pub is_out_of_turn : List Ticket → ℕ → Bool
is_out_of_turn row i = not (is_first_place i) && not (follows (get_or row (i - 1) no_ticket) (get_or row i no_ticket))

-- 26: neither empty nor a ticket of its place's office, or a ticket directly behind an empty place or a number that is not below its own.
abbrev pub bad_record : Lasts → List Ticket → ℕ → Bool
bad_record l row i =
    not (is_empty_place (get_or row i no_ticket))
    && (not (is_ticket (office_at i) (last_of (office_at i) l) (get_or row i no_ticket)) || is_out_of_turn row i)

-- 8, by the number of places of the lent row, then 26 with the first bad record.
unfoldable pub records_verdict : ℕ → List Ticket → Lasts → Verdict
records_verdict len row l =
    first_of
    (refuse_if (ltb len all_places) ShortRow
    ∷ refuse_at (first_where (bad_record l row) all_places) BadRecord
    ∷ [])

-- Once the first tickets of each office have left: those behind them move up.
unfoldable pub row_without : ℕ → ℕ → List Ticket → List Ticket
row_without one two row = placed (drop one (half 1 row)) ++ placed (drop two (half 2 row))
