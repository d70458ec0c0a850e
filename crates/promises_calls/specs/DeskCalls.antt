-- Requests L6 and L7 for a daemon in C. Calls of violstream_file, violstream_withdraw and violstream_board on one row of records and one row of last numbers, one
-- after the other, are a day on the table in the row: so every promise over days holds of them. Later records and later words stay as they were.
use Rattle.std.specs.Prelude.{ℕ, ◌≤◌, ◌≡◌, List, [], ◌∷◌, map, length, get_or, take, drop}
use Rattle.planner.specs.Rows.{Rows}
use Rattle.desk_tickets.specs.declared.Ticket.{Ticket}
use Rattle.desk_boardings.specs.Boardings.{Tape}
use Rattle.answer_desk.specs.declared.Day as desk
use Rattle.boundary_desk.specs.Records.{table_at, lasts_in, places_if}
use Rattle.boundary_desk.specs.Calls.{filing_of, file_call, FileCalled, withdrawal_of, withdraw_call, WithdrawCalled, boarding_of, board_places, BoardCalled}
use Rattle.promises.specs.Desk.{Kept, Call, filing, withdrawal, boarding, Day}

-- The table and the last numbers that two of C's rows hold.
abbrev pub kept_in_c : List (List ℕ) → List ℕ → Kept
kept_in_c rows lasts = record { row = table_at rows; lasts = lasts_in lasts }

-- The same as the day that an event is answered on.
abbrev pub day_in_c : List (List ℕ) → List ℕ → desk.Day
day_in_c rows lasts = record { row = table_at rows; lasts = lasts_in lasts }

-- What two of C's rows hold, of a row of records that is long enough: each of its first 32 records is a ticket, with office, file, count and number in this order; the
-- first word of the other is the last number of office 1, its second that of office 2.
abbrev pub ticket_on : List ℕ → Ticket
ticket_on words = record { office = get_or words 0 0; file = get_or words 1 0; count = get_or words 2 0; number = get_or words 3 0 }

abbrev pub RecordsAreTickets : Type 0
RecordsAreTickets =
    (rows : List (List ℕ)) (lasts : List ℕ)
    → 32 ≤ length rows
    → (table_at rows ≡ map ticket_on (take 32 rows)) × (lasts_in lasts ≡ record { one = get_or lasts 0 0; two = get_or lasts 1 0 })

-- A call that fits its contract, as a call on the table: what was handed in, what came back, and both rows afterwards.
pub data CallFits : List (List ℕ) → List ℕ → Call → List (List ℕ) → List ℕ → Type 0 where
  c_files : {rows rows' : List (List ℕ)} {lasts lasts' given given' : List ℕ} {office file count files code : ℕ}
      → FileCalled rows lasts (filing_of lasts office file count files) given code rows' lasts' given'
      → CallFits rows lasts
      (filing (places_if 1 given (places_if 2 lasts (length rows))) (filing_of lasts office file count files) (file_call rows lasts (filing_of lasts office file count files) given))
      rows' lasts'
  c_withdraws : {rows rows' : List (List ℕ)} {lasts : List ℕ} {office number code : ℕ}
      → WithdrawCalled rows lasts (withdrawal_of lasts office number) code rows'
      → CallFits rows lasts
      (withdrawal (places_if 2 lasts (length rows)) (withdrawal_of lasts office number) (withdraw_call rows lasts (withdrawal_of lasts office number)))
      rows' lasts
  c_boards : {rows rows' : List (List ℕ)} {lasts taken taken' sums sums' : List ℕ} {tape : Tape} {head turn code : ℕ} {lent after : Rows}
      → (called : BoardCalled rows lasts tape head turn lent taken sums code rows' after taken' sums')
      → CallFits rows lasts (boarding (board_places rows lasts taken sums) tape (boarding_of lasts head turn) lent after called.done) rows' lasts

pub data CallsMade : List (List ℕ) → List ℕ → List Call → List (List ℕ) → List ℕ → Type 0 where
  calls_over : {rows : List (List ℕ)} {lasts : List ℕ} → CallsMade rows lasts [] rows lasts
  calls_then : {rows next last : List (List ℕ)} {lasts m n : List ℕ} {c : Call} {cs : List Call}
      → CallFits rows lasts c next m → CallsMade next m cs last n → CallsMade rows lasts (c ∷ cs) last n

abbrev pub CallsAreADay : Type 0
CallsAreADay =
    (rows last : List (List ℕ)) (lasts m : List ℕ) (cs : List Call)
    → CallsMade rows lasts cs last m
    → Day (kept_in_c rows lasts) cs (kept_in_c last m) × ((drop 32 last ≡ drop 32 rows) × (drop 2 m ≡ drop 2 lasts))
