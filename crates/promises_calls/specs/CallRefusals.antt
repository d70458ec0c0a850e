-- Demand 1 at the calls for tickets, for an event and for who waits: the code is the number and 256 times the place of the first refusal that applies, each by its own condition; 8 for every
-- short row at one place in the order; and refused, a call leaves everything that was lent as it was.
use Rattle.std.specs.Prelude.{ℕ, ◌+◌, ◌*◌, ◌≤◌, ◌<◌, ◌≡◌, ◌⊎◌, ◌↔◌, List, length}
use Rattle.refusals.specs.declared.Refusal.{Refusal}
use Rattle.refusals.specs.declared.Refusal.TheVariants.{Accepted}
use Rattle.refusals.specs.Refusals.{number_of}
use Rattle.planner.specs.Rows.{Rows}
use Rattle.desk_tickets.specs.declared.Filing.{Filing}
use Rattle.desk_tickets.specs.declared.Withdrawal.{Withdrawal}
use Rattle.desk_boardings.specs.Boardings.{Tape}
use Rattle.boundary_desk.specs.Records.{table_at, places_if}
use Rattle.text_lines.specs.Lines.{line_of}
use Rattle.desk_tickets.specs.declared.Ticket.{Ticket}
use Rattle.desk_tickets.specs.declared.Lasts.{Lasts}
use Rattle.answer_desk.specs.Events.{event_of}
use Rattle.sheet_writer.specs.declared.Written.{Written}
use Rattle.desk_waits.specs.Waits.{waiting_text, WaitingTold}
use Rattle.boundary_desk.specs.Calls.{FileCalled, WithdrawCalled, boarding_of, board_places, BoardCalled, one_line, EventCalled, WaitingCalled}
use Rattle.demands.specs.RefusalTable.{FirstThatApplies, SomeApplies}
use Rattle.promises.specs.Answers.{LinesHanded}
use Rattle.promises.specs.DeskRefusals.{RowApplies, row_order, FilingApplies, filing_order, WithdrawalApplies, withdrawal_order, BoardAnswers}
use Rattle.promises.specs.DeskVerdicts.{OwnVerdict, RowTooShort}
use Rattle.promises_calls.specs.DeskCalls.{day_in_c}

-- The places that a row of records counts for are too few exactly where the row beside it is too short, or the records themselves are.
abbrev pub ShortCounts : Type 0
ShortCounts =
    (least : ℕ) (words : List ℕ) (len : ℕ)
    → (places_if least words len < 32 → (length words < least) ⊎ (len < 32)) × ((length words < least) ⊎ (len < 32) → places_if least words len < 32)

-- So for a boarding: too few exactly where there are fewer than 32 records, two last numbers, ten words for who has left or four for the sums.
abbrev pub BoardCounts : Type 0
BoardCounts =
    (rows : List (List ℕ)) (lasts taken sums : List ℕ)
    → (board_places rows lasts taken sums < 32) ↔ ((length sums < 4) ⊎ ((length taken < 10) ⊎ ((length lasts < 2) ⊎ (length rows < 32))))

-- A code, as a refusal and its place.
pub record CodeSays (Applies : Refusal → ℕ → Type 0) (order : List Refusal) (code : ℕ) : Type 0 where
  pub kind : Refusal
  pub place : ℕ
  pub is : code ≡ number_of kind + 256 * place
  pub first : FirstThatApplies Applies order kind place

abbrev pub FileCallAnswers : Type 0
FileCallAnswers =
    (rows rows' : List (List ℕ)) (lasts lasts' given given' : List ℕ) (f : Filing) (code : ℕ)
    → FileCalled rows lasts f given code rows' lasts' given'
    → CodeSays (FilingApplies (places_if 1 given (places_if 2 lasts (length rows))) (table_at rows) f) filing_order code

abbrev pub WithdrawCallAnswers : Type 0
WithdrawCallAnswers =
    (rows rows' : List (List ℕ)) (lasts : List ℕ) (w : Withdrawal) (code : ℕ)
    → WithdrawCalled rows lasts w code rows'
    → CodeSays (WithdrawalApplies (places_if 2 lasts (length rows)) (table_at rows) w) withdrawal_order code

abbrev pub BoardCallAnswers : Type 0
BoardCallAnswers =
    (rows rows' : List (List ℕ)) (lasts taken taken' sums sums' : List ℕ) (tape : Tape) (head turn code : ℕ) (lent after : Rows)
    → (called : BoardCalled rows lasts tape head turn lent taken sums code rows' after taken' sums')
    → BoardAnswers (board_places rows lasts taken sums) tape (table_at rows) (boarding_of lasts head turn) lent called.done
    × (code ≡ number_of called.done.boarded.answer.refusal + 256 * called.done.boarded.answer.place)

-- An event: 11 where the bytes are none; else the refusal of its filing, withdrawal or boarding that applies first, with 8 of a short row beside the records; or 8,
-- where none of these applies and its text is longer than the row for it.
abbrev pub EventCallAnswers : Type 0
EventCallAnswers =
    (rows rows' : List (List ℕ)) (lasts lasts' line out out' room room' sizes sizes' : List ℕ) (tape : Tape) (code : ℕ)
    → (called : EventCalled rows lasts tape line out room sizes code rows' lasts' out' room' sizes')
    → (code ≡ number_of called.done.verdict.refusal + 256 * called.done.verdict.place)
    × (OwnVerdict (places_if 1 sizes (places_if 2 lasts (length rows))) tape (day_in_c rows lasts) room (event_of (line_of (one_line line))) called.done.verdict
    ⊎ RowTooShort (places_if 1 sizes (places_if 2 lasts (length rows))) tape (day_in_c rows lasts) room out (event_of (line_of (one_line line))) called.done.verdict)

-- Who waits: 8 and 26 of the records, of which every number up to 65,535 may have been given; then 8 of a row shorter than the text.
abbrev pub any_numbers : Lasts
any_numbers = record { one = 65535; two = 65535 }

pub record WaitingRefusals (len : ℕ) (row : List Ticket) (out : List ℕ) (code : ℕ) : Type 0 where
  pub of_records : SomeApplies (RowApplies len row any_numbers) row_order → CodeSays (RowApplies len row any_numbers) row_order code
  pub short : (SomeApplies (RowApplies len row any_numbers) row_order → ⊥) → length out < length (waiting_text row) → code ≡ 8
  pub accepted : (SomeApplies (RowApplies len row any_numbers) row_order → ⊥) → length (waiting_text row) ≤ length out → code ≡ 0

abbrev pub WaitingCallAnswers : Type 0
WaitingCallAnswers =
    (rows : List (List ℕ)) (out out' sizes sizes' : List ℕ) (code : ℕ)
    → WaitingCalled rows out sizes code out' sizes'
    → WaitingRefusals (places_if 1 sizes (length rows)) (table_at rows) out code

-- The same for a caller in Rattle, as a record: by the records' refusals no bytes and the row as it was; else the text in any row, or 8.
pub record WaitingTextTold (len : ℕ) (row : List Ticket) (out : List ℕ) (w : Written) (out' : List ℕ) : Type 0 where
  pub of_records : SomeApplies (RowApplies len row any_numbers) row_order
      → FirstThatApplies (RowApplies len row any_numbers) row_order w.refusal w.place × (w.bytes ≡ 0) × (out' ≡ out)
  pub of_text : (SomeApplies (RowApplies len row any_numbers) row_order → ⊥) → LinesHanded (waiting_text row) out w out'

abbrev pub WaitingIsTold : Type 0
WaitingIsTold = (len : ℕ) (row : List Ticket) (out : List ℕ) (w : Written) (out' : List ℕ) → WaitingTold len row out w out' → WaitingTextTold len row out w out'

-- Refused, nothing that was lent has changed.
abbrev pub RefusedFileKeeps : Type 0
RefusedFileKeeps =
    (rows rows' : List (List ℕ)) (lasts lasts' given given' : List ℕ) (f : Filing) (code : ℕ)
    → FileCalled rows lasts f given code rows' lasts' given'
    → (code ≡ 0 → ⊥)
    → (rows' ≡ rows) × ((lasts' ≡ lasts) × (given' ≡ given))

abbrev pub RefusedWithdrawKeeps : Type 0
RefusedWithdrawKeeps =
    (rows rows' : List (List ℕ)) (lasts : List ℕ) (w : Withdrawal) (code : ℕ) → WithdrawCalled rows lasts w code rows' → (code ≡ 0 → ⊥) → rows' ≡ rows

abbrev pub RefusedBoardKeeps : Type 0
RefusedBoardKeeps =
    (rows rows' : List (List ℕ)) (lasts taken taken' sums sums' : List ℕ) (tape : Tape) (head turn code : ℕ) (lent after : Rows)
    → (called : BoardCalled rows lasts tape head turn lent taken sums code rows' after taken' sums')
    → (called.done.boarded.answer.refusal ≡ Accepted → ⊥)
    → (rows' ≡ rows) × ((after ≡ lent) × ((taken' ≡ taken) × (sums' ≡ sums)))

abbrev pub RefusedEventKeeps : Type 0
RefusedEventKeeps =
    (rows rows' : List (List ℕ)) (lasts lasts' line out out' room room' sizes sizes' : List ℕ) (tape : Tape) (code : ℕ)
    → (called : EventCalled rows lasts tape line out room sizes code rows' lasts' out' room' sizes')
    → (called.done.verdict.refusal ≡ Accepted → ⊥)
    → (rows' ≡ rows) × ((lasts' ≡ lasts) × ((out' ≡ out) × ((room' ≡ room) × (sizes' ≡ sizes))))
