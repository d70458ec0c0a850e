-- What a call gives back, 0 or a refusal's number plus 256 times its place, and what it leaves in every row that was lent: on a refusal all is as it was.
use Rattle.std.specs.Prelude.{ℕ, suc, ◌≡◌, Bool, cond, ◌&&◌, List, [], ◌∷◌, ◌++◌, map, length, drop}
use Rattle.refusals.specs.declared.Verdict.{Verdict}
use Rattle.refusals.specs.Refusals.{is_refusal}
use Rattle.text_bytes.specs.Text.{line_feed, has, behind, is_empty}
use Rattle.text_lines.specs.Lines.{line_of}
use Rattle.planner.specs.Rows.{Rows}
use Rattle.desk_tickets.specs.declared.Ticket.{Ticket}
use Rattle.desk_tickets.specs.declared.Filing.{Filing}
use Rattle.desk_tickets.specs.declared.FiledRow.{FiledRow}
use Rattle.desk_tickets.specs.declared.Withdrawal.{Withdrawal}
use Rattle.desk_tickets.specs.declared.WithdrawnRow.{WithdrawnRow}
use Rattle.desk_tickets.specs.Filings.{file_row}
use Rattle.desk_tickets.specs.Withdrawals.{withdraw_row}
use Rattle.desk_boardings.specs.declared.Boarding.{Boarding}
use Rattle.desk_boardings.specs.declared.Boarded.{Boarded}
use Rattle.desk_boardings.specs.declared.BoardedRow.{BoardedRow}
use Rattle.desk_boardings.specs.Boarders.{boarders}
use Rattle.desk_boardings.specs.Boardings.{Tape, Boards}
use Rattle.answer_desk.specs.declared.Day.{Day}
use Rattle.answer_desk.specs.declared.Answered.{Answered}
use Rattle.answer_desk.specs.Answers.{place_in, verdict_in}
use Rattle.answer_desk.specs.Events.{event_of}
use Rattle.answer_desk.specs.Days.{EventAnswered}
use Rattle.sheet_writer.specs.Writing.{written_row}
use Rattle.desk_waits.specs.Waits.{waiting_text, waiting_verdict}
use Rattle.boundary.specs.Boundary.{code_of, sums_with}
use Rattle.boundary_desk.specs.Records.{table_at, records_with, lasts_in, with_lasts, with_first, places_if}

-- Filing: what is filed, and the answer on the table in the row. 8 for the row of last numbers or that of the number given, as for the row of records.
abbrev pub filing_of : List ℕ → ℕ → ℕ → ℕ → ℕ → Filing
filing_of lasts office file count files = record { office = office; file = file; count = count; files = files; lasts = lasts_in lasts }

unfoldable pub file_call : List (List ℕ) → List ℕ → Filing → List ℕ → FiledRow
file_call rows lasts f given = file_row (places_if 1 given (places_if 2 lasts (length rows))) (table_at rows) f

pub record FileAnswered (done : FiledRow) (rows : List (List ℕ)) (lasts given : List ℕ) (code : ℕ) (rows' : List (List ℕ)) (lasts' given' : List ℕ) : Type 0 where
  pub says : code ≡ code_of done.filed.verdict
  pub rows_are : rows' ≡ cond (is_refusal done.filed.verdict.refusal) rows (records_with done.row rows)
  pub lasts_are : lasts' ≡ cond (is_refusal done.filed.verdict.refusal) lasts (with_lasts done.filed.lasts lasts)
  pub given_is : given' ≡ cond (is_refusal done.filed.verdict.refusal) given (with_first done.filed.number given)

abbrev pub FileCalled : List (List ℕ) → List ℕ → Filing → List ℕ → ℕ → List (List ℕ) → List ℕ → List ℕ → Type 0
FileCalled rows lasts f given code rows' lasts' given' = FileAnswered (file_call rows lasts f given) rows lasts given code rows' lasts' given'

-- Withdrawing: the last numbers are read alone.
abbrev pub withdrawal_of : List ℕ → ℕ → ℕ → Withdrawal
withdrawal_of lasts office number = record { office = office; number = number; lasts = lasts_in lasts }

unfoldable pub withdraw_call : List (List ℕ) → List ℕ → Withdrawal → WithdrawnRow
withdraw_call rows lasts w = withdraw_row (places_if 2 lasts (length rows)) (table_at rows) w

pub record WithdrawAnswered (done : WithdrawnRow) (rows : List (List ℕ)) (code : ℕ) (rows' : List (List ℕ)) : Type 0 where
  pub says : code ≡ code_of done.withdrawn.verdict
  pub rows_are : rows' ≡ cond (is_refusal done.withdrawn.verdict.refusal) rows (records_with done.row rows)

abbrev pub WithdrawCalled : List (List ℕ) → List ℕ → Withdrawal → ℕ → List (List ℕ) → Type 0
WithdrawCalled rows lasts w code rows' = WithdrawAnswered (withdraw_call rows lasts w) rows code rows'

-- Boarding. Who has left: how many of each office, then for each of them the place of its want among the run's wants, counted from 1; later words stay.
abbrev pub boarding_of : List ℕ → ℕ → ℕ → Boarding
boarding_of lasts head turn = record { head = head; turn = turn; lasts = lasts_in lasts }

abbrev pub want_place : Boarded → Ticket → ℕ
want_place b t = suc (place_in t.file b.wants.numbers)

unfoldable pub taken_with : List Ticket → Boarded → List ℕ → List ℕ
taken_with row b words =
    (b.taken.one ∷ b.taken.two ∷ map (want_place b) (boarders row)) ++ drop (suc (suc (length (boarders row)))) words

abbrev pub board_places : List (List ℕ) → List ℕ → List ℕ → List ℕ → ℕ
board_places rows lasts taken sums = places_if 4 sums (places_if 10 taken (places_if 2 lasts (length rows)))

pub record BoardCalled (rows : List (List ℕ)) (lasts : List ℕ) (tape : Tape) (head turn : ℕ) (lent : Rows) (taken sums : List ℕ) (code : ℕ) (rows' : List (List ℕ)) (after : Rows) (taken' sums' : List ℕ) : Type 0 where
  pub done : BoardedRow
  pub boards : Boards (board_places rows lasts taken sums) tape (table_at rows) (boarding_of lasts head turn) lent done after
  pub says : code ≡ code_of (verdict_in done.boarded.answer)
  pub rows_are : rows' ≡ cond (is_refusal done.boarded.answer.refusal) rows (records_with done.row rows)
  pub taken_is : taken' ≡ cond (is_refusal done.boarded.answer.refusal) taken (taken_with (table_at rows) done.boarded taken)
  pub sums_are : sums' ≡ cond (is_refusal done.boarded.answer.refusal) sums (sums_with done.boarded.answer sums)

-- An event at the desk. Its bytes are one line with its LF and nothing behind it; others are no event.
abbrev pub is_line : List ℕ → Bool
is_line bytes = has line_feed bytes && is_empty (behind line_feed bytes)

abbrev pub one_line : List ℕ → List ℕ
one_line bytes = cond (is_line bytes) bytes []

abbrev pub day_at : List (List ℕ) → List ℕ → Day
day_at rows lasts = record { row = table_at rows; lasts = lasts_in lasts }

pub record EventCalled (rows : List (List ℕ)) (lasts : List ℕ) (tape : Tape) (line out room sizes : List ℕ) (code : ℕ) (rows' : List (List ℕ)) (lasts' out' room' sizes' : List ℕ) : Type 0 where
  pub done : Answered
  pub answers : EventAnswered (places_if 1 sizes (places_if 2 lasts (length rows))) tape (day_at rows lasts) room out (event_of (line_of (one_line line))) done room' out'
  pub says : code ≡ code_of done.verdict
  pub rows_are : rows' ≡ cond (is_refusal done.verdict.refusal) rows (records_with done.day.row rows)
  pub lasts_are : lasts' ≡ cond (is_refusal done.verdict.refusal) lasts (with_lasts done.day.lasts lasts)
  pub sizes_are : sizes' ≡ cond (is_refusal done.verdict.refusal) sizes (with_first done.bytes sizes)

-- Who waits: the records are read alone, and 8 for the row that takes the text comes last.
pub record WaitingAnswered (v : Verdict) (text out sizes : List ℕ) (code : ℕ) (out' sizes' : List ℕ) : Type 0 where
  pub says : code ≡ code_of v
  pub out_is : out' ≡ written_row v text out
  pub sizes_are : sizes' ≡ cond (is_refusal v.refusal) sizes (with_first (length text) sizes)

abbrev pub WaitingCalled : List (List ℕ) → List ℕ → List ℕ → ℕ → List ℕ → List ℕ → Type 0
WaitingCalled rows out sizes code out' sizes' =
    WaitingAnswered (waiting_verdict (places_if 1 sizes (length rows)) (table_at rows) out) (waiting_text (table_at rows)) out sizes code out' sizes'
