-- What each call's contract says, from the promises of what it calls: the table out of the row, the work by value, the rows written where it is accepted.
use Prim.Native.Nat.{ℕ, ◌≤◌}
use mathlib.Core.Path.{◌≡◌, refl, sym, ap, ◌∙◌}
use mathlib.Core.Bool.{Bool, true, false}
use mathlib.Core.List.{List}
use lib.ListN.{length}
use Rattle.refusals.specs.Refusals.{is_refusal}
use Rattle.desk_tickets.specs.declared.Ticket.{Ticket}
use Rattle.desk_tickets.specs.declared.Lasts.{Lasts}
use Rattle.desk_tickets.specs.declared.FiledRow.{FiledRow}
use Rattle.desk_tickets.specs.declared.WithdrawnRow.{WithdrawnRow}
use Rattle.desk_tickets.specs.Filings.{file_row}
use Rattle.desk_tickets.specs.Withdrawals.{withdraw_row}
use Rattle.planner.specs.Rows.{Rows}
use Rattle.desk_boardings.specs.declared.BoardedRow.{BoardedRow}
use Rattle.desk_boardings.specs.Boardings.{Tape, Boards}
use Rattle.answer_desk.specs.Answers.{verdict_in}
use Rattle.answer_desk.specs.declared.Answered.{Answered}
use Rattle.answer_desk.specs.Events.{event_of}
use Rattle.answer_desk.specs.Days.{EventAnswered}
use Rattle.text_lines.specs.Lines.{line_of}
use Rattle.boundary.specs.Boundary.{code_of, sums_with}
use Rattle.boundary_desk.specs.Records.{table_at, records_with, lasts_in, with_lasts, with_first, places_if}
use Rattle.boundary_desk.specs.Calls.{filing_of, file_call, FileAnswered, FileCalled, withdrawal_of, withdraw_call, WithdrawAnswered, WithdrawCalled, boarding_of, board_places, taken_with, BoardCalled, one_line, EventCalled}
use Rattle.boundary_desk.specs.Private.{CanSettle, Settled}
use Rattle.boundary_desk.proofs.Filling.{table_long}
use Rattle.boundary_desk.proofs.Taking.{leaves_so}
use Rattle.boundary_desk.proofs.Calling.{lent_long, filing_long, withdrawal_long, boarding_near, boarding_long, event_near, event_long}

-- The rows of an accepted call: the records, the last numbers, and a row for one number beside them.
pub record Fit (rows : List (List ℕ)) (lasts beside : List ℕ) : Type 0 where
  pub records : 32 ≤ length rows
  pub numbers : 2 ≤ length lasts
  pub one : 1 ≤ length beside

fit_by : (rows : List (List ℕ)) (lasts beside : List ℕ) (fit len : ℕ) → fit ≡ places_if 2 lasts (length rows) → len ≡ places_if 1 beside fit → 32 ≤ len → Fit rows lasts beside
fit_by rows lasts beside fit len fit_is len_is l =
    let outer = lent_long 1 beside fit (rw len_is at l) in
    let inner = lent_long 2 lasts (length rows) (rw fit_is at outer.places) in
    record { records = inner.places; numbers = inner.beside; one = outer.beside }

module _ (rows : List (List ℕ)) (lasts given : List ℕ) (office file count files : ℕ) (row : List Ticket) (l : Lasts) (fit len : ℕ) (done : FiledRow)
    (row_is : row ≡ table_at rows)
    (l-is : l ≡ lasts_in lasts)
    (fit_is : fit ≡ places_if 2 lasts (length rows))
    (len_is : len ≡ places_if 1 given fit)
    (done-is : done ≡ file_row len row (record { office = office; file = file; count = count; files = files; lasts = l }))
    (flag : Bool) (flag_is : flag ≡ is_refusal done.filed.verdict.refusal) where
  file_is : done ≡ file_call rows lasts (filing_of lasts office file count files) given
  unfolding file_call
  file_is = rw (row_is, l-is, len_is, fit_is) at done-is

  pub file_fits : flag ≡ false → Fit rows lasts given
  file_fits e = fit_by rows lasts given fit len fit_is len_is (filing_long len row _ done done-is (sym flag_is ∙ e))

  so : (code : ℕ) (rows' : List (List ℕ)) (lasts' given' : List ℕ) → FileAnswered done rows lasts given code rows' lasts' given'
      → FileCalled rows lasts (filing_of lasts office file count files) given code rows' lasts' given'
  so code rows' lasts' given' p = rw file_is at p

  pub file_refused : flag ≡ true → (code : ℕ) → code ≡ code_of done.filed.verdict → FileCalled rows lasts (filing_of lasts office file count files) given code rows lasts given
  file_refused e code says =
      let h : is_refusal done.filed.verdict.refusal ≡ true = sym flag_is ∙ e in
      so code rows lasts given (record { says = says; rows_are = rw h refl; lasts_are = rw h refl; given_is = rw h refl })

  pub file_done : flag ≡ false → (code : ℕ) → code ≡ code_of done.filed.verdict
      → (rows' : List (List ℕ)) → rows' ≡ records_with done.row rows
      → (lasts' : List ℕ) → lasts' ≡ with_lasts done.filed.lasts lasts
      → (given' : List ℕ) → given' ≡ with_first done.filed.number given
      → FileCalled rows lasts (filing_of lasts office file count files) given code rows' lasts' given'
  file_done e code says rows' rows_are lasts' Lasts-are given' given_is =
      let h : is_refusal done.filed.verdict.refusal ≡ false = sym flag_is ∙ e in
      so code rows' lasts' given' (record { says = says; rows_are = rw h rows_are; lasts_are = rw h Lasts-are; given_is = rw h given_is })

module _ (rows : List (List ℕ)) (lasts : List ℕ) (office number : ℕ) (row : List Ticket) (l : Lasts) (len : ℕ) (done : WithdrawnRow)
    (row_is : row ≡ table_at rows)
    (l-is : l ≡ lasts_in lasts)
    (len_is : len ≡ places_if 2 lasts (length rows))
    (done-is : done ≡ withdraw_row len row (record { office = office; number = number; lasts = l }))
    (flag : Bool) (flag_is : flag ≡ is_refusal done.withdrawn.verdict.refusal) where
  withdraw_is : done ≡ withdraw_call rows lasts (withdrawal_of lasts office number)
  unfolding withdraw_call
  withdraw_is = rw (row_is, l-is, len_is) at done-is

  pub withdraw_fits : flag ≡ false → 32 ≤ length rows
  withdraw_fits e = (lent_long 2 lasts (length rows) (rw len_is at (withdrawal_long len row _ done done-is (sym flag_is ∙ e)))).places

  pub withdraw_refused : flag ≡ true → (code : ℕ) → code ≡ code_of done.withdrawn.verdict → WithdrawCalled rows lasts (withdrawal_of lasts office number) code rows
  withdraw_refused e code says =
      let h : is_refusal done.withdrawn.verdict.refusal ≡ true = sym flag_is ∙ e in
      let p : WithdrawAnswered done rows code rows = record { says = says; rows_are = rw h refl } in
      rw withdraw_is at p

  pub withdraw_done : flag ≡ false → (code : ℕ) → code ≡ code_of done.withdrawn.verdict → (rows' : List (List ℕ)) → rows' ≡ records_with done.row rows
      → WithdrawCalled rows lasts (withdrawal_of lasts office number) code rows'
  withdraw_done e code says rows' rows_are =
      let h : is_refusal done.withdrawn.verdict.refusal ≡ false = sym flag_is ∙ e in
      let p : WithdrawAnswered done rows code rows' = record { says = says; rows_are = rw h rows_are } in
      rw withdraw_is at p

module _ (rows : List (List ℕ)) (lasts sizes : List ℕ) (tape : Tape) (line out room : List ℕ) (row : List Ticket) (l : Lasts) (fit len : ℕ) (read : List ℕ) (done : Answered) (room' out' : List ℕ)
    (row_is : row ≡ table_at rows)
    (l-is : l ≡ lasts_in lasts)
    (fit_is : fit ≡ places_if 2 lasts (length rows))
    (len_is : len ≡ places_if 1 sizes fit)
    (read_is : read ≡ one_line line)
    (answers : EventAnswered len tape (record { row = row; lasts = l }) room out (event_of (line_of read)) done room' out') where
  here : EventAnswered (places_if 1 sizes (places_if 2 lasts (length rows))) tape (record { row = table_at rows; lasts = lasts_in lasts }) room out (event_of (line_of (one_line line))) done room' out'
  here = rw (row_is, l-is, len_is, fit_is, read_is) at answers

  pub event_placed : done.verdict.place ≤ 4096
  event_placed = event_near len tape (record { row = row; lasts = l }) room out (event_of (line_of read)) done room' out' answers

  module _ (flag : Bool) (flag_is : flag ≡ is_refusal done.verdict.refusal) where
    pub event_fits : flag ≡ false → Fit rows lasts sizes
    event_fits e =
        fit_by rows lasts sizes fit len fit_is len_is
        (event_long len tape (record { row = row; lasts = l }) room out (event_of (line_of read)) done room' out' answers (sym flag_is ∙ e))

    pub event_refused : flag ≡ true → (code : ℕ) → code ≡ code_of done.verdict → EventCalled rows lasts tape line out room sizes code rows lasts out' room' sizes
    event_refused e code says =
        let h : is_refusal done.verdict.refusal ≡ true = sym flag_is ∙ e in
        record { done = done; answers = here; says = says; rows_are = rw h refl; lasts_are = rw h refl; sizes_are = rw h refl }

    pub event_done : flag ≡ false → (code : ℕ) → code ≡ code_of done.verdict
        → (rows' : List (List ℕ)) → rows' ≡ records_with done.day.row rows
        → (lasts' : List ℕ) → lasts' ≡ with_lasts done.day.lasts lasts
        → (sizes' : List ℕ) → sizes' ≡ with_first done.bytes sizes
        → EventCalled rows lasts tape line out room sizes code rows' lasts' out' room' sizes'
    event_done e code says rows' rows_are lasts' Lasts-are sizes' sizes-are =
        let h : is_refusal done.verdict.refusal ≡ false = sym flag_is ∙ e in
        record { done = done; answers = here; says = says; rows_are = rw h rows_are; lasts_are = rw h Lasts-are; sizes_are = rw h sizes-are }

-- What a boarding writes.
module _ (row : List Ticket) (done : BoardedRow) (rows : List (List ℕ)) (taken sums : List ℕ) (code : ℕ) (says : code ≡ code_of (verdict_in done.boarded.answer))
    (flag : Bool) (flag_is : flag ≡ is_refusal done.boarded.answer.refusal) where
  pub settled_refused : flag ≡ true → Settled row done rows taken sums code rows taken sums
  settled_refused e = let h : is_refusal done.boarded.answer.refusal ≡ true = sym flag_is ∙ e in record { says = says; rows_are = rw h refl; taken_is = rw h refl; sums_are = rw h refl }

  pub settled_done : flag ≡ false → (rows' : List (List ℕ)) → rows' ≡ records_with done.row rows → (taken' : List ℕ) → taken' ≡ taken_with row done.boarded taken
      → (sums' : List ℕ) → sums' ≡ sums_with done.boarded.answer sums → Settled row done rows taken sums code rows' taken' sums'
  settled_done e rows' rows_are taken' taken_is sums' sums-are =
      let h : is_refusal done.boarded.answer.refusal ≡ false = sym flag_is ∙ e in
      record { says = says; rows_are = rw h rows_are; taken_is = rw h taken_is; sums_are = rw h sums-are }

-- The rows of an accepted boarding.
record BoardFit (rows : List (List ℕ)) (taken sums : List ℕ) : Type 0 where
  records : 32 ≤ length rows
  words : 10 ≤ length taken
  four : 4 ≤ length sums

module _ (rows : List (List ℕ)) (lasts : List ℕ) (tape : Tape) (head turn : ℕ) (lent : Rows) (taken sums : List ℕ) (row : List Ticket) (l : Lasts) (p₁ p₂ len : ℕ) (done : BoardedRow) (after : Rows)
    (row_is : row ≡ table_at rows)
    (l-is : l ≡ lasts_in lasts)
    (p₁-is : p₁ ≡ places_if 2 lasts (length rows))
    (p₂-is : p₂ ≡ places_if 10 taken p₁)
    (len_is : len ≡ places_if 4 sums p₂)
    (boards : Boards len tape row (record { head = head; turn = turn; lasts = l }) lent done after) where
  boards_here : Boards (board_places rows lasts taken sums) tape (table_at rows) (boarding_of lasts head turn) lent done after
  boards_here = rw (row_is, l-is, len_is, p₂-is, p₁-is) at boards

  board_fits_here : is_refusal done.boarded.answer.refusal ≡ false → BoardFit rows taken sums
  board_fits_here e =
      let all = boarding_long len tape row (record { head = head; turn = turn; lasts = l }) lent done after boards e in
      let outer = lent_long 4 sums p₂ (rw len_is at all) in
      let inner = lent_long 10 taken p₁ (rw p₂-is at outer.places) in
      let last = lent_long 2 lasts (length rows) (rw p₁-is at inner.places) in
      record { records = last.places; words = inner.beside; four = outer.beside }

  pub can_settle : CanSettle rows taken sums row done
  can_settle =
      record {
        near = boarding_near len tape row (record { head = head; turn = turn; lasts = l }) lent done after boards;
        records = λ e. (board_fits_here e).records;
        words = λ e. (board_fits_here e).words;
        four = λ e. (board_fits_here e).four;
        leaves = leaves_so len tape row (ap length row_is ∙ table_long rows) (record { head = head; turn = turn; lasts = l }) lent done after boards;
      }

  pub board_called : (code : ℕ) (rows' : List (List ℕ)) (taken' sums' : List ℕ) → Settled row done rows taken sums code rows' taken' sums'
      → BoardCalled rows lasts tape head turn lent taken sums code rows' after taken' sums'
  board_called code rows' taken' sums' s =
      record { done = done; boards = boards_here; says = s.says; rows_are = s.rows_are; taken_is = rw row_is at s.taken_is; sums_are = s.sums_are }
