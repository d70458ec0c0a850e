-- Calls on rows of C's memory are a day on the table in them: what an accepted call leaves has 32 records, so the next call finds just that table.
use Prim.Native.Nat.{ℕ, ◌≤◌}
use mathlib.Core.Path.{◌≡◌, refl, sym, ap, subst, ◌∙◌}
use mathlib.Core.Bool.{Bool, true, false, cond}
use mathlib.Core.Logic.{⊎_elim}
use mathlib.Core.List.{List, [], ◌∷◌, ◌++◌}
use native.Mathlib.Omega.{arith}
use lib.ListN.{length, drop, length-append}
use Rattle.refusals.specs.Refusals.{is_refusal}
use Rattle.refusals.proofs.Verdicts.{refuses}
use Rattle.runs.proofs.Search.{true_or_false}
use Rattle.planner.specs.Rows.{Rows}
use Rattle.desk_tickets.specs.declared.Ticket.{Ticket}
use Rattle.desk_tickets.specs.declared.Lasts.{Lasts}
use Rattle.desk_tickets.specs.declared.Filing.{Filing}
use Rattle.desk_tickets.specs.declared.FiledRow.{FiledRow}
use Rattle.desk_tickets.specs.declared.Withdrawal.{Withdrawal}
use Rattle.desk_tickets.specs.declared.WithdrawnRow.{WithdrawnRow}
use Rattle.desk_tickets.specs.WaitingTable.{waiting, placed, records_verdict}
use Rattle.desk_tickets.specs.Filings.{file_verdict, file_row}
use Rattle.desk_tickets.specs.Withdrawals.{withdraw_verdict, withdraw_row}
use Rattle.desk_tickets.proofs.Placed.{placed_long}
use Rattle.desk_tickets.proofs.Storing.{accepted_sound, file_accepted}
use Rattle.desk_tickets.proofs.Leaving.{withdraw_accepted}
use Rattle.desk_tickets.proofs.Kept.{filed_so_lem, not_filed_so, withdrawn_so_lem, not_withdrawn_so}
use Rattle.desk_boardings.specs.declared.Boarding.{Boarding}
use Rattle.desk_boardings.specs.declared.BoardedRow.{BoardedRow}
use Rattle.desk_boardings.specs.Boardings.{Tape, Boards}
use Rattle.boundary_desk.specs.Records.{table_at, records_with, lasts_in, with_lasts, places_if}
use Rattle.boundary_desk.specs.Calls.{filing_of, file_call, FileCalled, withdrawal_of, withdraw_call, WithdrawCalled, boarding_of, board_places, BoardCalled}
use Rattle.boundary_desk.proofs.Filling.{table_long}
use Rattle.boundary_desk.proofs.Calling.{filing_verdict, withdrawal_verdict}
use Rattle.promises.specs.Desk.{Kept, IsTable, Call, Fits, Day}
use Rattle.promises.proofs.Desk.{table_stays}
use Rattle.promises.proofs.DeskSteps.{board_accepted, refused_is, boards_lasts}
use Rattle.promises_calls.specs.DeskCalls.{kept_in_c, CallFits, CallsMade, CallsAreADay}
use Rattle.promises_calls.proofs.Found.{table_found, later_found}

-- A call that begins at a sound table leaves 32 records.
sound_whole : (k : Kept) → IsTable k → length k.row ≡ 32
sound_whole k s =
    let ones = waiting 1 k.row in
    let twos = waiting 2 k.row in
    ap length s.is ∙ length-append (placed ones) (placed twos) ∙ omega (arith, placed_long ones s.one.few, placed_long twos s.two.few)

pub whole_after : (k next : Kept) (c : Call) → IsTable k → Fits k c next → length next.row ≡ 32
whole_after k next c s f = sound_whole next (table_stays k next (c ∷ []) s (Day.then f Day.over))

-- What one call leaves: the next table and last numbers in the rows, and later entries as they were.
record Left (rows : List (List ℕ)) (lasts : List ℕ) (row : List Ticket) (l : Lasts) (rows' : List (List ℕ)) (lasts' : List ℕ) : Type 0 where
  table : row ≡ table_at rows'
  numbers : l ≡ lasts_in lasts'
  later : drop 32 rows' ≡ drop 32 rows
  words : drop 2 lasts' ≡ drop 2 lasts

pub kept_so : {row row' : List Ticket} {l l' : Lasts} → row ≡ row' → l ≡ l' → ◌≡◌ {A = Kept} (record { row = row; lasts = l }) (record { row = row'; lasts = l' })
kept_so p q = cc

module _ (rows rows' : List (List ℕ)) (lasts : List ℕ) where
  stays : (lasts' : List ℕ) (row : List Ticket) (l : Lasts) → rows' ≡ rows → lasts' ≡ lasts → row ≡ table_at rows → l ≡ lasts_in lasts → Left rows lasts row l rows' lasts'
  stays lasts' row l same kept row_is l-is =
      record { table = row_is ∙ ap table_at (sym same); numbers = l-is ∙ ap lasts_in (sym kept); later = ap (drop 32) same; words = ap (drop 2) kept }

  -- The table afterwards, from a sound one.
  pub sound_at : (len : ℕ) → refuses (records_verdict len (table_at rows) (lasts_in lasts)) ≡ false → IsTable (kept_in_c rows lasts)
  sound_at len e = accepted_sound len (table_at rows) (lasts_in lasts) (table_long rows) e

-- A filing.
module _ (rows rows' : List (List ℕ)) (lasts lasts' given given' : List ℕ) (office file count files code : ℕ)
    (called : FileCalled rows lasts (filing_of lasts office file count files) given code rows' lasts' given') where
  filing_left : (len : ℕ) (done : FiledRow) → done ≡ file_row len (table_at rows) (filing_of lasts office file count files)
      → rows' ≡ cond (is_refusal done.filed.verdict.refusal) rows (records_with done.row rows)
      → lasts' ≡ cond (is_refusal done.filed.verdict.refusal) lasts (with_lasts done.filed.lasts lasts)
      → Left rows lasts done.row done.filed.lasts rows' lasts'
  filing_left len done is rows_are Lasts-are =
      let g : Filing = filing_of lasts office file count files in
      let verdict_is : done.filed.verdict ≡ file_verdict len (table_at rows) g = ap (λ (d : FiledRow). d.filed.verdict) is ∙ filing_verdict len (table_at rows) g in
      ⊎_elim
      (λ (h : refuses (file_verdict len (table_at rows) g) ≡ true).
      let so = is ∙ not_filed_so len (table_at rows) g h in
      stays rows rows' lasts lasts' done.row done.filed.lasts (rw (verdict_is, h) at rows_are) (rw (verdict_is, h) at Lasts-are)
      (ap (λ (d : FiledRow). d.row) so) (ap (λ (d : FiledRow). d.filed.lasts) so))
      (λ (h : refuses (file_verdict len (table_at rows) g) ≡ false).
      let now-rows : rows' ≡ records_with done.row rows = rw (verdict_is, h) at rows_are in
      let now-lasts : lasts' ≡ with_lasts done.filed.lasts lasts = rw (verdict_is, h) at Lasts-are in
      let whole : length done.row ≡ 32
      = whole_after (kept_in_c rows lasts) _ _ (sound_at rows rows' lasts len (file_accepted len (table_at rows) g h).table) (Fits.files {len = len} {k = kept_in_c rows lasts} {f = g} {r = done} refl is) in
      record {
        table = sym (ap table_at now-rows ∙ table_found done.row rows whole);
        numbers = sym (ap lasts_in now-lasts);
        later = ap (drop 32) now-rows ∙ later_found done.row rows whole;
        words = ap (drop 2) now-lasts;
      })
      (true_or_false (refuses (file_verdict len (table_at rows) g)))

-- A withdrawal.
module _ (rows rows' : List (List ℕ)) (lasts : List ℕ) (office number : ℕ) where
  withdrawal_left : (len : ℕ) (done : WithdrawnRow) → done ≡ withdraw_row len (table_at rows) (withdrawal_of lasts office number)
      → rows' ≡ cond (is_refusal done.withdrawn.verdict.refusal) rows (records_with done.row rows)
      → Left rows lasts done.row done.withdrawn.lasts rows' lasts
  withdrawal_left len done is rows_are =
      let w : Withdrawal = withdrawal_of lasts office number in
      let verdict_is : done.withdrawn.verdict ≡ withdraw_verdict len (table_at rows) w = ap (λ (d : WithdrawnRow). d.withdrawn.verdict) is ∙ withdrawal_verdict len (table_at rows) w in
      ⊎_elim
      (λ (h : refuses (withdraw_verdict len (table_at rows) w) ≡ true).
      let so = is ∙ not_withdrawn_so len (table_at rows) w h in
      stays rows rows' lasts lasts done.row done.withdrawn.lasts (rw (verdict_is, h) at rows_are) refl (ap (λ (d : WithdrawnRow). d.row) so) (ap (λ (d : WithdrawnRow). d.withdrawn.lasts) so))
      (λ (h : refuses (withdraw_verdict len (table_at rows) w) ≡ false).
      let so = is ∙ withdrawn_so_lem len (table_at rows) w h in
      let now-rows : rows' ≡ records_with done.row rows = rw (verdict_is, h) at rows_are in
      let whole : length done.row ≡ 32
      = whole_after (kept_in_c rows lasts) _ _ (sound_at rows rows' lasts len (withdraw_accepted len (table_at rows) w h).table) (Fits.withdraws {len = len} {k = kept_in_c rows lasts} {w = w} {r = done} refl is) in
      record {
        table = sym (ap table_at now-rows ∙ table_found done.row rows whole);
        numbers = ap (λ (d : WithdrawnRow). d.withdrawn.lasts) so;
        later = ap (drop 32) now-rows ∙ later_found done.row rows whole;
        words = refl;
      })
      (true_or_false (refuses (withdraw_verdict len (table_at rows) w)))

-- A boarding.
module _ (rows rows' : List (List ℕ)) (lasts : List ℕ) (len : ℕ) (tape : Tape) (head turn : ℕ) (lent after : Rows) (done : BoardedRow)
    (boards : Boards len tape (table_at rows) (boarding_of lasts head turn) lent done after) where
  boarding_left : rows' ≡ cond (is_refusal done.boarded.answer.refusal) rows (records_with done.row rows)
      → Left rows lasts done.row done.boarded.lasts rows' lasts
  boarding_left rows_are =
      let b : Boarding = boarding_of lasts head turn in
      ⊎_elim
      (λ (h : is_refusal done.boarded.answer.refusal ≡ true).
      let so = refused_is len tape (table_at rows) b lent after done boards h in
      stays rows rows' lasts lasts done.row done.boarded.lasts (rw h at rows_are) refl (ap (λ (d : BoardedRow). d.row) so) (boards_lasts len tape (table_at rows) b lent after done boards))
      (λ (h : is_refusal done.boarded.answer.refusal ≡ false).
      let now-rows : rows' ≡ records_with done.row rows = rw h at rows_are in
      let whole : length done.row ≡ 32
      = whole_after (kept_in_c rows lasts) _ _ (sound_at rows rows' lasts len (board_accepted len tape (table_at rows) b lent after done boards h))
      (Fits.boards {len = len} {tape = tape} {k = kept_in_c rows lasts} {b = b} {before = lent} {after = after} {r = done} refl boards) in
      record {
        table = sym (ap table_at now-rows ∙ table_found done.row rows whole);
        numbers = boards_lasts len tape (table_at rows) b lent after done boards;
        later = ap (drop 32) now-rows ∙ later_found done.row rows whole;
        words = refl;
      })
      (true_or_false (is_refusal done.boarded.answer.refusal))

-- One call, and the next table and numbers.
record OneCall (rows : List (List ℕ)) (lasts : List ℕ) (c : Call) (next : List (List ℕ)) (m : List ℕ) : Type 0 where
  fits : Fits (kept_in_c rows lasts) c (kept_in_c next m)
  later : drop 32 next ≡ drop 32 rows
  words : drop 2 m ≡ drop 2 lasts

one_call : {rows next : List (List ℕ)} {lasts m : List ℕ} {c : Call} → CallFits rows lasts c next m → OneCall rows lasts c next m
unfolding file_call withdraw_call
one_call {rows} {next} {lasts} {m} (CallFits.c_files {given = given} {office = office} {file = file} {count = count} {files = files} called) =
    let len = places_if 1 given (places_if 2 lasts (length rows)) in
    let g = filing_of lasts office file count files in
    let d = file_row len (table_at rows) g in
    let left = filing_left rows next lasts m given _ office file count files _ called len d refl called.rows_are called.lasts_are in
    record {
      fits = subst (λ (k : Kept). Fits (kept_in_c rows lasts) (Call.filing len g d) k) (kept_so left.table left.numbers) (Fits.files {len = len} {k = kept_in_c rows lasts} {f = g} {r = d} refl refl);
      later = left.later;
      words = left.words;
    }
one_call {rows} {next} {lasts} {m} (CallFits.c_withdraws {office = office} {number = number} called) =
    let len = places_if 2 lasts (length rows) in
    let w = withdrawal_of lasts office number in
    let d = withdraw_row len (table_at rows) w in
    let left = withdrawal_left rows next lasts office number len d refl called.rows_are in
    record {
      fits = subst (λ (k : Kept). Fits (kept_in_c rows lasts) (Call.withdrawal len w d) k) (kept_so left.table left.numbers) (Fits.withdraws {len = len} {k = kept_in_c rows lasts} {w = w} {r = d} refl refl);
      later = left.later;
      words = left.words;
    }
one_call {rows} {next} {lasts} {m} (CallFits.c_boards {taken = taken} {sums = sums} {tape = tape} {head = head} {turn = turn} {lent = lent} {after = after} called) =
    let len = board_places rows lasts taken sums in
    let b = boarding_of lasts head turn in
    let d = called.done in
    let left = boarding_left rows next lasts len tape head turn lent after d called.boards called.rows_are in
    record {
      fits = subst (λ (k : Kept). Fits (kept_in_c rows lasts) (Call.boarding len tape b lent after d) k) (kept_so left.table left.numbers)
          (Fits.boards {len = len} {tape = tape} {k = kept_in_c rows lasts} {b = b} {before = lent} {after = after} {r = d} refl called.boards);
      later = left.later;
      words = left.words;
    }

made : {rows last : List (List ℕ)} {lasts m : List ℕ} {cs : List Call} → CallsMade rows lasts cs last m
    → Day (kept_in_c rows lasts) cs (kept_in_c last m) × ((drop 32 last ≡ drop 32 rows) × (drop 2 m ≡ drop 2 lasts))
made CallsMade.calls_over = (Day.over, (refl, refl))
made (CallsMade.calls_then first rest) =
    let one = one_call first in
    let more = made rest in
    (Day.then one.fits more.0, (more.1.0 ∙ one.later, more.1.1 ∙ one.words))

pub calls_are_a_day : CallsAreADay
calls_are_a_day rows last lasts m cs calls = made calls
