-- What each call for tickets is refused for, and that a refusal changes nothing.
use Prim.Native.Nat.{ℕ, ◌+◌, ◌*◌, ◌≤◌, ◌<◌}
use mathlib.Core.Path.{◌≡◌, refl, sym, ap, ◌∙◌, subst}
use mathlib.Core.Bool.{Bool, true, false, not, cond}
use mathlib.Core.Logic.{⊎_elim, ◌⊎◌, ◌↔◌, inl, inr}
use mathlib.Core.List.{List, [], ◌∷◌}
use native.Mathlib.Omega.{arith}
use lib.ListN.{length}
use lib.Dec.{ltb}
use borrow.Author.Tests.{lt-ltb, le-ltb, ltb-true, ltb-false, eqb-false}
use Rattle.refusals.specs.declared.Refusal.{Refusal}
use Rattle.refusals.specs.declared.Refusal.TheVariants.{Accepted, BadTicket, OfficeFull, NumbersSpent, NotWaiting, ShortRow}
use Rattle.refusals.specs.declared.Verdict.{Verdict}
use Rattle.refusals.specs.Refusals.{number_of, is_refusal, accepted, refuse_if}
use Rattle.refusals.proofs.Verdicts.{refuses, none_refuses, first_passes, last_if}
use Rattle.runs.proofs.Search.{true_or_false}
use Rattle.planner.specs.Rows.{Rows}
use Rattle.desk_tickets.specs.declared.Ticket.{Ticket}
use Rattle.desk_tickets.specs.declared.Filing.{Filing}
use Rattle.desk_tickets.specs.declared.FiledRow.{FiledRow}
use Rattle.desk_tickets.specs.declared.Withdrawal.{Withdrawal}
use Rattle.desk_tickets.specs.declared.WithdrawnRow.{WithdrawnRow}
use Rattle.desk_boardings.specs.Boardings.{Tape}
use Rattle.boundary.specs.Boundary.{code_of}
use Rattle.boundary_desk.specs.Records.{table_at, places_if}
use Rattle.boundary_desk.specs.Calls.{file_call, FileCalled, withdraw_call, WithdrawCalled, boarding_of, board_places, BoardCalled, one_line, day_at, EventCalled, WaitingCalled}
use Rattle.answer_desk.specs.Events.{event_of}
use Rattle.text_lines.specs.Lines.{line_of}
use Rattle.desk_tickets.specs.WaitingTable.{records_verdict}
use Rattle.desk_tickets.specs.Filings.{in_range, is_full, is_spent, file_verdict}
use Rattle.desk_tickets.specs.Withdrawals.{is_waiting, withdraw_verdict}
use Rattle.boundary_desk.proofs.Calling.{filing_verdict, withdrawal_verdict}
use Rattle.sheet_writer.specs.declared.Written.{Written}
use Rattle.sheet_writer.specs.Writing.{row_verdict, Handed}
use Rattle.desk_waits.specs.Waits.{waiting_text, any_lasts, waiting_verdict}
use Rattle.demands.specs.RefusalTable.{SomeApplies}
use Rattle.demands.proofs.Checks.{AllRefuse}
use Rattle.demands.proofs.Writers.{rows_are_left}
use Rattle.promises.specs.DeskRefusals.{RowApplies, row_order}
use Rattle.promises.proofs.Callers.{texts_are_handed, text_is_handed_out}
use Rattle.promises.proofs.Desk.{refusal_keeps}
use Rattle.promises.proofs.DeskDays.{accepts, refused_event_changes_nothing}
use Rattle.promises.proofs.DeskRefusals.{row_finds, filing_answers, withdrawal_answers, boarding_answers}
use Rattle.promises.proofs.DeskVerdicts.{event_verdicts}
use Rattle.promises_calls.specs.CallRefusals.{ShortCounts, BoardCounts, CodeSays, FileCallAnswers, WithdrawCallAnswers, BoardCallAnswers, EventCallAnswers, any_numbers, WaitingCallAnswers, WaitingTextTold, WaitingIsTold, RefusedFileKeeps, RefusedWithdrawKeeps, RefusedBoardKeeps, RefusedEventKeeps}
use Rattle.promises_calls.proofs.SheetCalls.{some_refuses, none_passes, says_so}

counts_few : (least : ℕ) (words : List ℕ) (len : ℕ) → (places_if least words len < 32) ↔ ((length words < least) ⊎ (len < 32))
counts_few least words len =
    ⊎_elim
    (λ (h : ltb (length words) least ≡ true). (λ _. inl (ltb-true (length words) least h), λ _. rw h (omega arith)))
    (λ (h : ltb (length words) least ≡ false). (
      λ l. inr (rw h at l),
      λ s. rw h (⊎_elim (λ (short : length words < least). absurd (let long = ltb-false (length words) least h in omega arith)) (λ (few : len < 32). few) s),
    ))
    (true_or_false (ltb (length words) least))

pub short_counts : ShortCounts
short_counts = counts_few

pub board_counts : BoardCounts
board_counts rows lasts taken sums =
    let all = places_if 10 taken (places_if 2 lasts (length rows)) in
    let one = counts_few 4 sums all in
    let two = counts_few 10 taken (places_if 2 lasts (length rows)) in
    let three = counts_few 2 lasts (length rows) in (
      λ few.
          ⊎_elim (λ (s : length sums < 4). inl s)
          (λ s. inr (⊎_elim (λ (t : length taken < 10). inl t) (λ t. inr (three.0 t)) (two.0 s)))
          (one.0 few),
      λ some.
          one.1 (⊎_elim (λ (s : length sums < 4). inl s)
          (λ s. inr (two.1 (⊎_elim (λ (t : length taken < 10). inl t) (λ t. inr (three.1 t)) s)))
          some),
    )

pub file_call_answers : FileCallAnswers
unfolding file_call
file_call_answers rows rows' lasts lasts' given given' f code called =
    let v : Verdict = (file_call rows lasts f given).filed.verdict in
    record {
      kind = v.refusal;
      place = v.place;
      is = called.says;
      first = filing_answers (places_if 1 given (places_if 2 lasts (length rows))) (table_at rows) f (file_call rows lasts f given) refl;
    }

pub withdraw_call_answers : WithdrawCallAnswers
unfolding withdraw_call
withdraw_call_answers rows rows' lasts w code called =
    let v : Verdict = (withdraw_call rows lasts w).withdrawn.verdict in
    record {
      kind = v.refusal;
      place = v.place;
      is = called.says;
      first = withdrawal_answers (places_if 2 lasts (length rows)) (table_at rows) w (withdraw_call rows lasts w) refl;
    }

pub board_call_answers : BoardCallAnswers
board_call_answers rows rows' lasts taken taken' sums sums' tape head turn code lent after called =
    (boarding_answers (board_places rows lasts taken sums) tape (table_at rows) (boarding_of lasts head turn) lent after called.done called.boards, called.says)

pub event_call_answers : EventCallAnswers
event_call_answers rows rows' lasts lasts' line out out' room room' sizes sizes' tape code called =
    (called.says, event_verdicts (places_if 1 sizes (places_if 2 lasts (length rows))) tape (day_at rows lasts) room out (event_of (line_of (one_line line))) called.done room' out' called.answers)

-- Who waits: the records' verdict, then the row's.
module _ (len : ℕ) (row : List Ticket) (out : List ℕ) where
  abbrev ofRecords : Verdict
  ofRecords = records_verdict len row any_numbers

  both_refuse : AllRefuse row_order
  both_refuse = (refl, (refl, tt))

  by_records : SomeApplies (RowApplies len row any_numbers) row_order → waiting_verdict len row out ≡ ofRecords
  unfolding waiting_verdict
  by_records s = let e = some_refuses (RowApplies len row any_numbers) row_order both_refuse ofRecords (row_finds len row any_numbers) s in rw e refl

  module _ (n : SomeApplies (RowApplies len row any_numbers) row_order → ⊥) where
    passes : refuses ofRecords ≡ false
    passes = none_passes (RowApplies len row any_numbers) row_order both_refuse ofRecords (row_finds len row any_numbers) n

    by_row : length out < length (waiting_text row) → code_of (waiting_verdict len row out) ≡ 8
    unfolding waiting_verdict row_verdict
    by_row l = rw (passes, lt-ltb (length out) (length (waiting_text row)) l) refl

    by_none : length (waiting_text row) ≤ length out → code_of (waiting_verdict len row out) ≡ 0
    unfolding waiting_verdict row_verdict
    by_none l = rw (passes, le-ltb (length out) (length (waiting_text row)) l) refl

    by_text : waiting_verdict len row out ≡ row_verdict (waiting_text row) out
    unfolding waiting_verdict row_verdict
    by_text = first_passes ofRecords (refuse_if (ltb (length out) (length (waiting_text row))) ShortRow ∷ []) passes ∙ sym (last_if {x = ltb (length out) (length (waiting_text row))} ShortRow refl refl refl)

  module _ (w : Written) (out' : List ℕ) (h : Handed (waiting_verdict len row out) (waiting_text row) out w out') where
    waiting_text_told : WaitingTextTold len row out w out'
    waiting_text_told =
        record {
          of_records = λ s.
              let e : refuses (waiting_verdict len row out) ≡ true = ap refuses (by_records s) ∙ some_refuses (RowApplies len row any_numbers) row_order both_refuse ofRecords (row_finds len row any_numbers) s in
              let says = h.answer ∙ (texts_are_handed (waiting_verdict len row out) (waiting_text row)).refused e in (
                rw (says, by_records s) (row_finds len row any_numbers),
                ap (λ x. x.bytes) says,
                h.left ∙ (rows_are_left (waiting_verdict len row out) (waiting_text row) out).kept e,
              );
          of_text = λ n. text_is_handed_out (waiting_text row) out w out' (subst (λ v. Handed v (waiting_text row) out w out') (by_text n) h);
        }

pub waiting_is_told : WaitingIsTold
waiting_is_told len row out w out' h = waiting_text_told len row out w out' h

pub waiting_call_answers : WaitingCallAnswers
waiting_call_answers rows out out' sizes sizes' code called =
    let len = places_if 1 sizes (length rows) in
    let row = table_at rows in
    record {
      of_records = λ s. says_so (RowApplies len row any_numbers) row_order (refl, (refl, tt)) (records_verdict len row any_numbers) (row_finds len row any_numbers) code (called.says ∙ ap code_of (by_records len row out s));
      short = λ n l. called.says ∙ by_row len row out n l;
      accepted = λ n l. called.says ∙ by_none len row out n l;
    }

-- A verdict that accepts has the code 0.
file_zero : (len : ℕ) (row : List Ticket) (f : Filing) → refuses (file_verdict len row f) ≡ false → code_of (file_verdict len row f) ≡ 0
unfolding file_verdict
file_zero len row f e =
    ap code_of
    (none_refuses
    (records_verdict len row f.lasts
    ∷ refuse_if (not (in_range f)) BadTicket
    ∷ refuse_if (is_full f.office row) OfficeFull
    ∷ refuse_if (is_spent f.office f.lasts) NumbersSpent
    ∷ [])
    e)

withdraw_zero : (len : ℕ) (row : List Ticket) (w : Withdrawal) → refuses (withdraw_verdict len row w) ≡ false → code_of (withdraw_verdict len row w) ≡ 0
unfolding withdraw_verdict
withdraw_zero len row w e = ap code_of (none_refuses (records_verdict len row w.lasts ∷ refuse_if (not (is_waiting w.office w.number row)) NotWaiting ∷ []) e)

pub refused_file_keeps : RefusedFileKeeps
unfolding file_call
refused_file_keeps rows rows' lasts lasts' given given' f code called some =
    let len = places_if 1 given (places_if 2 lasts (length rows)) in
    let v = filing_verdict len (table_at rows) f in
    ⊎_elim
    (λ (h : refuses (file_verdict len (table_at rows) f) ≡ true). (rw (v, h) at called.rows_are, (rw (v, h) at called.lasts_are, rw (v, h) at called.given_is)))
    (λ (h : refuses (file_verdict len (table_at rows) f) ≡ false). absurd (some (called.says ∙ ap code_of v ∙ file_zero len (table_at rows) f h)))
    (true_or_false (refuses (file_verdict len (table_at rows) f)))

pub refused_withdraw_keeps : RefusedWithdrawKeeps
unfolding withdraw_call
refused_withdraw_keeps rows rows' lasts w code called some =
    let len = places_if 2 lasts (length rows) in
    let v = withdrawal_verdict len (table_at rows) w in
    ⊎_elim
    (λ (h : refuses (withdraw_verdict len (table_at rows) w) ≡ true). rw (v, h) at called.rows_are)
    (λ (h : refuses (withdraw_verdict len (table_at rows) w) ≡ false). absurd (some (called.says ∙ ap code_of v ∙ withdraw_zero len (table_at rows) w h)))
    (true_or_false (refuses (withdraw_verdict len (table_at rows) w)))

is_refused : (kind : Refusal) → (kind ≡ Accepted → ⊥) → is_refusal kind ≡ true
is_refused kind some = ⊎_elim (λ h. h) (λ h. absurd (some (accepts kind h))) (true_or_false (is_refusal kind))

pub refused_board_keeps : RefusedBoardKeeps
refused_board_keeps rows rows' lasts taken taken' sums sums' tape head turn code lent after called some =
    let h = is_refused called.done.boarded.answer.refusal some in (
      rw h at called.rows_are,
      ((refusal_keeps (board_places rows lasts taken sums) tape (table_at rows) (boarding_of lasts head turn) lent after called.done called.boards some).1, (rw h at called.taken_is, rw h at called.sums_are)),
    )

pub refused_event_keeps : RefusedEventKeeps
refused_event_keeps rows rows' lasts lasts' line out out' room room' sizes sizes' tape code called some =
    let h = is_refused called.done.verdict.refusal some in
    let same = refused_event_changes_nothing (places_if 1 sizes (places_if 2 lasts (length rows))) tape (day_at rows lasts) room out (event_of (line_of (one_line line))) called.done room' out' called.answers some in
    (rw h at called.rows_are, (rw h at called.lasts_are, (same.2, (same.1, rw h at called.sizes_are))))
