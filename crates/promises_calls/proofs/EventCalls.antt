-- An accepted event at C's rows is a call on the table in them.
use Prim.Native.Nat.{ℕ}
use mathlib.Core.Path.{◌≡◌, refl, sym, ap, ◌∙◌, subst}
use mathlib.Core.Bool.{true, false, true≢false}
use mathlib.Core.List.{List}
use mathlib.Core.Logic.{⊎_elim}
use lib.ListN.{length, drop}
use Rattle.std.specs.Prelude.{Option, Some, None}
use Rattle.refusals.specs.declared.Refusal.TheVariants.{Accepted}
use Rattle.refusals.specs.declared.Verdict.{Verdict}
use Rattle.refusals.specs.Refusals.{is_refusal}
use Rattle.refusals.proofs.Verdicts.{refuses}
use Rattle.runs.proofs.Search.{true_or_false}
use Rattle.desk_tickets.specs.declared.Ticket.{Ticket}
use Rattle.desk_tickets.specs.declared.Lasts.{Lasts}
use Rattle.desk_tickets.specs.declared.Filing.{Filing}
use Rattle.desk_tickets.specs.declared.Withdrawal.{Withdrawal}
use Rattle.desk_tickets.specs.Filings.{file_verdict, file_row}
use Rattle.desk_tickets.specs.Withdrawals.{withdraw_verdict, withdraw_row}
use Rattle.desk_tickets.proofs.Storing.{file_accepted}
use Rattle.desk_tickets.proofs.Leaving.{withdraw_accepted}
use Rattle.desk_boardings.specs.declared.Boarding.{Boarding}
use Rattle.desk_boardings.specs.Boardings.{Tape}
use Rattle.answer_desk.specs.declared.Day as desk
use Rattle.answer_desk.specs.declared.Answered.{Answered}
use Rattle.answer_desk.specs.declared.Event.{Event}
use Rattle.answer_desk.specs.Events.{event_of}
use Rattle.answer_desk.specs.Days.{EventAnswered, rows_lent}
use Rattle.text_lines.specs.Lines.{line_of}
use Rattle.boundary.specs.Boundary.{code_of}
use Rattle.boundary.proofs.Calls.{code_accepts}
use Rattle.boundary_desk.specs.Records.{table_at, records_with, lasts_in, with_lasts, places_if}
use Rattle.boundary_desk.specs.Calls.{one_line, day_at, EventCalled}
use Rattle.boundary_desk.proofs.Calling.{filing_verdict, withdrawal_verdict}
use Rattle.promises.specs.Desk.{Kept, IsTable, Call, Fits}
use Rattle.promises.specs.DeskDays.{IsCall}
use Rattle.promises.proofs.DeskDays.{accepts, refused_event_changes_nothing}
use Rattle.promises.proofs.DeskSteps.{board_accepted}
use Rattle.promises.proofs.DeskTells.{told_so, day_is}
use Rattle.promises_calls.specs.DeskCalls.{kept_in_c, day_in_c}
use Rattle.promises_calls.specs.CallsTell.{CallAccepts, EventIsACall, EventCallIsACall, NoEventCalled}
use Rattle.promises_calls.proofs.Found.{table_found, later_found}
use Rattle.promises_calls.proofs.DeskCalls.{kept_so, whole_after, sound_at}

-- The call that an accepted event is, on a sound table, and the day that it leaves, whose table has 32 records.
record Accepts (tape : Tape) (e : Option Event) (rows : List (List ℕ)) (lasts : List ℕ) (r : Answered) : Type 0 where
  call : Call
  is : IsCall tape e call
  accepts : CallAccepts call
  fits : Fits (kept_in_c rows lasts) call (record { row = r.day.row; lasts = r.day.lasts })
  whole : length r.day.row ≡ 32

module _ (tape : Tape) (rows : List (List ℕ)) (lasts : List ℕ) (r : Answered) where
  left_so : (e : Option Event) (c : Call) → IsCall tape e c → CallAccepts c → IsTable (kept_in_c rows lasts) → (row : List Ticket) (l : Lasts) → Fits (kept_in_c rows lasts) c (record { row = row; lasts = l })
      → r.day.row ≡ row → r.day.lasts ≡ l → Accepts tape e rows lasts r
  left_so e c is taken sound row l fits row_is l-is =
      let now : Fits (kept_in_c rows lasts) c (record { row = r.day.row; lasts = r.day.lasts }) = subst (λ (k : Kept). Fits (kept_in_c rows lasts) c k) (kept_so (sym row_is) (sym l-is)) fits in
      record { call = c; is = is; accepts = taken; fits = now; whole = whole_after (kept_in_c rows lasts) (record { row = r.day.row; lasts = r.day.lasts }) c sound now }

  by_event : (e : Option Event) (len : ℕ) (room out room' out' : List ℕ) → EventAnswered len tape (day_at rows lasts) room out e r room' out' → r.verdict.refusal ≡ Accepted → Accepts tape e rows lasts r
  by_event (Some (Event.File o f c)) len room out room' out' p served =
      let g : Filing = record { office = o; file = f; count = c; files = length tape.starts; lasts = lasts_in lasts } in
      let done = file_row len (table_at rows) g in
      let day = day_is (day_at rows lasts) _ room out r room out' (p.0 room) served in
      let passes = (told_so (day_at rows lasts) _ room out r room out' (p.0 room) served).0 in
      let h : refuses (file_verdict len (table_at rows) g) ≡ false = sym (ap (λ (v : Verdict). is_refusal v.refusal) (filing_verdict len (table_at rows) g)) ∙ passes in
      left_so (Some (Event.File o f c)) (Call.filing len g done) IsCall.a_filing (accepts done.filed.verdict.refusal passes) (sound_at rows rows lasts len (file_accepted len (table_at rows) g h).table) done.row done.filed.lasts
      (Fits.files {len = len} {k = kept_in_c rows lasts} {f = g} {r = done} refl refl) (ap (λ (d : desk.Day). d.row) day) (ap (λ (d : desk.Day). d.lasts) day)
  by_event (Some (Event.Withdraw o n)) len room out room' out' p served =
      let w : Withdrawal = record { office = o; number = n; lasts = lasts_in lasts } in
      let done = withdraw_row len (table_at rows) w in
      let day = day_is (day_at rows lasts) _ room out r room out' (p.0 room) served in
      let passes = (told_so (day_at rows lasts) _ room out r room out' (p.0 room) served).0 in
      let h : refuses (withdraw_verdict len (table_at rows) w) ≡ false = sym (ap (λ (v : Verdict). is_refusal v.refusal) (withdrawal_verdict len (table_at rows) w)) ∙ passes in
      left_so (Some (Event.Withdraw o n)) (Call.withdrawal len w done) IsCall.a_withdrawal (accepts done.withdrawn.verdict.refusal passes) (sound_at rows rows lasts len (withdraw_accepted len (table_at rows) w h).table) done.row done.withdrawn.lasts
      (Fits.withdraws {len = len} {k = kept_in_c rows lasts} {w = w} {r = done} refl refl) (ap (λ (d : desk.Day). d.row) day) (ap (λ (d : desk.Day). d.lasts) day)
  by_event (Some (Event.Board head turn)) len room out room' out' p served =
      let b : Boarding = record { head = head; turn = turn; lasts = lasts_in lasts } in
      let done = p.done in
      let day = day_is (day_at rows lasts) _ room out r room' out' p.answers served in
      let passes = (told_so (day_at rows lasts) _ room out r room' out' p.answers served).0 in
      left_so (Some (Event.Board head turn)) (Call.boarding len tape b (rows_lent room) p.rows done) IsCall.a_boarding (accepts done.boarded.answer.refusal passes)
      (sound_at rows rows lasts len (board_accepted len tape (table_at rows) b (rows_lent room) p.rows done p.boards passes)) done.row done.boarded.lasts
      (Fits.boards {len = len} {tape = tape} {k = kept_in_c rows lasts} {b = b} {before = rows_lent room} {after = p.rows} {r = done} refl p.boards) (ap (λ (d : desk.Day). d.row) day) (ap (λ (d : desk.Day). d.lasts) day)
  by_event None len room out room' out' p served = absurd (true≢false (ap is_refusal (ap (λ (x : Answered). x.verdict.refusal) (sym p.says) ∙ served)))

-- Written into the rows.
landed : (tape : Tape) (e : Option Event) (rows rows' : List (List ℕ)) (lasts lasts' : List ℕ) (r : Answered) → Accepts tape e rows lasts r → rows' ≡ records_with r.day.row rows → lasts' ≡ with_lasts r.day.lasts lasts
    → EventIsACall tape e rows rows' lasts lasts'
landed tape e rows rows' lasts lasts' r a rows_are Lasts-are =
    record {
      call = a.call;
      is = a.is;
      accepts = a.accepts;
      fits = subst (λ (k : Kept). Fits (kept_in_c rows lasts) a.call k) (kept_so (sym (ap table_at rows_are ∙ table_found r.day.row rows a.whole)) (sym (ap lasts_in Lasts-are))) a.fits;
      later = ap (drop 32) rows_are ∙ later_found r.day.row rows a.whole;
      words = ap (drop 2) Lasts-are;
    }

module _ (rows rows' : List (List ℕ)) (lasts lasts' line out out' room room' sizes sizes' : List ℕ) (tape : Tape) (code : ℕ)
    (called : EventCalled rows lasts tape line out room sizes code rows' lasts' out' room' sizes') where
  accepted_so : is_refusal called.done.verdict.refusal ≡ false → Accepts tape (event_of (line_of (one_line line))) rows lasts called.done
  accepted_so e =
      by_event tape rows lasts called.done (event_of (line_of (one_line line))) (places_if 1 sizes (places_if 2 lasts (length rows))) room out room' out' called.answers (accepts called.done.verdict.refusal e)

  -- Accepted or refused, the rows then hold the day that it leaves.
  pub event_call_leaves : day_in_c rows' lasts' ≡ called.done.day
  event_call_leaves =
      ⊎_elim
      (λ (e : is_refusal called.done.verdict.refusal ≡ true).
      day_so_here (ap table_at (rw e at called.rows_are)) (ap lasts_in (rw e at called.lasts_are))
      ∙ sym (refused_event_changes_nothing (places_if 1 sizes (places_if 2 lasts (length rows))) tape (day_in_c rows lasts) room out (event_of (line_of (one_line line))) called.done room' out' called.answers
      (λ is. true≢false (sym e ∙ ap is_refusal is))).0)
      (λ (e : is_refusal called.done.verdict.refusal ≡ false).
      let now : rows' ≡ records_with called.done.day.row rows = rw e at called.rows_are in
      let numbers : lasts' ≡ with_lasts called.done.day.lasts lasts = rw e at called.lasts_are in
      day_so_here (ap table_at now ∙ table_found called.done.day.row rows (accepted_so e).whole) (ap lasts_in numbers))
      (true_or_false (is_refusal called.done.verdict.refusal))
    where
      day_so_here : {row row' : List Ticket} {l l' : Lasts} → row ≡ row' → l ≡ l' → ◌≡◌ {A = desk.Day} (record { row = row; lasts = l }) (record { row = row'; lasts = l' })
      day_so_here p q = cc

pub event_call_is_a_call : EventCallIsACall
event_call_is_a_call rows rows' lasts lasts' line out out' room room' sizes sizes' tape code called zero-code =
    let e : is_refusal called.done.verdict.refusal ≡ false = code_accepts called.done.verdict (sym called.says ∙ zero-code) in
    landed tape (event_of (line_of (one_line line))) rows rows' lasts lasts' called.done (accepted_so rows rows' lasts lasts' line out out' room room' sizes sizes' tape code called e)
    (rw e at called.rows_are) (rw e at called.lasts_are)

pub no_event_called : NoEventCalled
no_event_called rows rows' lasts lasts' line out out' room room' sizes sizes' tape code called is =
    let none : EventAnswered (places_if 1 sizes (places_if 2 lasts (length rows))) tape (day_at rows lasts) room out None called.done room' out'
    = subst (λ e. EventAnswered (places_if 1 sizes (places_if 2 lasts (length rows))) tape (day_at rows lasts) room out e called.done room' out') is called.answers in
    called.says ∙ ap (λ (x : Answered). code_of x.verdict) none.says
