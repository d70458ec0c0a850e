-- The promises of requests L6 and L7 as whole sentences: from the laws on single calls, on days and on the row.
use Prim.Native.Nat.{ℕ, suc, ◌+◌, ◌-◌, ◌≤◌, ◌<◌}
use mathlib.Core.Path.{◌≡◌, refl, sym, ap, subst, ◌∙◌}
use mathlib.Core.Bool.{Bool, true, false, true≢false}
use mathlib.Core.List.{List, [], ◌∷◌, ◌++◌, append-nil}
use mathlib.Core.Logic.{◌⊎◌, inl, inr, ⊎_elim}
use native.Mathlib.Omega.{arith}
use native.Mathlib.Decide.{dec_le, dec_lt}
use lib.ListN.{length, get_or, take, drop, replicate, length-append, length-take, take-append-drop, drop_of_length-le}
use lib.Seq.{take_all, take_at, length-take-le, get_or-append_seam}
use borrow.Author.Tests.{le-ltb}
use Rattle.refusals.specs.declared.Refusal.{Refusal}
use Rattle.refusals.specs.Refusals.{is_refusal, accepted}
use Rattle.refusals.proofs.Verdicts.{refuses}
use Rattle.runs.proofs.Search.{true_or_false, first_zero, first_all}
use Rattle.desk_tickets.specs.declared.Ticket.{Ticket}
use Rattle.desk_tickets.specs.declared.Lasts.{Lasts}
use Rattle.desk_tickets.specs.declared.Withdrawal.{Withdrawal}
use Rattle.desk_tickets.specs.WaitingTable.{all_places, no_ticket, is_empty_place, tickets_in, bad_record, waiting, records_verdict}
use Rattle.desk_tickets.specs.Filings.{file_row, ticket_of}
use Rattle.desk_tickets.specs.Withdrawals.{is_waiting, withdraw_verdict, withdraw_row}
use Rattle.desk_tickets.proofs.Halves.{tickets_none, tickets_one, tickets_end, tickets_at, tickets_fit, places_from, places_long, place_in_row}
use Rattle.desk_tickets.proofs.Kept.{Stands}
use Rattle.desk_tickets.proofs.Placed.{none_bad}
use Rattle.desk_tickets.proofs.Sound.{row_sound}
use Rattle.desk_rows.specs.Desk.{table_in, with_table, boarded_row}
use Rattle.promises.specs.Desk.{Kept, Call, Fits, Day, answered}
use Rattle.promises.specs.DeskRefusals.{RecordIsBad, IsWaiting}
use Rattle.promises.specs.DeskRows.{LentFits, kept_in}
use Rattle.promises.specs.DeskWhole.{LeavesFromItsFiling, WithdrawalServes, TableHasNoBadRecord, RefusedLeavesTheRow, WaitAt, WaitAtTheirPlaces}
use Rattle.promises.proofs.DeskSteps.{not_accepted}
use Rattle.promises.proofs.Desk.{table_from_empty, table_stays, accepted_filing, filed_behind, leaves_in_time, refused_changes}
use Rattle.promises.proofs.DeskRefusals.{tells_empty, tells_bad, tells_waiting, withdrawn_verdict}

-- A ticket that was filed stands last, behind as many as waited.
pub leaves_from_its_filing : LeavesFromItsFiling
leaves_from_its_filing earlier cs k filed last len f r first fits accepts day =
    let office = f.office in
    let before = waiting office k.row in
    let table = table_from_empty k earlier first in
    let next = table_stays k filed _ table (Day.then fits Day.over) in
    let is = accepted_filing accepts fits in
    let stands = filed_behind len k filed f r table fits accepts in
    record {
      by_then = leaves_in_time office r.filed.number (length before) filed last cs is.0 next day
          (rw (stands.0, length-append before (ticket_of f ∷ [])) (omega arith))
          (rw (stands.0, get_or-append_seam before (ticket_of f) [] no_ticket) (sym stands.1));
      at_any_moment = λ earlier' later here ahead split to from there which.
          leaves_in_time office r.filed.number ahead here last later is.0 (table_stays filed here earlier' next to) from there which;
    }

withdrawal_passes : (len : ℕ) (row : List Ticket) (w : Withdrawal) → Stands w.lasts row → 32 ≤ len → is_waiting w.office w.number row ≡ true → withdraw_verdict len row w ≡ accepted
unfolding withdraw_verdict records_verdict
withdrawal_passes len row w table long waits = rw (none_bad w.lasts (waiting 1 row) (waiting 2 row) row table, le-ltb len all_places long, waits)

pub withdrawal_serves : WithdrawalServes
withdrawal_serves k cs len w day same long waits =
    let table : Stands w.lasts k.row = subst (λ (x : Lasts). Stands x k.row) (sym same) (table_from_empty k cs day) in
    let tells = tells_waiting len k.row w in
    let is : is_waiting w.office w.number k.row ≡ true = ⊎_elim (λ e. e) (λ e. absurd (tells.when_false e waits)) (true_or_false (is_waiting w.office w.number k.row)) in
    ap (λ v. v.refusal) (withdrawn_verdict len k.row w ∙ withdrawal_passes len k.row w table long is)

pub table_has_no_bad_record : TableHasNoBadRecord
table_has_no_bad_record l row long = (
  λ table i below bad. true≢false (sym (found i bad) ∙ first_zero (bad_record l row) 32 (none_bad l (waiting 1 row) (waiting 2 row) row table) i below),
  λ none. row_sound l row long (first_all (bad_record l row) 32 (λ i below. fair i (none i below))),
)
  where
    found : (i : ℕ) → RecordIsBad l row i → bad_record l row i ≡ true
    found i bad = ⊎_elim (λ e. e) (λ e. absurd ((tells_bad l row i).when_false e bad)) (true_or_false (bad_record l row i))

    fair : (i : ℕ) → (RecordIsBad l row i → ⊥) → bad_record l row i ≡ false
    fair i none = ⊎_elim (λ e. absurd (none ((tells_bad l row i).when_true e))) (λ e. e) (true_or_false (bad_record l row i))

-- The table in a row, written back into it, changes nothing.
written_back : (ts : List Ticket) → with_table (table_in ts) ts ≡ ts
unfolding with_table table_in
written_back ts = elim (dec_le 32 (length ts)) [ yes h ↦ long h | no n ↦ short (omega arith) ]
  where
    long : 32 ≤ length ts → take (length ts) (take 32 ts ++ replicate (32 - length ts) no_ticket) ++ drop 32 ts ≡ ts
    long h =
        let none : 32 - length ts ≡ 0 = omega arith in
        ap (λ (n : ℕ). take (length ts) (take 32 ts ++ replicate n no_ticket) ++ drop 32 ts) none
        ∙ ap (λ (t : List Ticket). take (length ts) t ++ drop 32 ts) (append-nil (take 32 ts))
        ∙ ap (λ (t : List Ticket). t ++ drop 32 ts) (take_all (length ts) (take 32 ts) (rw (length-take-le 32 ts h) h))
        ∙ take-append-drop 32 ts

    short : length ts ≤ 32 → take (length ts) (take 32 ts ++ replicate (32 - length ts) no_ticket) ++ drop 32 ts ≡ ts
    short h =
        ap (λ (t : List Ticket). take (length ts) (t ++ replicate (32 - length ts) no_ticket) ++ drop 32 ts) (take_all 32 ts h)
        ∙ ap (λ (t : List Ticket). t ++ drop 32 ts) (take_at ts (replicate (32 - length ts) no_ticket) (length ts) refl)
        ∙ ap (λ (t : List Ticket). ts ++ t) (drop_of_length-le ts h)
        ∙ append-nil ts

pub as_it_was : (ts exit table : List Ticket) → exit ≡ with_table table ts → table ≡ table_in ts → exit ≡ ts
as_it_was ts exit table writes same = writes ∙ ap (λ (t : List Ticket). with_table t ts) same ∙ written_back ts

refused_row : {ts exit : List Ticket} {l m : Lasts} {c : Call} → LentFits ts l c exit m → is_refusal (answered c) ≡ true → (exit ≡ ts) × (m ≡ l)
refused_row {ts} {exit} {l} (LentFits.lent_filing {f = f} {r = r} last says writes) e =
    let kept = refused_changes (Fits.files {k = kept_in ts l} last refl) (ap (λ x. is_refusal x.verdict.refusal) (sym says) ∙ e) in
    (as_it_was ts exit _ writes kept.0, ap (λ x. x.lasts) says ∙ kept.1)
refused_row {ts} {exit} {l} (LentFits.lent_withdrawal {w = w} {r = r} last says writes) e =
    let kept = refused_changes (Fits.withdraws {k = kept_in ts l} last refl) (ap (λ x. is_refusal x.verdict.refusal) (sym says) ∙ e) in
    (as_it_was ts exit _ writes kept.0, ap (λ x. x.lasts) says ∙ kept.1)
refused_row {ts} {exit} {l} (LentFits.lent_boarding {r = r} last lent) e =
    let kept = refused_changes (Fits.boards {k = kept_in ts l} last lent.boards) e in
    (as_it_was ts exit _ lent.row kept.0, kept.1)

pub refused_leaves_the_row : RefusedLeavesTheRow
refused_leaves_the_row ts exit l m c fits some = refused_row fits (not_accepted (answered c) some)

-- Who waits, by the places.
ends_so : (h : List Ticket) → (length (tickets_in h) ≡ length h) ⊎ (is_empty_place (get_or h (length (tickets_in h)) no_ticket) ≡ true)
ends_so [] = inl (rw tickets_end)
ends_so (t ∷ ts) = by_case (is_empty_place t) refl (ends_so ts)
  where
    by_case : (b : Bool) → is_empty_place t ≡ b → (length (tickets_in ts) ≡ length ts) ⊎ (is_empty_place (get_or ts (length (tickets_in ts)) no_ticket) ≡ true)
        → (length (tickets_in (t ∷ ts)) ≡ suc (length ts)) ⊎ (is_empty_place (get_or (t ∷ ts) (length (tickets_in (t ∷ ts))) no_ticket) ≡ true)
    by_case true e rest = inr (rw (tickets_none t ts e) e)
    by_case false e rest = ⊎_elim (λ same. inl (rw (tickets_one t ts e) (ap suc same))) (λ empty. inr (rw (tickets_one t ts e) empty)) rest

module _ (first : ℕ) (row : List Ticket) (in_row : first ≤ 16) (all : length row ≡ 32) where
  abbrev there : List Ticket
  there = places_from first row

  fits_half : length (tickets_in there) ≤ 16
  fits_half = omega (arith, tickets_fit there, places_long first row in_row all)

  wait_at : WaitAt first row (tickets_in there)
  wait_at =
      record {
        few = fits_half;
        each = λ i l.
            let t = tickets_at there i l in
            let p = place_in_row first row in_row all i (omega (arith, l, fits_half)) in
            (t.0 ∙ p, (tells_empty (get_or row (first + i) no_ticket)).when_false (ap is_empty_place (sym p) ∙ t.1));
        end = ⊎_elim
            (λ (same : length (tickets_in there) ≡ length there). inl (same ∙ places_long first row in_row all))
            (λ (e : is_empty_place (get_or there (length (tickets_in there)) no_ticket) ≡ true).
            elim (dec_lt (length (tickets_in there)) 16) [
              | yes l ↦ inr ((tells_empty (get_or row (first + length (tickets_in there)) no_ticket)).when_true (ap is_empty_place (sym (place_in_row first row in_row all (length (tickets_in there)) l)) ∙ e))
              | no l ↦ inl (omega (arith, fits_half, l))
            ])
            (ends_so there);
      }

pub wait_at_their_places : WaitAtTheirPlaces
wait_at_their_places row all = (wait_at 0 row (omega arith) all, wait_at 16 row (omega arith) all)
