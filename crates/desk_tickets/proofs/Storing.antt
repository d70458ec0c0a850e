-- A filing: the store that the code makes is one ticket more at its office, and the answer by the verdict.
use Prim.Native.Nat.{ℕ, suc, ◌+◌, ◌<◌}
use mathlib.Core.Path.{◌≡◌, refl, ap, ◌∙◌}
use mathlib.Core.Bool.{true, false, not, cond, ◌&&◌}
use mathlib.Core.List.{List, [], ◌∷◌, ◌++◌}
use mathlib.Core.Logic.{⊎_elim, ◌⊎◌, inl, inr}
use native.Mathlib.Omega.{arith}
use native.Mathlib.Decide.{dec_lt}
use native.Mathlib.Numerals.{add-one}
use Rattle.std.specs.Prelude.{Ok, Err}
use lib.Dec.{leb, eqb, ltb}
use lib.ListN.{length, set}
use borrow.Author.Tests.{leb-true, leb-false, eqb-false, not-true, not-false}
use Rattle.refusals.specs.declared.Refusal.TheVariants.{ShortRow, BadRecord, BadTicket, OfficeFull, NumbersSpent}
use Rattle.refusals.specs.declared.Verdict.{Verdict}
use Rattle.refusals.specs.Refusals.{accepted, checked, refuse_if, refuse_at, first_where}
use Rattle.refusals.proofs.Verdicts.{refuses, none_refuses, all_accept, accepts_if, accepts_at}
use Rattle.refusals.proofs.Checked.{passed, stopped}
use Rattle.desk_tickets.specs.declared.Ticket.{Ticket}
use Rattle.desk_tickets.specs.declared.Lasts.{Lasts}
use Rattle.desk_tickets.specs.declared.Filing.{Filing}
use Rattle.desk_tickets.specs.declared.FiledRow.{FiledRow}
use Rattle.desk_tickets.specs.WaitingTable.{offices, places, all_places, up_to, last_of, waiting, row_of, bad_record, records_verdict, first_place, Sound}
use Rattle.desk_tickets.specs.Filings.{in_range, is_full, most_number, is_spent, file_verdict, number_for, lasts_with, ticket_of, not_filed, file_row}
use Rattle.desk_tickets.proofs.Halves.{first_place_within}
use Rattle.desk_tickets.proofs.Sound.{row_sound, and_true_both}
use Rattle.desk_tickets.proofs.Placed.{row_more_one, row_more_two}

-- Acceptance of a row: it is long enough, and no record is bad.
pub row_accepted : (len : ℕ) (row : List Ticket) (l : Lasts) → refuses (records_verdict len row l) ≡ false → first_where (bad_record l row) all_places ≡ 0
unfolding records_verdict
row_accepted len row l e =
    let each = all_accept (refuse_if (ltb len all_places) ShortRow ∷ refuse_at (first_where (bad_record l row) all_places) BadRecord ∷ []) e in
    accepts_at (first_where (bad_record l row) all_places) BadRecord refl each.1.0

pub accepted_sound : (len : ℕ) (row : List Ticket) (l : Lasts) → length row ≡ all_places → refuses (records_verdict len row l) ≡ false → Sound l (waiting 1 row) (waiting 2 row) row
accepted_sound len row l all e = row_sound l row all (row_accepted len row l e)

-- Acceptance of a filing.
pub record Accepted (len : ℕ) (row : List Ticket) (f : Filing) : Type 0 where
  pub told : file_verdict len row f ≡ accepted
  pub table : refuses (records_verdict len row f.lasts) ≡ false
  pub ranged : in_range f ≡ true
  pub free : length (waiting f.office row) < places
  pub unspent : last_of f.office f.lasts < most_number

pub file_accepted : (len : ℕ) (row : List Ticket) (f : Filing) → refuses (file_verdict len row f) ≡ false → Accepted len row f
unfolding file_verdict
file_accepted len row f e =
    let checks =
    records_verdict len row f.lasts
    ∷ refuse_if (not (in_range f)) BadTicket
    ∷ refuse_if (is_full f.office row) OfficeFull
    ∷ refuse_if (is_spent f.office f.lasts) NumbersSpent
    ∷ [] in
    let each = all_accept checks e in
    record {
      told = none_refuses checks e;
      table = each.0;
      ranged = not-false (in_range f) (accepts_if (not (in_range f)) BadTicket refl each.1.0);
      free = leb-false places (length (waiting f.office row)) (accepts_if (is_full f.office row) OfficeFull refl each.1.1.0);
      unspent = leb-false most_number (last_of f.office f.lasts) (accepts_if (is_spent f.office f.lasts) NumbersSpent refl each.1.1.1.0);
    }

-- The office of an accepted filing is 1 or 2.
pub office_is : (n : ℕ) → up_to offices n ≡ true → (n ≡ 1) ⊎ (n ≡ 2)
office_is n e =
    let both = and_true_both (not (eqb n 0)) (leb n offices) e in
    let some = eqb-false n 0 (not-true (eqb n 0) both.0) in
    let few = leb-true n offices both.1 in
    elim (dec_lt n 2) [ yes h ↦ inl (omega (arith, zero_or n some)) | no m ↦ inr (omega arith) ]
  where
    zero_or : (k : ℕ) → (k ≡ 0 → ⊥) → 0 < k
    zero_or k h = elim (dec_lt 0 k) [ yes l ↦ l | no m ↦ absurd (h (omega arith)) ]

pub range_office : (f : Filing) → in_range f ≡ true → up_to offices f.office ≡ true
range_office f e =
    let a = (and_true_both (up_to offices f.office && up_to f.files f.file && up_to 4096 f.file) (up_to 128 f.count) e).0 in
    let b = (and_true_both (up_to offices f.office && up_to f.files f.file) (up_to 4096 f.file) a).0 in
    (and_true_both (up_to offices f.office) (up_to f.files f.file) b).0

-- The store at the first empty place of the office.
store_at : (l : Lasts) (row : List Ticket) (t : Ticket) (o : ℕ) → Sound l (waiting 1 row) (waiting 2 row) row → (o ≡ 1) ⊎ (o ≡ 2) → length (waiting o row) < places
    → set row (first_place o + length (waiting o row)) t ≡ row_of (cond (eqb o 1) (waiting 1 row ++ t ∷ []) (waiting 1 row)) (cond (eqb o 2) (waiting 2 row ++ t ∷ []) (waiting 2 row))
store_at lasts row t o s which l = ⊎_elim at_one at_two which
  where
    at_one : o ≡ 1 → set row (first_place o + length (waiting o row)) t ≡ row_of (cond (eqb o 1) (waiting 1 row ++ t ∷ []) (waiting 1 row)) (cond (eqb o 2) (waiting 2 row ++ t ∷ []) (waiting 2 row))
    at_one e = rw e (ap (λ r. set r (0 + length (waiting 1 row)) t) s.is ∙ row_more_one (waiting 1 row) (waiting 2 row) t (rw e at l))

    at_two : o ≡ 2 → set row (first_place o + length (waiting o row)) t ≡ row_of (cond (eqb o 1) (waiting 1 row ++ t ∷ []) (waiting 1 row)) (cond (eqb o 2) (waiting 2 row ++ t ∷ []) (waiting 2 row))
    at_two e = rw e (ap (λ r. set r (places + length (waiting 2 row)) t) s.is ∙ row_more_two (waiting 1 row) (waiting 2 row) t s.one.few (rw e at l))

module _ (len : ℕ) (row : List Ticket) (f : Filing) where
  pub file_refused : (v : Verdict) → Err v ≡ checked (file_verdict len row f) → not_filed row f v ≡ file_row len row f
  unfolding file_row
  file_refused v said = let s = stopped _ v said in rw (s.so, s.is) refl

  module _ (u : Unit) (said : Ok u ≡ checked (file_verdict len row f)) where
    accepts : Accepted len row f
    accepts = file_accepted len row f (passed _ u said)

    pub file_stored : length row ≡ all_places
        → (last p n : ℕ) (given : Lasts) → last ≡ last_of f.office f.lasts → p ≡ first_place f.office → n ≡ length (waiting f.office row) → given ≡ lasts_with f.office (last + 1) f.lasts
        → ◌≡◌ {A = FiledRow}
        (record {
          filed = record { verdict = accepted; number = last + 1; lasts = given };
          row = set row (p + n) (record { office = f.office; file = f.file; count = f.count; number = last + 1 });
        })
        (file_row len row f)
    unfolding file_row
    file_stored all last p n given last_is p-is n-is given_is =
        let next : last + 1 ≡ number_for f = add-one last ∙ ap suc last_is in
        rw (passed _ u said, accepts.told, given_is, next, p-is, n-is)
        (ap {B = FiledRow} (λ r. record { filed = record { verdict = accepted; number = number_for f; lasts = lasts_with f.office (number_for f) f.lasts }; row = r })
        (store_at f.lasts row (ticket_of f) f.office (accepted_sound len row f.lasts all accepts.table) (office_is f.office (range_office f accepts.ranged)) accepts.free))

    pub store_fits : first_place f.office + length (waiting f.office row) < all_places
    store_fits = omega (arith, accepts.free, first_place_within f.office)

    pub number_fits : last_of f.office f.lasts < most_number
    number_fits = accepts.unspent
