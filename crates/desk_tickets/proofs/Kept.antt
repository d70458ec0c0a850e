-- What a filing, a withdrawal and a boarding leave of an office's tickets: numbers that ascend, none above the last that was given.
use Prim.Native.Nat.{ℕ, suc, ◌+◌, ◌-◌, ◌≤◌, ◌<◌}
use mathlib.Core.Path.{◌≡◌, refl, ap, ◌∙◌}
use mathlib.Core.Bool.{true, false, not, cond, ◌&&◌}
use mathlib.Core.List.{List, [], ◌∷◌, ◌++◌}
use mathlib.Core.Logic.{⊎_elim, ◌⊎◌, inl, inr}
use native.Mathlib.Omega.{arith}
use native.Mathlib.Decide.{dec_lt}
use lib.Dec.{eqb, leb}
use lib.ListN.{length, get_or, take, drop, length-append, length-drop, get_or-append}
use lib.Seq.{get_or-drop, get_or-append_seam}
use borrow.Author.Tests.{eqb-false, leb-true, le-leb, eq-eqb, ne_eqb, not-true}
use Rattle.refusals.proofs.Verdicts.{refuses}
use Rattle.desk_tickets.specs.declared.Ticket.{Ticket}
use Rattle.desk_tickets.specs.declared.Lasts.{Lasts}
use Rattle.desk_tickets.specs.declared.Filing.{Filing}
use Rattle.desk_tickets.specs.declared.Withdrawal.{Withdrawal}
use Rattle.desk_tickets.specs.WaitingTable.{offices, places, no_ticket, up_to, is_ticket, last_of, waiting, row_of, Waits, Sound}
use Rattle.desk_tickets.specs.Filings.{in_range, file_verdict, number_for, lasts_with, ticket_of, with_ticket, row_with_ticket, not_filed, filed_in, file_row}
use Rattle.desk_tickets.specs.Withdrawals.{has_number, without_number, withdraw_verdict, without_ticket, row_left, withdraw_row}
use Rattle.desk_tickets.specs.Private.{without_some, index_of}
use Rattle.desk_tickets.proofs.Sound.{and_true_both}
use Rattle.desk_tickets.proofs.Placed.{leaving_before, leaving_behind, waiting_one, waiting_two}
use Rattle.desk_tickets.proofs.Storing.{office_is, range_office}
use Rattle.desk_tickets.proofs.Leaving.{without_index, index_in}

-- A ticket's number is at least 1 and at most the last; a later last does no harm.
module _ (office last : ℕ) (t : Ticket) (is : is_ticket office last t ≡ true) where
  number_test : ((eqb t.office office && up_to 4096 t.file && up_to 128 t.count) ≡ true) × (up_to last t.number ≡ true)
  number_test = and_true_both (eqb t.office office && up_to 4096 t.file && up_to 128 t.count) (up_to last t.number) is

  number_both : (not (eqb t.number 0) ≡ true) × (leb t.number last ≡ true)
  number_both = and_true_both (not (eqb t.number 0)) (leb t.number last) number_test.1

  pub number_most : t.number ≤ last
  number_most = leb-true t.number last number_both.1

  pub number_some : 0 < t.number
  number_some = elim (dec_lt 0 t.number) [ yes h ↦ h | no m ↦ absurd (eqb-false t.number 0 (not-true (eqb t.number 0) number_both.0) (omega arith)) ]

  pub ticket_wider : (more : ℕ) → last ≤ more → is_ticket office more t ≡ true
  ticket_wider more l = rw (number_test.0, number_both.0, le-leb t.number more (omega (arith, number_most)))

-- One ticket more, with the next number.
pub waits_more : (office last : ℕ) (ts : List Ticket) (t : Ticket) → Waits office last ts → length ts < places → is_ticket office (suc last) t ≡ true → t.number ≡ suc last
    → Waits office (suc last) (ts ++ t ∷ [])
waits_more office last ts t w l is next = record { few = rw long (omega arith); each = each; ascends = ascends }
  where
    long : length (ts ++ t ∷ []) ≡ suc (length ts)
    long = length-append ts (t ∷ []) ∙ omega arith

    here : (i : ℕ) → i < length ts → get_or (ts ++ t ∷ []) i no_ticket ≡ get_or ts i no_ticket
    here i h = get_or-append ts (t ∷ []) no_ticket i h

    last_one : (i : ℕ) → i ≡ length ts → get_or (ts ++ t ∷ []) i no_ticket ≡ t
    last_one i e = rw e (get_or-append_seam ts t [] no_ticket)

    each : (i : ℕ) → i < length (ts ++ t ∷ []) → is_ticket office (suc last) (get_or (ts ++ t ∷ []) i no_ticket) ≡ true
    each i b =
        let bound : i < suc (length ts) = rw long at b in
        elim (dec_lt i (length ts)) [
          | yes h ↦ rw (here i h) (ticket_wider office last (get_or ts i no_ticket) (w.each i h) (suc last) (omega arith))
          | no m ↦ rw (last_one i (omega arith)) is
        ]

    ascends : (i : ℕ) → suc i < length (ts ++ t ∷ []) → (get_or (ts ++ t ∷ []) i no_ticket).number < (get_or (ts ++ t ∷ []) (suc i) no_ticket).number
    ascends i b =
        let bound : suc i < suc (length ts) = rw long at b in
        elim (dec_lt (suc i) (length ts)) [
          | yes h ↦ rw (here i (omega arith), here (suc i) h) (w.ascends i h)
          | no m ↦
              (let most = number_most office last (get_or ts i no_ticket) (w.each i (omega arith)) in rw (here i (omega arith), last_one (suc i) (omega arith), next) (omega arith))
        ]

-- The first ones gone.
pub waits_behind : (office last n : ℕ) (ts : List Ticket) → Waits office last ts → Waits office last (drop n ts)
waits_behind office last n ts w =
    record {
      few = rw (length-drop n ts) (omega (arith, w.few));
      each = λ i l. let b : i < length ts - n = rw (length-drop n ts) at l in rw (get_or-drop n ts i no_ticket) (w.each (n + i) (omega arith));
      ascends = λ i l.
          let b : suc i < length ts - n = rw (length-drop n ts) at l in
          let e : n + suc i ≡ suc (n + i) = omega arith in
          rw (get_or-drop n ts i no_ticket, get_or-drop n ts (suc i) no_ticket, e) (w.ascends (n + i) (omega arith));
    }

-- One gone, wherever it stood.
module _ (office last p : ℕ) (ts : List Ticket) (in-ts : p < length ts) (w : Waits office last ts) where
  one_less : suc (length (without_some p 1 ts)) ≡ length ts
  one_less =
      omega (
        arith,
        length-append (take p ts) (drop 1 (drop p ts)),
        length-drop 1 (drop p ts),
        length-drop p ts,
        length-append (take p ts) (drop p ts),
        ap length (lib.ListN.take-append-drop p ts),
      )

  behind : (i : ℕ) → p ≤ i → get_or (without_some p 1 ts) i no_ticket ≡ get_or ts (suc i) no_ticket
  behind i l = let e : i + 1 ≡ suc i = omega arith in leaving_behind p 1 ts i l (omega arith) ∙ ap (λ k. get_or ts k no_ticket) e

  waits_leaving : Waits office last (without_some p 1 ts)
  waits_leaving = record { few = omega (arith, one_less, w.few); each = each; ascends = ascends }
    where
      each : (i : ℕ) → i < length (without_some p 1 ts) → is_ticket office last (get_or (without_some p 1 ts) i no_ticket) ≡ true
      each i l =
          let less = one_less in
          elim (dec_lt i p) [
            | yes h ↦ rw (leaving_before p 1 ts i h (omega arith)) (w.each i (omega arith))
            | no m ↦ rw (behind i (omega arith)) (w.each (suc i) (omega arith))
          ]

      ascends : (i : ℕ) → suc i < length (without_some p 1 ts) → (get_or (without_some p 1 ts) i no_ticket).number < (get_or (without_some p 1 ts) (suc i) no_ticket).number
      ascends i l =
          let less = one_less in
          let first = w.ascends i (omega arith) in
          let second = w.ascends (suc i) (omega arith) in
          elim (dec_lt (suc i) p) [
            | yes h ↦ rw (leaving_before p 1 ts i (omega arith) (omega arith), leaving_before p 1 ts (suc i) h (omega arith)) first
            | no m ↦
                elim (dec_lt i p) [
                  | yes h ↦ rw (leaving_before p 1 ts i h (omega arith), behind (suc i) (omega arith)) (omega arith)
                  | no k ↦ rw (behind i (omega arith), behind (suc i) (omega arith)) second
                ]
          ]

pub waits_without : (office last n : ℕ) (ts : List Ticket) → has_number n ts ≡ true → Waits office last ts → Waits office last (without_number n ts)
waits_without office last n ts h w = rw (without_index n ts h) (waits_leaving office last (index_of n ts) ts (index_in n ts h) w)

-- A sound row, by what waits in it.
abbrev pub Stands : Lasts → List Ticket → Type 0
Stands l row = Sound l (waiting 1 row) (waiting 2 row) row

pub sound_stands : (l : Lasts) (ones twos row : List Ticket) → Sound l ones twos row → Stands l row
sound_stands l ones twos row s = rw (waiting_one l ones twos row s, waiting_two l ones twos row s) s

-- What a row holds after a call: these tickets at each office, and the row stays sound.
pub record Holds (l : Lasts) (ones twos row : List Ticket) : Type 0 where
  pub one : waiting 1 row ≡ ones
  pub two : waiting 2 row ≡ twos
  pub sound : Stands l row

holds : (l : Lasts) (ones twos : List Ticket) → Sound l ones twos (row_of ones twos) → Holds l ones twos (row_of ones twos)
holds l ones twos s =
    record {
      one = waiting_one l ones twos (row_of ones twos) s;
      two = waiting_two l ones twos (row_of ones twos) s;
      sound = sound_stands l ones twos (row_of ones twos) s;
    }

-- A boarding's.
pub without_holds : (one two : ℕ) (l : Lasts) (row : List Ticket) → Stands l row → Holds l (drop one (waiting 1 row)) (drop two (waiting 2 row)) (row_of (drop one (waiting 1 row)) (drop two (waiting 2 row)))
without_holds one two l row s =
    holds l (drop one (waiting 1 row)) (drop two (waiting 2 row))
    (record { one = waits_behind 1 l.one one (waiting 1 row) s.one; two = waits_behind 2 l.two two (waiting 2 row) s.two; is = refl })

-- A filing's.
abbrev pub with_one : ℕ → List Ticket → Ticket → List Ticket
with_one o row t = with_ticket o t (waiting o row)

with_own : (o : ℕ) (t : Ticket) (ts : List Ticket) → t.office ≡ o → with_ticket o t ts ≡ ts ++ t ∷ []
with_own o t ts e = rw (eq-eqb t.office o e)

with_other : (o : ℕ) (t : Ticket) (ts : List Ticket) → (t.office ≡ o → ⊥) → with_ticket o t ts ≡ ts
with_other o t ts e = rw (ne_eqb t.office o e)

file_is_ticket : (f : Filing) → in_range f ≡ true → is_ticket f.office (number_for f) (ticket_of f) ≡ true
file_is_ticket f e =
    let a = and_true_both (up_to offices f.office && up_to f.files f.file && up_to 4096 f.file) (up_to 128 f.count) e in
    let b = and_true_both (up_to offices f.office && up_to f.files f.file) (up_to 4096 f.file) a.0 in
    rw (eq-eqb f.office f.office refl, b.1, a.1, ne_eqb (number_for f) 0 (λ z. omega arith), le-leb (number_for f) (number_for f) (omega arith))

pub file_holds : (row : List Ticket) (f : Filing) → Stands f.lasts row → in_range f ≡ true → length (waiting f.office row) < places
    → Holds (lasts_with f.office (number_for f) f.lasts) (with_one 1 row (ticket_of f)) (with_one 2 row (ticket_of f)) (row_with_ticket (ticket_of f) row)
file_holds row f s e l = ⊎_elim at_one at_two (office_is f.office (range_office f e))
  where
    at_one : f.office ≡ 1 → Holds (lasts_with f.office (number_for f) f.lasts) (with_one 1 row (ticket_of f)) (with_one 2 row (ticket_of f)) (row_with_ticket (ticket_of f) row)
    at_one o = made f.office (ticket_of f) (number_for f) o refl refl (ap (λ k. suc (last_of k f.lasts)) o) (file_is_ticket f e) l
      where
        made : (k : ℕ) (t : Ticket) (n : ℕ) → k ≡ 1 → t.office ≡ k → t.number ≡ n → n ≡ suc f.lasts.one → is_ticket k n t ≡ true → length (waiting k row) < places
            → Holds (lasts_with k n f.lasts) (with_one 1 row t) (with_one 2 row t) (row_with_ticket t row)
        made k t n k-is o_is n-is next it few =
            let o1 : t.office ≡ 1 = o_is ∙ k-is in
            rw (k-is, next, with_own 1 t (waiting 1 row) o1, with_other 2 t (waiting 2 row) (λ z. omega arith))
            (holds (record { one = suc f.lasts.one; two = f.lasts.two }) (waiting 1 row ++ t ∷ []) (waiting 2 row)
            (record {
              one = waits_more 1 f.lasts.one (waiting 1 row) t s.one (rw k-is at few) (rw (k-is, next) at it) (n-is ∙ next);
              two = s.two;
              is = refl;
            }))

    at_two : f.office ≡ 2 → Holds (lasts_with f.office (number_for f) f.lasts) (with_one 1 row (ticket_of f)) (with_one 2 row (ticket_of f)) (row_with_ticket (ticket_of f) row)
    at_two o = made f.office (ticket_of f) (number_for f) o refl refl (ap (λ k. suc (last_of k f.lasts)) o) (file_is_ticket f e) l
      where
        made : (k : ℕ) (t : Ticket) (n : ℕ) → k ≡ 2 → t.office ≡ k → t.number ≡ n → n ≡ suc f.lasts.two → is_ticket k n t ≡ true → length (waiting k row) < places
            → Holds (lasts_with k n f.lasts) (with_one 1 row t) (with_one 2 row t) (row_with_ticket t row)
        made k t n k-is o_is n-is next it few =
            let o2 : t.office ≡ 2 = o_is ∙ k-is in
            rw (k-is, next, with_other 1 t (waiting 1 row) (λ z. omega arith), with_own 2 t (waiting 2 row) o2)
            (holds (record { one = f.lasts.one; two = suc f.lasts.two }) (waiting 1 row) (waiting 2 row ++ t ∷ [])
            (record {
              one = s.one;
              two = waits_more 2 f.lasts.two (waiting 2 row) t s.two (rw k-is at few) (rw (k-is, next) at it) (n-is ∙ next);
              is = refl;
            }))

-- A withdrawal's.
pub withdraw_holds : (row : List Ticket) (w : Withdrawal) → Stands w.lasts row → up_to offices w.office ≡ true → has_number w.number (waiting w.office row) ≡ true
    → Holds w.lasts (without_ticket 1 w (waiting 1 row)) (without_ticket 2 w (waiting 2 row)) (row_left w row)
withdraw_holds row w s e h = by_office w.office (office_is w.office e) h
  where
    by_office : (o : ℕ) → (o ≡ 1) ⊎ (o ≡ 2) → has_number w.number (waiting o row) ≡ true
        → Holds w.lasts (cond (eqb o 1) (without_number w.number (waiting 1 row)) (waiting 1 row)) (cond (eqb o 2) (without_number w.number (waiting 2 row)) (waiting 2 row))
        (row_of (cond (eqb o 1) (without_number w.number (waiting 1 row)) (waiting 1 row)) (cond (eqb o 2) (without_number w.number (waiting 2 row)) (waiting 2 row)))
    by_office o (inl is) has =
        rw is
        (holds w.lasts (without_number w.number (waiting 1 row)) (waiting 2 row)
        (record { one = waits_without 1 w.lasts.one w.number (waiting 1 row) (rw is at has) s.one; two = s.two; is = refl }))
    by_office o (inr is) has =
        rw is
        (holds w.lasts (waiting 1 row) (without_number w.number (waiting 2 row))
        (record { one = s.one; two = waits_without 2 w.lasts.two w.number (waiting 2 row) (rw is at has) s.two; is = refl }))

-- The answer by the verdict.
module _ (len : ℕ) (row : List Ticket) (f : Filing) where
  pub filed_so_lem : refuses (file_verdict len row f) ≡ false → file_row len row f ≡ filed_in row f (file_verdict len row f)
  unfolding file_row
  filed_so_lem e = rw e

  pub not_filed_so : refuses (file_verdict len row f) ≡ true → file_row len row f ≡ not_filed row f (file_verdict len row f)
  unfolding file_row
  not_filed_so e = rw e

module _ (len : ℕ) (row : List Ticket) (w : Withdrawal) where
  pub withdrawn_so_lem : refuses (withdraw_verdict len row w) ≡ false → withdraw_row len row w ≡ record { withdrawn = record { verdict = withdraw_verdict len row w; lasts = w.lasts }; row = row_left w row }
  unfolding withdraw_row
  withdrawn_so_lem e = rw e

  pub not_withdrawn_so : refuses (withdraw_verdict len row w) ≡ true → withdraw_row len row w ≡ record { withdrawn = record { verdict = withdraw_verdict len row w; lasts = w.lasts }; row = row }
  unfolding withdraw_row
  not_withdrawn_so e = rw e
