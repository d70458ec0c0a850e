-- A withdrawal: where the ticket stands, as a loop finds it, and the row without it.
use Prim.Native.Nat.{ℕ, suc, ◌+◌, ◌≤◌, ◌<◌}
use mathlib.Core.Path.{◌≡◌, refl, sym, ap, ◌∙◌}
use mathlib.Core.Bool.{Bool, true, false, not, cond, true≢false}
use mathlib.Core.List.{List, [], ◌∷◌, ◌++◌, append-nil}
use mathlib.Core.Logic.{⊎_elim, ◌⊎◌}
use native.Mathlib.Omega.{arith}
use native.Mathlib.Numerals.{add-one}
use Rattle.std.specs.Prelude.{Ok, Err}
use lib.Dec.{eqb, ltb}
use lib.ListN.{length, get_or, take, drop, drop_of_length-le}
use lib.Seq.{drop-cons, drop_at, take_all, paste}
use borrow.Author.Tests.{lt-ltb, le-ltb, ltb-true, not-false}
use Rattle.refusals.specs.declared.Refusal.TheVariants.{NotWaiting}
use Rattle.refusals.specs.declared.Verdict.{Verdict}
use Rattle.refusals.specs.Refusals.{accepted, checked, refuse_if}
use Rattle.refusals.proofs.Verdicts.{refuses, none_refuses, all_accept, accepts_if}
use Rattle.refusals.proofs.Checked.{passed, stopped}
use Rattle.runs.proofs.Search.{ltb_same}
use Rattle.desk_tickets.specs.declared.Ticket.{Ticket}
use Rattle.desk_tickets.specs.declared.Lasts.{Lasts}
use Rattle.desk_tickets.specs.declared.Withdrawal.{Withdrawal}
use Rattle.desk_tickets.specs.declared.WithdrawnRow.{WithdrawnRow}
use Rattle.desk_tickets.specs.WaitingTable.{offices, places, all_places, no_ticket, up_to, first_place, waiting, placed, row_of, records_verdict, Sound}
use Rattle.desk_tickets.specs.Withdrawals.{has_number, without_number, is_waiting, withdraw_verdict, withdraw_row}
use Rattle.desk_tickets.specs.Private.{without_some, closed_up, index_of}
use Rattle.desk_tickets.proofs.Halves.{tickets_at, tickets_fit, places_from, places_long, place_in_row, first_place_within}
use Rattle.desk_tickets.proofs.Sound.{and_true_both}
use Rattle.desk_tickets.proofs.Placed.{placed_leaving, placed_long, closed_long, half_one, half_two, sound_long}
use Rattle.desk_tickets.proofs.Storing.{accepted_sound, office_is}

-- A ticket has the number exactly where its index is one of theirs; the tickets without it are those but the one there.
module _ (n : ℕ) where
  index_end : index_of n [] ≡ 0
  unfolding index_of
  index_end = refl

  index_here : (t : Ticket) (ts : List Ticket) → eqb t.number n ≡ true → index_of n (t ∷ ts) ≡ 0
  unfolding index_of
  index_here t ts e = rw e

  index_later : (t : Ticket) (ts : List Ticket) → eqb t.number n ≡ false → index_of n (t ∷ ts) ≡ suc (index_of n ts)
  unfolding index_of
  index_later t ts e = rw e

  has_end : has_number n [] ≡ false
  unfolding has_number
  has_end = refl

  pub has_here : (t : Ticket) (ts : List Ticket) → eqb t.number n ≡ true → has_number n (t ∷ ts) ≡ true
  unfolding has_number
  has_here t ts e = rw e

  pub has_later : (t : Ticket) (ts : List Ticket) → eqb t.number n ≡ false → has_number n (t ∷ ts) ≡ has_number n ts
  unfolding has_number
  has_later t ts e = rw e

  pub without_here : (t : Ticket) (ts : List Ticket) → eqb t.number n ≡ true → without_number n (t ∷ ts) ≡ ts
  unfolding without_number
  without_here t ts e = rw e

  pub without_later : (t : Ticket) (ts : List Ticket) → eqb t.number n ≡ false → without_number n (t ∷ ts) ≡ t ∷ without_number n ts
  unfolding without_number
  without_later t ts e = rw e

  pub has_index_lem : (ts : List Ticket) → has_number n ts ≡ ltb (index_of n ts) (length ts)
  has_index_lem [] = has_end ∙ sym (rw index_end (le-ltb 0 0 (omega arith)))
  has_index_lem (t ∷ ts) = by_case (eqb t.number n) refl (has_index_lem ts)
    where
      by_case : (b : Bool) → eqb t.number n ≡ b → has_number n ts ≡ ltb (index_of n ts) (length ts) → has_number n (t ∷ ts) ≡ ltb (index_of n (t ∷ ts)) (suc (length ts))
      by_case true e rest = has_here t ts e ∙ sym (rw (index_here t ts e) (lt-ltb 0 (suc (length ts)) (omega arith)))
      by_case false e rest =
          has_later t ts e ∙ rest
          ∙ (rw (index_later t ts e) (ltb_same (index_of n ts) (length ts) (suc (index_of n ts)) (suc (length ts)) (λ h. omega arith) (λ h. omega arith)))

  pub without_index : (ts : List Ticket) → has_number n ts ≡ true → without_number n ts ≡ without_some (index_of n ts) 1 ts
  without_index [] h = absurd (true≢false (sym h ∙ has_end))
  without_index (t ∷ ts) h = by_case (eqb t.number n) refl (without_index ts)
    where
      by_case : (b : Bool) → eqb t.number n ≡ b → (has_number n ts ≡ true → without_number n ts ≡ without_some (index_of n ts) 1 ts)
          → without_number n (t ∷ ts) ≡ without_some (index_of n (t ∷ ts)) 1 (t ∷ ts)
      by_case true e rest = rw (without_here t ts e, index_here t ts e)
      by_case false e rest = rw (without_later t ts e, index_later t ts e) (ap {B = List Ticket} (λ r. t ∷ r) (rest (sym (has_later t ts e) ∙ h)))

  pub index_in : (ts : List Ticket) → has_number n ts ≡ true → index_of n ts < length ts
  index_in ts h = ltb-true (index_of n ts) (length ts) (sym (has_index_lem ts) ∙ h)

-- Looked for one by one: not among the first i.
pub record Sought (n : ℕ) (ts : List Ticket) (i : ℕ) : Type 0 where
  pub within : i ≤ length ts
  pub so : index_of n ts ≡ i + index_of n (drop i ts)

module _ (n : ℕ) (ts : List Ticket) where
  at_place : (i : ℕ) → i < length ts → index_of n (drop i ts) ≡ index_of n (get_or ts i no_ticket ∷ drop (suc i) ts)
  at_place i l = ap (index_of n) (drop-cons ts i no_ticket l)

  pub sought_more : (i : ℕ) → Sought n ts i → i < length ts → eqb (get_or ts i no_ticket).number n ≡ false → Sought n ts (i + 1)
  sought_more i s l e =
      let here = at_place i l ∙ index_later n (get_or ts i no_ticket) (drop (suc i) ts) e in
      rw (add-one i) record { within = l; so = s.so ∙ omega arith }

  pub sought_here : (i : ℕ) → Sought n ts i → i < length ts → eqb (get_or ts i no_ticket).number n ≡ true → i ≡ index_of n ts
  sought_here i s l e = let here = at_place i l ∙ index_here n (get_or ts i no_ticket) (drop (suc i) ts) e in omega (arith, s.so)

  pub sought_all : (i : ℕ) → Sought n ts i → length ts ≤ i → length ts ≡ index_of n ts
  sought_all i s l = let here = ap (index_of n) (drop_of_length-le ts l) ∙ index_end n in omega (arith, s.so, s.within)

-- An office's waiting tickets in the row.
module _ (office : ℕ) (row : List Ticket) (all : length row ≡ all_places) where
  pub waiting_few : length (waiting office row) ≤ places
  waiting_few = rw (places_long (first_place office) row (first_place_within office) all) at (tickets_fit (places_from (first_place office) row))

  pub waiting_at : (i : ℕ) → i < length (waiting office row) → get_or row (first_place office + i) no_ticket ≡ get_or (waiting office row) i no_ticket
  waiting_at i l =
      let few = waiting_few in
      sym ((tickets_at (places_from (first_place office) row) i l).0 ∙ place_in_row (first_place office) row (first_place_within office) all i (omega arith))

  -- The same for an office whose places begin at `first`, where n wait.
  module _ (first : ℕ) (begins : first ≡ first_place office) (n : ℕ) (count : n ≡ length (waiting office row)) (i : ℕ) (l : i < n) where
    pub waiting_place : first + i < all_places
    waiting_place = let few = waiting_few in omega (arith, first_place_within office)

    pub waiting_here : get_or row (first + i) no_ticket ≡ get_or (waiting office row) i no_ticket
    waiting_here = rw begins (waiting_at i (omega arith))

pub waits_index : (office n : ℕ) (row : List Ticket) (i m : ℕ) → up_to offices office ≡ true → i ≡ index_of n (waiting office row) → m ≡ length (waiting office row) → ltb i m ≡ is_waiting office n row
waits_index office n row i m e i-is m-is = rw (e, i-is, m-is) (sym (has_index_lem n (waiting office row)))

-- A sound row's places closed up over one ticket.
module _ (l : Lasts) (ones twos row : List Ticket) (s : Sound l ones twos row) (p : ℕ) where
  closed_one : p ≤ length ones → paste row 0 (closed_up 0 p 1 row) places ≡ row_of (without_some p 1 ones) twos
  closed_one in_ones =
      let all = sound_long l ones twos row s in
      let back : drop places row ≡ placed twos = ap (drop places) s.is ∙ drop_at (placed ones) (placed twos) places (placed_long ones s.one.few) in
      let g : closed_up 0 p 1 row ≡ placed (without_some p 1 ones) = ap (λ h. placed (without_some p 1 h)) (half_one l ones twos row s) ∙ placed_leaving p 1 ones s.one.few in_ones in
      ap (λ r. r ++ drop places row) (take_all places (closed_up 0 p 1 row) (omega (arith, closed_long 0 row (omega arith) all p 1)))
      ∙ ap (λ r. r ++ drop places row) g
      ∙ ap (λ r. placed (without_some p 1 ones) ++ r) back

  closed_two : p ≤ length twos → paste row places (closed_up places p 1 row) places ≡ row_of ones (without_some p 1 twos)
  closed_two in-twos =
      let all = sound_long l ones twos row s in
      let g : closed_up places p 1 row ≡ placed (without_some p 1 twos) = ap (λ h. placed (without_some p 1 h)) (half_two l ones twos row s) ∙ placed_leaving p 1 twos s.two.few in-twos in
      ap (λ r. take places row ++ r ++ drop all_places row) (take_all places (closed_up places p 1 row) (omega (arith, closed_long places row (omega arith) all p 1)) ∙ g)
      ∙ ap (λ r. r ++ placed (without_some p 1 twos) ++ drop all_places row) (half_one l ones twos row s)
      ∙ ap (λ r. placed ones ++ placed (without_some p 1 twos) ++ r) (drop_of_length-le row {i = all_places} (omega arith))
      ∙ append-nil (placed ones ++ placed (without_some p 1 twos))

-- Acceptance of a withdrawal.
pub record Taken (len : ℕ) (row : List Ticket) (w : Withdrawal) : Type 0 where
  pub told : withdraw_verdict len row w ≡ accepted
  pub table : refuses (records_verdict len row w.lasts) ≡ false
  pub office : up_to offices w.office ≡ true
  pub waits : has_number w.number (waiting w.office row) ≡ true

pub withdraw_accepted : (len : ℕ) (row : List Ticket) (w : Withdrawal) → refuses (withdraw_verdict len row w) ≡ false → Taken len row w
unfolding withdraw_verdict
withdraw_accepted len row w e =
    let checks = records_verdict len row w.lasts ∷ refuse_if (not (is_waiting w.office w.number row)) NotWaiting ∷ [] in
    let each = all_accept checks e in
    let it = not-false (is_waiting w.office w.number row) (accepts_if (not (is_waiting w.office w.number row)) NotWaiting refl each.1.0) in
    let both = and_true_both (up_to offices w.office) (has_number w.number (waiting w.office row)) it in
    record { told = none_refuses checks e; table = each.0; office = both.0; waits = both.1 }

module _ (len : ℕ) (row : List Ticket) (w : Withdrawal) where
  pub withdraw_refused : (v : Verdict) → Err v ≡ checked (withdraw_verdict len row w)
      → ◌≡◌ {A = WithdrawnRow} (record { withdrawn = record { verdict = v; lasts = w.lasts }; row = row }) (withdraw_row len row w)
  unfolding withdraw_row
  withdraw_refused v said = let s = stopped _ v said in rw (s.so, s.is) refl

  left_by : (l : Lasts) → Sound l (waiting 1 row) (waiting 2 row) row → (o n : ℕ) → (o ≡ 1) ⊎ (o ≡ 2) → has_number n (waiting o row) ≡ true
      → paste row (first_place o) (closed_up (first_place o) (index_of n (waiting o row)) 1 row) places
      ≡ row_of (cond (eqb o 1) (without_number n (waiting 1 row)) (waiting 1 row)) (cond (eqb o 2) (without_number n (waiting 2 row)) (waiting 2 row))
  left_by l s o n which h = ⊎_elim at_one at_two which
    where
      at_one : o ≡ 1
          → paste row (first_place o) (closed_up (first_place o) (index_of n (waiting o row)) 1 row) places
          ≡ row_of (cond (eqb o 1) (without_number n (waiting 1 row)) (waiting 1 row)) (cond (eqb o 2) (without_number n (waiting 2 row)) (waiting 2 row))
      at_one e =
          let h1 : has_number n (waiting 1 row) ≡ true = rw e at h in
          let i = index_in n (waiting 1 row) h1 in
          rw (e, without_index n (waiting 1 row) h1) (closed_one l (waiting 1 row) (waiting 2 row) row s (index_of n (waiting 1 row)) (omega arith))

      at_two : o ≡ 2
          → paste row (first_place o) (closed_up (first_place o) (index_of n (waiting o row)) 1 row) places
          ≡ row_of (cond (eqb o 1) (without_number n (waiting 1 row)) (waiting 1 row)) (cond (eqb o 2) (without_number n (waiting 2 row)) (waiting 2 row))
      at_two e =
          let h2 : has_number n (waiting 2 row) ≡ true = rw e at h in
          let i = index_in n (waiting 2 row) h2 in
          rw (e, without_index n (waiting 2 row) h2) (closed_two l (waiting 1 row) (waiting 2 row) row s (index_of n (waiting 2 row)) (omega arith))

  pub withdraw_left : (u : Unit) → Ok u ≡ checked (withdraw_verdict len row w) → length row ≡ all_places → (i p : ℕ) (next : List Ticket)
      → i ≡ index_of w.number (waiting w.office row) → p ≡ first_place w.office → next ≡ paste row p (closed_up p i 1 row) places
      → ◌≡◌ {A = WithdrawnRow} (record { withdrawn = record { verdict = accepted; lasts = w.lasts }; row = next }) (withdraw_row len row w)
  unfolding withdraw_row
  withdraw_left u said all i p next i-is p-is next-is =
      let e = passed _ u said in
      let a = withdraw_accepted len row w e in
      rw (e, a.told, next-is, i-is, p-is)
      (ap {B = WithdrawnRow} (λ r. record { withdrawn = record { verdict = accepted; lasts = w.lasts }; row = r })
      (left_by w.lasts (accepted_sound len row w.lasts all a.table) w.office w.number (office_is w.office a.office) a.waits))
