-- A row of 32 without a bad record is a sound row, and a sound row has no bad record; its waiting tickets are those it was made of.
use Prim.Native.Nat.{ℕ, zero, suc, ◌+◌, ◌-◌, ◌≤◌, ◌<◌}
use mathlib.Core.Path.{◌≡◌, refl, sym, ap, ◌∙◌}
use mathlib.Core.Bool.{Bool, true, false, not, true≢false, ◌&&◌, ◌||◌}
use mathlib.Core.List.{List, [], ◌∷◌, ◌++◌}
use mathlib.Core.Logic.{⊎_elim}
use native.Mathlib.Omega.{arith}
use native.Mathlib.Nat.{suc-sub-suc, sub-zero}
use lib.Dec.{eqb, ltb}
use lib.ListN.{length, get_or, take, drop, replicate, length-replicate, get_or-replicate, take-append-drop}
use lib.Seq.{ext_get_or, take_all}
use borrow.Author.Tests.{eqb-true, ne_eqb, lt-ltb, le-ltb, ltb-true, not-true, not-false}
use Rattle.refusals.specs.Refusals.{first_where}
use Rattle.runs.proofs.Search.{true_or_false, first_zero}
use Rattle.desk_tickets.specs.declared.Ticket.{Ticket}
use Rattle.desk_tickets.specs.declared.Lasts.{Lasts}
use Rattle.desk_tickets.specs.WaitingTable.{places, all_places, no_ticket, is_empty_place, is_ticket, follows, last_of, office_at, is_first_place, is_out_of_turn, bad_record, tickets_in, waiting, placed, Waits, Sound, up_to}
use Rattle.desk_tickets.proofs.Halves.{tickets_none, tickets_one, tickets_end, tickets_at, tickets_fit, places_from, places_long, place_in_row}

pub and_true_both : (a b : Bool) → (a && b) ≡ true → (a ≡ true) × (b ≡ true)
and_true_both true b e = (refl, e)
and_true_both false b e = absurd (true≢false (sym e))

-- An empty record is the empty place.
pub empty_is : (t : Ticket) → is_empty_place t ≡ true → t ≡ no_ticket
empty_is t e =
    let last = and_true_both (eqb t.office 0 && eqb t.file 0 && eqb t.count 0) (eqb t.number 0) e in
    let first = and_true_both (eqb t.office 0 && eqb t.file 0) (eqb t.count 0) last.0 in
    let both = and_true_both (eqb t.office 0) (eqb t.file 0) first.0 in
    made t.office t.file t.count t.number
    (eqb-true t.office 0 both.0) (eqb-true t.file 0 both.1) (eqb-true t.count 0 first.1) (eqb-true t.number 0 last.1)
  where
    made : (o f c n : ℕ) → o ≡ 0 → f ≡ 0 → c ≡ 0 → n ≡ 0 → ◌≡◌ {A = Ticket} (record { office = o; file = f; count = c; number = n }) no_ticket
    made o f c n a b d e = rw (a, b, d, e)

-- A ticket's office and number.
pub ticket_office : (office last : ℕ) (t : Ticket) → is_ticket office last t ≡ true → t.office ≡ office
ticket_office office last t is =
    let all = and_true_both (eqb t.office office && up_to 4096 t.file && up_to 128 t.count) (up_to last t.number) is in
    let first = and_true_both (eqb t.office office && up_to 4096 t.file) (up_to 128 t.count) all.0 in
    eqb-true t.office office (and_true_both (eqb t.office office) (up_to 4096 t.file) first.0).0

-- A ticket of office 1 or 2 is not empty.
pub ticket_not_empty : (office last : ℕ) (t : Ticket) → 0 < office → is_ticket office last t ≡ true → is_empty_place t ≡ false
ticket_not_empty office last t some is = let o = ticket_office office last t is in rw (ne_eqb t.office 0 (λ z. omega arith))

pub follows_says : (a t : Ticket) → follows a t ≡ true → (is_empty_place a ≡ false) × (a.number < t.number)
follows_says a t e =
    let both = and_true_both (not (is_empty_place a)) (ltb a.number t.number) e in
    (not-true (is_empty_place a) both.0, ltb-true a.number t.number both.1)

-- Places at which each record is empty, or a ticket of the office that follows the one ahead of it.
abbrev pub Fine : ℕ → ℕ → List Ticket → Type 0
Fine office last h =
    (i : ℕ) → i < length h → is_empty_place (get_or h i no_ticket) ≡ false
    → (is_ticket office last (get_or h i no_ticket) ≡ true) × ((j : ℕ) → suc j ≡ i → follows (get_or h j no_ticket) (get_or h i no_ticket) ≡ true)

module _ (office last : ℕ) where
  fine_rest : (t : Ticket) (ts : List Ticket) → Fine office last (t ∷ ts) → Fine office last ts
  fine_rest t ts fine i l full = let here = fine (suc i) (omega arith) full in (here.0, λ j e. here.1 (suc j) (ap suc e))

  empty_behind : (t : Ticket) (ts : List Ticket) → Fine office last (t ∷ ts) → is_empty_place t ≡ true → (i : ℕ) → i < length ts → is_empty_place (get_or ts i no_ticket) ≡ true
  empty_behind t ts fine e zero l =
      ⊎_elim (λ h. h) (λ h. absurd (true≢false (sym e ∙ (follows_says t (get_or ts 0 no_ticket) ((fine 1 (omega arith) h).1 0 refl)).0)))
      (true_or_false (is_empty_place (get_or ts 0 no_ticket)))
  empty_behind t ts fine e (suc i) l =
      ⊎_elim (λ h. h) (λ h. absurd (true≢false (sym (empty_behind t ts fine e i (omega arith)) ∙ (follows_says (get_or ts i no_ticket) (get_or ts (suc i) no_ticket) ((fine (suc (suc i)) (omega arith) h).1 (suc i) refl)).0)))
      (true_or_false (is_empty_place (get_or ts (suc i) no_ticket)))

  all_empty : (ts : List Ticket) → ((i : ℕ) → i < length ts → is_empty_place (get_or ts i no_ticket) ≡ true) → ts ≡ replicate (length ts) no_ticket
  all_empty ts h =
      ext_get_or no_ticket ts (replicate (length ts) no_ticket) (sym (length-replicate (length ts) no_ticket))
      (λ i l. empty_is (get_or ts i no_ticket) (h i l) ∙ sym (get_or-replicate (length ts) i no_ticket no_ticket l))

  -- Such places are their tickets, then empty ones.
  pub fine_placed : (h : List Ticket) → Fine office last h → h ≡ tickets_in h ++ replicate (length h - length (tickets_in h)) no_ticket
  fine_placed [] fine = rw tickets_end
  fine_placed (t ∷ ts) fine = by_case (is_empty_place t) refl (fine_placed ts (fine_rest t ts fine))
    where
      by_case : (b : Bool) → is_empty_place t ≡ b → ts ≡ tickets_in ts ++ replicate (length ts - length (tickets_in ts)) no_ticket
          → t ∷ ts ≡ tickets_in (t ∷ ts) ++ replicate (suc (length ts) - length (tickets_in (t ∷ ts))) no_ticket
      by_case true e rest =
          rw (tickets_none t ts e, sub-zero)
          (ap (λ (x : Ticket). x ∷ ts) (empty_is t e) ∙ ap {B = List Ticket} (λ r. no_ticket ∷ r) (all_empty ts (empty_behind t ts fine e)))
      by_case false e rest = rw (tickets_one t ts e, suc-sub-suc) (ap {B = List Ticket} (λ r. t ∷ r) rest)

  -- What the tickets are, and in which order.
  pub fine_tickets : (h : List Ticket) → Fine office last h → (i : ℕ) → i < length (tickets_in h) → is_ticket office last (get_or (tickets_in h) i no_ticket) ≡ true
  fine_tickets h fine i l =
      let s = tickets_at h i l in
      let fits = tickets_fit h in
      rw s.0 (fine i (omega arith) s.1).0

  pub fine_ascends : (h : List Ticket) → Fine office last h → (i : ℕ) → suc i < length (tickets_in h) → (get_or (tickets_in h) i no_ticket).number < (get_or (tickets_in h) (suc i) no_ticket).number
  fine_ascends h fine i l =
      let s = tickets_at h (suc i) l in
      let fits = tickets_fit h in
      rw ((tickets_at h i (omega arith)).0, s.0)
      (follows_says (get_or h i no_ticket) (get_or h (suc i) no_ticket) ((fine (suc i) (omega arith) s.1).1 i refl)).1

-- What acceptance of a record says, by its index in the row.
module _ (lasts : Lasts) (row : List Ticket) (all : length row ≡ all_places) (none : first_where (bad_record lasts row) all_places ≡ 0) where
  record_fine : (i : ℕ) → i < all_places → is_empty_place (get_or row i no_ticket) ≡ false
      → (is_ticket (office_at i) (last_of (office_at i) lasts) (get_or row i no_ticket) ≡ true) × (is_out_of_turn row i ≡ false)
  record_fine i l full =
      by_tests (is_empty_place (get_or row i no_ticket)) (is_ticket (office_at i) (last_of (office_at i) lasts) (get_or row i no_ticket)) (is_out_of_turn row i) full
      (first_zero (bad_record lasts row) all_places none i l)
    where
      by_tests : (e t b : Bool) → e ≡ false → (not e && (not t || b)) ≡ false → (t ≡ true) × (b ≡ false)
      by_tests true t b h g = absurd (true≢false h)
      by_tests false true b h g = (refl, g)
      by_tests false false b h g = absurd (true≢false g)

  in_turn_here : (i j : ℕ) → suc j ≡ i → is_first_place i ≡ false → is_out_of_turn row i ≡ false → follows (get_or row j no_ticket) (get_or row i no_ticket) ≡ true
  in_turn_here i j e f h =
      let g : not (follows (get_or row (i - 1) no_ticket) (get_or row i no_ticket)) ≡ false = rw f at h in
      let same : i - 1 ≡ j = omega arith in
      rw same at (not-false (follows (get_or row (i - 1) no_ticket) (get_or row i no_ticket)) g)

  fine_one : Fine 1 lasts.one (places_from 0 row)
  fine_one i l full =
      let below : i < 16 = rw (places_long 0 row (omega arith) all) at l in
      let full' : is_empty_place (get_or row (0 + i) no_ticket) ≡ false = rw (place_in_row 0 row (omega arith) all i below) at full in
      let zero-on : 0 + i ≡ i = omega arith in
      let here = record_fine i (omega arith) (rw zero-on at full') in (
        rw (place_in_row 0 row (omega arith) all i below, zero-on) (rw (lt-ltb i 16 below) at here.0),
        λ j e.
            let lj : j < 16 = omega arith in
            let zj : 0 + j ≡ j = omega arith in
            rw (place_in_row 0 row (omega arith) all j lj, place_in_row 0 row (omega arith) all i below, zj, zero-on)
            (in_turn_here i j e (rw (ne_eqb i 0 (λ z. omega arith), ne_eqb i 16 (λ z. omega arith))) here.1),
      )

  fine_two : Fine 2 lasts.two (places_from 16 row)
  fine_two i l full =
      let below : i < 16 = rw (places_long 16 row (omega arith) all) at l in
      let full' : is_empty_place (get_or row (16 + i) no_ticket) ≡ false = rw (place_in_row 16 row (omega arith) all i below) at full in
      let here = record_fine (16 + i) (omega arith) full' in (
        rw (place_in_row 16 row (omega arith) all i below) (rw (le-ltb (16 + i) 16 (omega arith)) at here.0),
        λ j e.
            let lj : j < 16 = omega arith in
            rw (place_in_row 16 row (omega arith) all j lj, place_in_row 16 row (omega arith) all i below)
            (in_turn_here (16 + i) (16 + j) (omega arith) (rw (ne_eqb (16 + i) 0 (λ z. omega arith), ne_eqb (16 + i) 16 (λ z. omega arith))) here.1),
      )

  half_placed : (office last first : ℕ) → first ≤ places → Fine office last (places_from first row) → places_from first row ≡ placed (tickets_in (places_from first row))
  half_placed office last first l fine = rw (places_long first row l all) at (fine_placed office last (places_from first row) fine)

  half_waits : (office last first : ℕ) → first ≤ places → Fine office last (places_from first row) → Waits office last (tickets_in (places_from first row))
  half_waits office last first l fine =
      record {
        few = rw (places_long first row l all) at (tickets_fit (places_from first row));
        each = fine_tickets office last (places_from first row) fine;
        ascends = fine_ascends office last (places_from first row) fine;
      }

  -- A row of 32 without a bad record is sound.
  pub row_sound : Sound lasts (waiting 1 row) (waiting 2 row) row
  row_sound =
      record {
        one = half_waits 1 lasts.one 0 (omega arith) fine_one;
        two = half_waits 2 lasts.two 16 (omega arith) fine_two;
        is = halves ∙ (rw (← half_placed 1 lasts.one 0 (omega arith) fine_one, ← half_placed 2 lasts.two 16 (omega arith) fine_two) refl);
      }
    where
      halves : row ≡ take 16 (drop 0 row) ++ take 16 (drop 16 row)
      halves = sym (take-append-drop 16 row) ∙ ap (λ r. take 16 row ++ r) (sym (take_all 16 (drop 16 row) (rw (lib.ListN.length-drop 16 row) (omega arith))))
