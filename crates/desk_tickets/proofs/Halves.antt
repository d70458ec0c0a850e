-- An office's places as a list: how its tickets are counted, and where its records stand in the row.
use Prim.Native.Nat.{ℕ, zero, suc, ◌+◌, ◌≤◌, ◌<◌}
use mathlib.Core.Path.{◌≡◌, refl, ap, ◌∙◌}
use mathlib.Core.Bool.{Bool, true, false}
use mathlib.Core.List.{List, [], ◌∷◌}
use native.Mathlib.Omega.{arith}
use native.Mathlib.Numerals.{add-one}
use lib.ListN.{length, get_or, take, drop, length-drop, drop_of_length-le}
use lib.Seq.{drop-cons, get_or-take, get_or-drop, length-take-le}
use Rattle.desk_tickets.specs.declared.Ticket.{Ticket}
use Rattle.desk_tickets.specs.WaitingTable.{places, all_places, no_ticket, is_empty_place, tickets_in, first_place, half}

pub tickets_none : (t : Ticket) (ts : List Ticket) → is_empty_place t ≡ true → tickets_in (t ∷ ts) ≡ []
unfolding tickets_in
tickets_none t ts e = rw e

pub tickets_one : (t : Ticket) (ts : List Ticket) → is_empty_place t ≡ false → tickets_in (t ∷ ts) ≡ t ∷ tickets_in ts
unfolding tickets_in
tickets_one t ts e = rw e

pub tickets_end : tickets_in [] ≡ []
unfolding tickets_in
tickets_end = refl

-- The tickets are the first places, and none of those is empty.
pub tickets_at : (h : List Ticket) (i : ℕ) → i < length (tickets_in h) → (get_or (tickets_in h) i no_ticket ≡ get_or h i no_ticket) × (is_empty_place (get_or h i no_ticket) ≡ false)
tickets_at [] i l = absurd (let z : i < 0 = rw tickets_end at l in omega arith)
tickets_at (t ∷ ts) i l = by_case (is_empty_place t) refl i l (tickets_at ts)
  where
    by_case : (b : Bool) → is_empty_place t ≡ b → (i : ℕ) → i < length (tickets_in (t ∷ ts))
        → ((k : ℕ) → k < length (tickets_in ts) → (get_or (tickets_in ts) k no_ticket ≡ get_or ts k no_ticket) × (is_empty_place (get_or ts k no_ticket) ≡ false))
        → (get_or (tickets_in (t ∷ ts)) i no_ticket ≡ get_or (t ∷ ts) i no_ticket) × (is_empty_place (get_or (t ∷ ts) i no_ticket) ≡ false)
    by_case true e i l rest = absurd (let z : i < 0 = rw (tickets_none t ts e) at l in omega arith)
    by_case false e zero l rest = (rw (tickets_one t ts e), e)
    by_case false e (suc k) l rest =
        let s = rest k (let z : suc k < suc (length (tickets_in ts)) = rw (tickets_one t ts e) at l in omega arith) in
        (rw (tickets_one t ts e) s.0, s.1)

pub tickets_fit : (h : List Ticket) → length (tickets_in h) ≤ length h
tickets_fit [] = rw tickets_end (omega arith)
tickets_fit (t ∷ ts) = by_case (is_empty_place t) refl (tickets_fit ts)
  where
    by_case : (b : Bool) → is_empty_place t ≡ b → length (tickets_in ts) ≤ length ts → length (tickets_in (t ∷ ts)) ≤ suc (length ts)
    by_case true e rest = rw (tickets_none t ts e) (omega arith)
    by_case false e rest = rw (tickets_one t ts e) (omega arith)

-- The places from an index on.
abbrev pub places_from : ℕ → List Ticket → List Ticket
places_from first row = take places (drop first row)

module _ (first : ℕ) (row : List Ticket) (in_row : first ≤ places) (all : length row ≡ all_places) where
  pub places_long : length (places_from first row) ≡ places
  places_long = length-take-le places (drop first row) (rw (length-drop first row) (omega arith))

  pub place_in_row : (i : ℕ) → i < places → get_or (places_from first row) i no_ticket ≡ get_or row (first + i) no_ticket
  place_in_row i l = get_or-take places (drop first row) i no_ticket l ∙ get_or-drop first row i no_ticket

-- Tickets counted one by one: n so far, and those from place n on.
pub record Counted (h : List Ticket) (n : ℕ) : Type 0 where
  pub within : n ≤ length h
  pub so : length (tickets_in h) ≡ n + length (tickets_in (drop n h))

module _ (h : List Ticket) where
  at_place : (n : ℕ) → n < length h → tickets_in (drop n h) ≡ tickets_in (get_or h n no_ticket ∷ drop (suc n) h)
  at_place n l = ap tickets_in (drop-cons h n no_ticket l)

  pub counted_more : (n : ℕ) → Counted h n → n < length h → is_empty_place (get_or h n no_ticket) ≡ false → Counted h (n + 1)
  counted_more n c l e =
      let here : length (tickets_in (drop n h)) ≡ suc (length (tickets_in (drop (suc n) h))) = ap length (at_place n l ∙ tickets_one (get_or h n no_ticket) (drop (suc n) h) e) in
      rw (add-one n) record { within = l; so = c.so ∙ omega arith }

  pub counted_to_empty : (n : ℕ) → Counted h n → n < length h → is_empty_place (get_or h n no_ticket) ≡ true → n ≡ length (tickets_in h)
  counted_to_empty n c l e =
      let here : length (tickets_in (drop n h)) ≡ 0 = ap length (at_place n l ∙ tickets_none (get_or h n no_ticket) (drop (suc n) h) e) in
      omega (arith, c.so)

  pub counted_all : (n : ℕ) → Counted h n → length h ≤ n → n ≡ length (tickets_in h)
  counted_all n c l =
      let here : length (tickets_in (drop n h)) ≡ 0 = ap (λ r. length (tickets_in r)) (drop_of_length-le h l) ∙ ap length tickets_end in
      omega (arith, c.so)

pub first_place_within : (office : ℕ) → first_place office ≤ places
first_place_within office = by_test (lib.Dec.eqb office 2)
  where
    by_test : (b : Bool) → mathlib.Core.Bool.cond b places 0 ≤ places
    by_test true = omega arith
    by_test false = omega arith

-- An office's places, which begin at `first` in the row.
module _ (office first : ℕ) (row : List Ticket) (begins : first ≡ first_place office) (all : length row ≡ all_places) where
  pub half_long : length (half office row) ≡ places
  half_long = places_long (first_place office) row (first_place_within office) all

  pub half_place : (i : ℕ) → i < places → get_or (half office row) i no_ticket ≡ get_or row (first + i) no_ticket
  half_place i l = rw begins (place_in_row (first_place office) row (first_place_within office) all i l)
