-- Tickets at an office's places, then empty ones: what stands at each place, one ticket more, and some gone.
use Prim.Native.Nat.{ℕ, zero, suc, ◌+◌, ◌-◌, ◌≤◌, ◌<◌}
use mathlib.Core.Path.{◌≡◌, refl, sym, ap, ◌∙◌}
use mathlib.Core.Bool.{Bool, true, false, not, ◌&&◌, ◌||◌}
use mathlib.Core.List.{List, [], ◌∷◌, ◌++◌, append-nil}
use native.Mathlib.Omega.{arith}
use native.Mathlib.Decide.{dec_lt}
use lib.ListN.{length, get_or, set, take, drop, replicate, length-append, length-drop, length-replicate, get_or-append, get_or-eq_default, drop_of_length-le, take-append-drop}
use lib.Seq.{ext_get_or, get_or-take, take_at, drop_at, set_at, set-append_left, get_or-append-add, get_or-drop, append_snoc, paste, take_all}
use borrow.Author.Tests.{lt-ltb, le-ltb}
use Rattle.refusals.specs.Refusals.{first_where}
use Rattle.runs.proofs.Search.{first_all}
use Rattle.desk_tickets.specs.declared.Ticket.{Ticket}
use Rattle.desk_tickets.specs.declared.Lasts.{Lasts}
use Rattle.desk_tickets.specs.WaitingTable.{places, all_places, no_ticket, is_empty_place, is_ticket, last_of, office_at, is_first_place, is_out_of_turn, bad_record, half, tickets_in, waiting, placed, row_of, Waits, Sound, row_without}
use Rattle.desk_tickets.specs.Private.{without_some, closed_up}
use Rattle.desk_tickets.proofs.Halves.{tickets_none, tickets_one, tickets_end, places_from, places_long, place_in_row}
use Rattle.desk_tickets.proofs.Sound.{ticket_not_empty}

empties : (m i : ℕ) → get_or (replicate m no_ticket) i no_ticket ≡ no_ticket
empties zero i = refl
empties (suc m) zero = refl
empties (suc m) (suc i) = empties m i

-- At each place stands the ticket, or none.
pub padded_at : (ts : List Ticket) (m i : ℕ) → get_or (ts ++ replicate m no_ticket) i no_ticket ≡ get_or ts i no_ticket
padded_at [] m i = empties m i
padded_at (t ∷ ts) m zero = refl
padded_at (t ∷ ts) m (suc i) = padded_at ts m i

pub placed_at : (ts : List Ticket) (i : ℕ) → get_or (placed ts) i no_ticket ≡ get_or ts i no_ticket
placed_at ts i = padded_at ts (places - length ts) i

pub placed_long : (ts : List Ticket) → length ts ≤ places → length (placed ts) ≡ places
placed_long ts l = length-append ts (replicate (places - length ts) no_ticket) ∙ ap (λ n. length ts + n) (length-replicate (places - length ts) no_ticket) ∙ omega arith

pub row_long : (ones twos : List Ticket) → length ones ≤ places → length twos ≤ places → length (row_of ones twos) ≡ all_places
row_long ones twos a b = length-append (placed ones) (placed twos) ∙ omega (arith, placed_long ones a, placed_long twos b)

-- One ticket more.
pub placed_more : (ts : List Ticket) (t : Ticket) → length ts < places → set (placed ts) (length ts) t ≡ placed (ts ++ t ∷ [])
placed_more ts t l =
    let more : suc (length ts) ≡ length (ts ++ t ∷ []) = omega (arith, length-append ts (t ∷ [])) in
    go (places - length ts) (places - suc (length ts)) (omega arith) ∙ ap (λ n. (ts ++ t ∷ []) ++ replicate (places - n) no_ticket) more
  where
    go : (m k : ℕ) → m ≡ suc k → set (ts ++ replicate m no_ticket) (length ts) t ≡ (ts ++ t ∷ []) ++ replicate k no_ticket
    go m k e = rw e (set_at ts no_ticket (replicate k no_ticket) t (length ts) refl ∙ sym (append_snoc ts t (replicate k no_ticket)))

set_append_right : (xs ys : List Ticket) (n : ℕ) (t : Ticket) → set (xs ++ ys) (length xs + n) t ≡ xs ++ set ys n t
set_append_right [] ys n t = ap (λ k. set ys k t) (native.Mathlib.Nat.zero-add n)
set_append_right (x ∷ xs) ys n t = rw (native.Mathlib.Nat.suc-add (length xs) n) (ap {B = List Ticket} (λ r. x ∷ r) (set_append_right xs ys n t))

module _ (ones twos : List Ticket) (t : Ticket) where
  pub row_more_one : length ones < places → set (row_of ones twos) (0 + length ones) t ≡ row_of (ones ++ t ∷ []) twos
  row_more_one l =
      let same : 0 + length ones ≡ length ones = omega arith in
      rw same
      (set-append_left (placed ones) (placed twos) (length ones) t (rw (placed_long ones (omega arith)) l)
      ∙ ap (λ r. r ++ placed twos) (placed_more ones t l))

  pub row_more_two : length ones ≤ places → length twos < places → set (row_of ones twos) (places + length twos) t ≡ row_of ones (twos ++ t ∷ [])
  row_more_two a l =
      ap (λ n. set (row_of ones twos) (n + length twos) t) (sym (placed_long ones a))
      ∙ set_append_right (placed ones) (placed twos) (length twos) t
      ∙ ap (λ r. placed ones ++ r) (placed_more twos t l)

-- Once the first ones have left.
pub placed_dropped : (n : ℕ) (ts : List Ticket) → length ts ≤ places → placed (drop n (placed ts)) ≡ placed (drop n ts)
placed_dropped n ts l =
    ext_get_or no_ticket (placed (drop n (placed ts))) (placed (drop n ts))
    (placed_long (drop n (placed ts)) (rw (length-drop n (placed ts), placed_long ts l) (omega arith)) ∙ sym (placed_long (drop n ts) (rw (length-drop n ts) (omega arith))))
    (λ i h. placed_at (drop n (placed ts)) i ∙ get_or-drop n (placed ts) i no_ticket ∙ placed_at ts (n + i) ∙ sym (get_or-drop n ts i no_ticket) ∙ sym (placed_at (drop n ts) i))

-- Once some have left, from an index on.
module _ (p n : ℕ) (h : List Ticket) where
  split_long : length (take p h) + length (drop p h) ≡ length h
  split_long = sym (length-append (take p h) (drop p h)) ∙ ap length (take-append-drop p h)

  pub leaving_long : length (without_some p n h) ≤ length h
  leaving_long = omega (arith, length-append (take p h) (drop n (drop p h)), length-drop n (drop p h), split_long)

  pub leaving_before : (i : ℕ) → i < p → i < length h → get_or (without_some p n h) i no_ticket ≡ get_or h i no_ticket
  leaving_before i l in-h =
      get_or-append (take p h) (drop n (drop p h)) no_ticket i (omega (arith, split_long, length-drop p h)) ∙ get_or-take p h i no_ticket l

  pub leaving_behind : (i : ℕ) → p ≤ i → p ≤ length h → get_or (without_some p n h) i no_ticket ≡ get_or h (i + n) no_ticket
  leaving_behind i l in-h =
      let here : length (take p h) + (i - p) ≡ i = omega (arith, split_long, length-drop p h) in
      let there : p + (n + (i - p)) ≡ i + n = omega arith in
      ap (λ k. get_or (without_some p n h) k no_ticket) (sym here)
      ∙ get_or-append-add (take p h) (drop n (drop p h)) (i - p) no_ticket
      ∙ get_or-drop n (drop p h) (i - p) no_ticket
      ∙ get_or-drop p h (n + (i - p)) no_ticket
      ∙ ap (λ k. get_or h k no_ticket) there

pub placed_leaving : (p n : ℕ) (ts : List Ticket) → length ts ≤ places → p ≤ length ts → placed (without_some p n (placed ts)) ≡ placed (without_some p n ts)
placed_leaving p n ts l in-ts =
    ext_get_or no_ticket (placed (without_some p n (placed ts))) (placed (without_some p n ts))
    (placed_long (without_some p n (placed ts)) (omega (arith, leaving_long p n (placed ts), placed_long ts l))
    ∙ sym (placed_long (without_some p n ts) (omega (arith, leaving_long p n ts))))
    (λ i h. placed_at (without_some p n (placed ts)) i ∙ same i ∙ sym (placed_at (without_some p n ts) i))
  where
    same : (i : ℕ) → get_or (without_some p n (placed ts)) i no_ticket ≡ get_or (without_some p n ts) i no_ticket
    same i =
        elim (dec_lt i p) [
          | yes h ↦ leaving_before p n (placed ts) i h (omega (arith, placed_long ts l)) ∙ placed_at ts i ∙ sym (leaving_before p n ts i h (omega arith))
          | no m ↦ leaving_behind p n (placed ts) i (omega arith) (omega (arith, placed_long ts l)) ∙ placed_at ts (i + n) ∙ sym (leaving_behind p n ts i (omega arith) in-ts)
        ]

module _ (first : ℕ) (row : List Ticket) (in_row : first ≤ places) (all : length row ≡ all_places) (p n : ℕ) where
  pub closed_long : length (closed_up first p n row) ≡ places
  closed_long = placed_long (without_some p n (places_from first row)) (omega (arith, leaving_long p n (places_from first row), places_long first row in_row all))

  pub kept_here : (i : ℕ) → i < p → i < places → get_or row (first + i) no_ticket ≡ get_or (closed_up first p n row) i no_ticket
  kept_here i l in-half =
      sym (placed_at (without_some p n (places_from first row)) i
      ∙ leaving_before p n (places_from first row) i l (rw (places_long first row in_row all) in-half)
      ∙ place_in_row first row in_row all i in-half)

  closed_at : (i : ℕ) → p ≤ i → i < places → get_or (closed_up first p n row) i no_ticket ≡ get_or (places_from first row) (i + n) no_ticket
  closed_at i l in-half = placed_at (without_some p n (places_from first row)) i ∙ leaving_behind p n (places_from first row) i l (rw (places_long first row in_row all) (omega arith))

  pub moved_here : (i : ℕ) → p ≤ i → i + n < places → get_or row (first + (i + n)) no_ticket ≡ get_or (closed_up first p n row) i no_ticket
  moved_here i l in-half = sym (closed_at i l (omega arith) ∙ place_in_row first row in_row all (i + n) in-half)

  pub none_left : (i : ℕ) → p ≤ i → i < places → places ≤ i + n → no_ticket ≡ get_or (closed_up first p n row) i no_ticket
  none_left i l in-half out = sym (closed_at i l in-half ∙ get_or-eq_default (places_from first row) no_ticket (rw (places_long first row in_row all) out))

-- Both offices' places closed up, one after the other.
pub closed_both : (row : List Ticket) (one two : ℕ) → length row ≡ all_places
    → (next : List Ticket) → next ≡ paste row 0 (placed (drop one (places_from 0 row))) places
    → (last : List Ticket) → last ≡ paste next places (placed (drop two (places_from places next))) places
    → last ≡ row_without one two row
unfolding row_without
closed_both row one two all next is last then =
    let h = placed (drop one (places_from 0 row)) in
    let long : length h ≡ places = closed_long 0 row (omega arith) all 0 one in
    let next-is : next ≡ h ++ drop places row = is ∙ ap (λ r. r ++ drop places row) (take_all places h (omega arith)) in
    let front : take places next ≡ h = ap (take places) next-is ∙ take_at h (drop places row) places long in
    let back : drop places next ≡ drop places row = ap (drop places) next-is ∙ drop_at h (drop places row) places long in
    let g = placed (drop two (places_from places row)) in
    let long' : length g ≡ places = closed_long places row (omega arith) all 0 two in
    let all' : length next ≡ all_places = ap length next-is ∙ length-append h (drop places row) ∙ (rw (length-drop places row) (omega arith)) in
    then
    ∙ ap (λ r. take places next ++ take places (placed (drop two (take places r))) ++ drop 32 next) back
    ∙ (rw (front, take_all places g (omega arith), drop_of_length-le next {i = 32} (omega arith)) (append-nil (h ++ g)))

-- A sound row once the first ones have left.
pub sound_without : (one two : ℕ) (l : Lasts) (ones twos row : List Ticket) → Sound l ones twos row → row_without one two row ≡ row_of (drop one ones) (drop two twos)
unfolding row_without
sound_without one two l ones twos row s =
    let a = s.one.few in
    let h1 : half 1 row ≡ placed ones = ap (take places) s.is ∙ take_at (placed ones) (placed twos) places (placed_long ones a) in
    let h2 : half 2 row ≡ placed twos = ap (λ r. take places (drop places r)) s.is ∙ ap (take places) (drop_at (placed ones) (placed twos) places (placed_long ones a)) ∙ take_all places (placed twos) (omega (arith, placed_long twos s.two.few)) in
    rw (h1, h2, placed_dropped one ones a, placed_dropped two twos s.two.few)

-- What waits in a sound row.
tickets_of : (office last : ℕ) → 0 < office → (ts : List Ticket) (m : ℕ) → ((i : ℕ) → i < length ts → is_ticket office last (get_or ts i no_ticket) ≡ true) → tickets_in (ts ++ replicate m no_ticket) ≡ ts
tickets_of office last some [] zero each = tickets_end
tickets_of office last some [] (suc m) each = tickets_none no_ticket (replicate m no_ticket) refl
tickets_of office last some (t ∷ ts) m each =
    tickets_one t (ts ++ replicate m no_ticket) (ticket_not_empty office last t some (each 0 (omega arith)))
    ∙ ap {B = List Ticket} (λ r. t ∷ r) (tickets_of office last some ts m (λ i l. each (suc i) (omega arith)))

module _ (l : Lasts) (ones twos row : List Ticket) (s : Sound l ones twos row) where
  pub half_one : half 1 row ≡ placed ones
  half_one = ap (take places) s.is ∙ take_at (placed ones) (placed twos) places (placed_long ones s.one.few)

  pub half_two : half 2 row ≡ placed twos
  half_two =
      ap (λ r. take places (drop places r)) s.is
      ∙ ap (take places) (drop_at (placed ones) (placed twos) places (placed_long ones s.one.few))
      ∙ take_all places (placed twos) (omega (arith, placed_long twos s.two.few))

  pub waiting_one : waiting 1 row ≡ ones
  waiting_one = ap tickets_in half_one ∙ tickets_of 1 l.one (omega arith) ones (places - length ones) s.one.each

  pub waiting_two : waiting 2 row ≡ twos
  waiting_two = ap tickets_in half_two ∙ tickets_of 2 l.two (omega arith) twos (places - length twos) s.two.each

  pub sound_long : length row ≡ all_places
  sound_long = ap length s.is ∙ row_long ones twos s.one.few s.two.few

-- No record of it is bad.
module _ (l : Lasts) (row : List Ticket) (office first : ℕ) (some : 0 < office) (ts : List Ticket) (waits : Waits office (last_of office l) ts) where
  tests_pass : (e t b : Bool) → t ≡ true → b ≡ false → (not e && (not t || b)) ≡ false
  tests_pass true t b is h = refl
  tests_pass false true b is h = h
  tests_pass false false b is h = absurd (mathlib.Core.Bool.true≢false (sym is))

  not_bad : ((i : ℕ) → i < places → get_or row (first + i) no_ticket ≡ get_or ts i no_ticket)
      → ((i : ℕ) → i < places → office_at (first + i) ≡ office)
      → is_first_place (first + 0) ≡ true
      → (i : ℕ) → i < places → bad_record l row (first + i) ≡ false
  not_bad at here begins i b = elim (dec_lt i (length ts)) [ yes h ↦ a_ticket i b h | no n ↦ empty (omega arith) ]
    where
      empty : length ts ≤ i → bad_record l row (first + i) ≡ false
      empty h = let none : get_or row (first + i) no_ticket ≡ no_ticket = at i b ∙ get_or-eq_default ts no_ticket h in rw none

      in_turn_here : (j : ℕ) → j < places → j < length ts → is_out_of_turn row (first + j) ≡ false
      in_turn_here zero c d = rw begins
      in_turn_here (suc j) c d =
          let one_before : (first + suc j) - 1 ≡ first + j = omega arith in
          rw (
            one_before,
            at j (omega arith),
            at (suc j) c,
            ticket_not_empty office (last_of office l) (get_or ts j no_ticket) some (waits.each j (omega arith)),
            lt-ltb (get_or ts j no_ticket).number (get_or ts (suc j) no_ticket).number (waits.ascends j d),
          ) (and_no (not (is_first_place (first + suc j))))
        where
          and_no : (b : Bool) → (b && false) ≡ false
          and_no true = refl
          and_no false = refl

      a_ticket : (j : ℕ) → j < places → j < length ts → bad_record l row (first + j) ≡ false
      a_ticket j c d =
          tests_pass (is_empty_place (get_or row (first + j) no_ticket)) (is_ticket (office_at (first + j)) (last_of (office_at (first + j)) l) (get_or row (first + j) no_ticket)) (is_out_of_turn row (first + j))
          (rw (here j c, at j c) (waits.each j d)) (in_turn_here j c d)

pub none_bad : (l : Lasts) (ones twos row : List Ticket) → Sound l ones twos row → first_where (bad_record l row) all_places ≡ 0
none_bad l ones twos row s =
    first_all (bad_record l row) all_places
    (λ i b. elim (dec_lt i 16) [ yes h ↦ (let z : 0 + i ≡ i = omega arith in rw z at (one i h)) | no n ↦ (let z : 16 + (i - 16) ≡ i = omega arith in rw z at (two (i - 16) (omega arith))) ])
  where
    one : (i : ℕ) → i < places → bad_record l row (0 + i) ≡ false
    one =
        not_bad l row 1 0 (omega arith) ones s.one
        (λ i b. sym (place_in_row 0 row (omega arith) (sound_long l ones twos row s) i b) ∙ ap (λ h. get_or h i no_ticket) (half_one l ones twos row s) ∙ placed_at ones i)
        (λ i b. rw (lt-ltb (0 + i) 16 (omega arith))) refl

    two : (i : ℕ) → i < places → bad_record l row (16 + i) ≡ false
    two =
        not_bad l row 2 16 (omega arith) twos s.two
        (λ i b. sym (place_in_row 16 row (omega arith) (sound_long l ones twos row s) i b) ∙ ap (λ h. get_or h i no_ticket) (half_two l ones twos row s) ∙ placed_at twos i)
        (λ i b. rw (le-ltb (16 + i) 16 (omega arith))) refl
