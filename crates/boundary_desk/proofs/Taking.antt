-- Who has left: the places of wants put into a row, one behind the other.
use Prim.Native.Nat.{ℕ, suc, ◌+◌, ◌≤◌, ◌<◌}
use mathlib.Core.Path.{◌≡◌, refl, sym, ap, ◌∙◌}
use mathlib.Core.Bool.{false}
use mathlib.Core.List.{List, ◌∷◌, ◌++◌, map, map-append}
use native.Mathlib.Numerals.{add-one}
use native.Mathlib.Omega.{arith}
use lib.ListN.{length, get_or, take, drop, set, length-set, length-map, length-append, length-drop, get_or-map}
use lib.Seq.{paste, paste-zero, paste-suc, take-paste, drop-paste, take_all, length-take-le, get_or-take, get_or-drop, drop-drop}
use Rattle.refusals.specs.Refusals.{is_refusal}
use Rattle.planner.specs.Rows.{Rows}
use Rattle.desk_tickets.specs.declared.Ticket.{Ticket}
use Rattle.desk_tickets.specs.WaitingTable.{no_ticket, waiting}
use Rattle.desk_boardings.specs.declared.Boarding.{Boarding}
use Rattle.desk_boardings.specs.declared.Boarded.{Boarded}
use Rattle.desk_boardings.specs.declared.BoardedRow.{BoardedRow}
use Rattle.desk_boardings.specs.Boarders.{boarders, share_one, share_two}
use Rattle.desk_boardings.specs.Boardings.{Tape, Boards, taken_of}
use Rattle.desk_boardings.proofs.Who.{shares_fit}
use Rattle.answer_desk.specs.Answers.{place_in}
use Rattle.answer_desk.proofs.Leaving.{who_leaves}
use Rattle.boundary_desk.specs.Calls.{want_place, taken_with}
use Rattle.boundary_desk.specs.Private.{places_of, Leaves}
use Rattle.boundary_desk.proofs.Calling.{boarding_sound}

-- A row whose entries from `at` on are being written, i of n so far.
pub record Placing (before : List ℕ) (at : ℕ) (s : List ℕ) (n : ℕ) (row : List ℕ) (i : ℕ) : Type 0 where
  pub within : i ≤ n
  pub same : length row ≡ length before
  pub is : row ≡ paste before at s i

module _ (before : List ℕ) (at : ℕ) (s : List ℕ) (n : ℕ) where
  pub placing_none : Placing before at s n before 0
  placing_none = record { within = omega arith; same = refl; is = paste-zero before at s }

  module _ (row : List ℕ) (i : ℕ) (p : Placing before at s n row i) where
    pub placing_more : i < n → length s ≡ n → at + n ≤ length before → (z x : ℕ) → x ≡ get_or s i z → Placing before at s n (set row (at + i) x) (i + 1)
    placing_more l all fits z x e =
        record {
          within = omega arith;
          same = length-set row (at + i) x ∙ p.same;
          is =
              ap (λ r. set r (at + i) x) p.is
              ∙ ap (λ y. set (paste before at s i) (at + i) y) e
              ∙ paste-suc before at s i z (omega arith) (omega (arith, all))
              ∙ ap (λ k. paste before at s k) (sym (add-one i));
        }

-- The tickets of n places, and the place of each one's want.
module _ (numbers : List ℕ) (row : List Ticket) (all : length row ≡ 32) (first n : ℕ) (fits : first + n ≤ 32) where
  tickets_long_here : length (take n (drop first row)) ≡ n
  tickets_long_here = length-take-le n (drop first row) (rw (length-drop first row, all) (omega arith))

  pub places_long : length (places_of numbers (take n (drop first row))) ≡ n
  places_long = length-map (take n (drop first row)) (λ (t : Ticket). suc (place_in t.file numbers)) ∙ tickets_long_here

  pub place_there : (i : ℕ) → i < n → suc (place_in (get_or row (first + i) no_ticket).file numbers) ≡ get_or (places_of numbers (take n (drop first row))) i (suc (place_in 0 numbers))
  place_there i l =
      sym
      (get_or-map (λ (t : Ticket). suc (place_in t.file numbers)) (take n (drop first row)) i no_ticket
      ∙ ap (λ (t : Ticket). suc (place_in t.file numbers)) (get_or-take n (drop first row) i no_ticket l ∙ get_or-drop first row i no_ticket))

-- The whole row: how many of each office, then office 1's and office 2's.
module _ (row : List Ticket) (all : length row ≡ 32) (b : Boarded) (leaves : Leaves row b) (words : List ℕ) (long : 10 ≤ length words) where
  abbrev pub ones : ℕ
  ones = b.taken.one

  abbrev pub twos : ℕ
  twos = b.taken.two

  abbrev pub s1 : List ℕ
  s1 = places_of b.wants.numbers (take ones (drop 0 row))

  abbrev pub s2 : List ℕ
  s2 = places_of b.wants.numbers (take twos (drop 16 row))

  abbrev pub d : List ℕ
  d = ones ∷ twos ∷ drop 2 words

  long1 : length s1 ≡ ones
  long1 = places_long b.wants.numbers row all 0 ones (omega (arith, leaves.few))

  long2 : length s2 ≡ twos
  long2 = places_long b.wants.numbers row all 16 twos (omega (arith, leaves.few))

  both : boarders row ≡ take ones (drop 0 row) ++ take twos (drop 16 row)
  both = leaves.who

  many : length (boarders row) ≡ ones + twos
  many =
      ap length both ∙ length-append (take ones (drop 0 row)) (take twos (drop 16 row))
      ∙ omega (arith, long1, long2, length-map (take ones (drop 0 row)) (want_place b), length-map (take twos (drop 16 row)) (want_place b))

  front : take (2 + ones) (paste d 2 s1 ones) ≡ ones ∷ twos ∷ s1
  front =
      take-paste d 2 s1 ones (omega arith) (omega (arith, long1))
      ∙ ap (λ r. take 2 d ++ r) (take_all ones s1 (omega (arith, long1)))

  back : drop (2 + ones + twos) (paste d 2 s1 ones) ≡ drop (suc (suc (length (boarders row)))) words
  back =
      let k : 2 + ones + twos ≡ 2 + (ones + twos) = omega arith in
      let m : suc (suc (length (boarders row))) ≡ 2 + (ones + twos) = omega (arith, many) in
      sym (drop-drop twos (2 + ones) (paste d 2 s1 ones))
      ∙ ap (λ r. drop twos r) (drop-paste d 2 s1 ones (omega arith) (omega (arith, long1)))
      ∙ drop-drop twos (2 + ones) d
      ∙ ap (λ n. drop n d) k
      ∙ sym (drop-drop (ones + twos) 2 d)
      ∙ drop-drop (ones + twos) 2 words
      ∙ ap (λ n. drop n words) (sym m)

  pub taken_so : (r₁ r₂ : List ℕ) → r₁ ≡ paste d 2 s1 ones → r₂ ≡ paste r₁ (2 + ones) s2 twos → r₂ ≡ taken_with row b words
  unfolding taken_with
  taken_so r₁ r₂ e₁ e₂ =
      e₂
      ∙ ap (λ r. paste r (2 + ones) s2 twos) e₁
      ∙ ap (λ r. r ++ take twos s2 ++ drop (2 + ones + twos) (paste d 2 s1 ones)) front
      ∙ ap (λ r. ones ∷ twos ∷ s1 ++ r ++ drop (2 + ones + twos) (paste d 2 s1 ones)) (take_all twos s2 (omega (arith, long2)))
      ∙ ap (λ r. ones ∷ twos ∷ s1 ++ s2 ++ r) back
      ∙ ap (λ (ps : List ℕ). (ones ∷ twos ∷ ps) ++ drop (suc (suc (length (boarders row)))) words)
      (sym (map-append (want_place b) (take ones (drop 0 row)) (take twos (drop 16 row))) ∙ ap (λ (ts : List Ticket). map (want_place b) ts) (sym both))

-- Who leaves by a boarding that is accepted.
module _ (len : ℕ) (tape : Tape) (row : List Ticket) (all : length row ≡ 32) (b : Boarding) (before : Rows) (r : BoardedRow) (after : Rows) (boards : Boards len tape row b before r after) where
  pub leaves_so : is_refusal r.boarded.answer.refusal ≡ false → Leaves row r.boarded
  leaves_so e =
      let taken_is : r.boarded.taken ≡ taken_of row
      = ap (λ (x : BoardedRow). x.boarded.taken) (boards.planned (boarding_sound len tape row b before r after boards e)).says ∙ rw e refl in
      let one-is : r.boarded.taken.one ≡ share_one row = ap (λ x. x.one) taken_is in
      let two_is : r.boarded.taken.two ≡ share_two row = ap (λ x. x.two) taken_is in
      record {
        few = rw (one-is, two_is) (shares_fit (length (waiting 1 row)) (length (waiting 2 row)));
        who = (who_leaves len tape row all b before r after boards e).who;
      }
