-- Paths that begin alike: their keys rise with their order, and one byte more.
use Prim.Native.Nat.{ℕ, suc, ◌≤◌, ◌<◌}
use mathlib.Core.Path.{◌≡◌, refl, ap, sym, ◌∙◌}
use mathlib.Core.Bool.{Bool, true, false, ◌&&◌, ◌||◌, true≢false, false≢true}
use mathlib.Core.Logic.{by_cases}
use mathlib.Core.List.{List, [], ◌∷◌, ◌++◌, append-nil}
use native.Mathlib.Decide.{dec_le}
use native.Mathlib.Omega.{arith}
use lib.ListN.{length, length-append}
use lib.Seq.{append_snoc}
use lib.Dec.{eqb, ltb}
use borrow.Author.Tests.{eqb-true, eq-eqb, ltb-true, le-ltb}
use Rattle.text_bytes.specs.Text.{starts_with}
use Rattle.text_bytes.proofs.Bytes.{and_true_both, begun_long}
use Rattle.text_order.specs.declared.Range.{Range}
use Rattle.text_order.specs.Order.{key_at, key_of, path_at, no_later, Rises, Narrowed, narrowed_by, narrowed_in, narrowed_all}
use Rattle.text_order.specs.Promises.{PathsInOrder, RangeOf, RangesHoldBeginnings, RangeHolds, NamesNarrow}
use Rattle.text_order.proofs.Halving.{narrows_where_keys_rise, none_left}

or_true_rest : (a b : Bool) → (a || b) ≡ true → a ≡ false → b ≡ true
or_true_rest true b e f = absurd (true≢false f)
or_true_rest false b e f = e

-- Where the first bytes are the same, the rest decides.
same_first : (x y : ℕ) (path other : List ℕ) → x ≡ y → no_later (x ∷ path) (y ∷ other) ≡ true → no_later path other ≡ true
unfolding no_later
same_first x y path other e h =
    (and_true_both (eqb x y) (no_later path other) (or_true_rest (ltb x y) (eqb x y && no_later path other) h (le-ltb x y (omega arith)))).1

first_rises : (a b : List ℕ) → no_later a b ≡ true → key_at a ≤ key_at b
unfolding no_later
first_rises [] b e = omega arith
first_rises (x ∷ a) [] e = absurd (false≢true e)
first_rises (x ∷ a) (y ∷ b) e = go (ltb x y) refl e
  where
    go : (t : Bool) → ltb x y ≡ t → (t || (eqb x y && no_later a b)) ≡ true → suc x ≤ suc y
    go true h f = let l = ltb-true x y h in omega arith
    go false h f = let s = eqb-true x y (and_true_both (eqb x y) (no_later a b) f).0 in omega arith

alike_rises : (read a b : List ℕ) → starts_with read a ≡ true → starts_with read b ≡ true → no_later a b ≡ true → key_of a (length read) ≤ key_of b (length read)
unfolding starts_with
alike_rises [] a b p q h = first_rises a b h
alike_rises (k ∷ read) [] b p q h = absurd (false≢true p)
alike_rises (k ∷ read) (x ∷ a) [] p q h = absurd (false≢true q)
alike_rises (k ∷ read) (x ∷ a) (y ∷ b) p q h =
    let s = and_true_both (eqb k x) (starts_with read a) p in
    let t = and_true_both (eqb k y) (starts_with read b) q in
    let e : x ≡ y = sym (eqb-true k x s.0) ∙ eqb-true k y t.0 in
    alike_rises read a b s.1 t.1 (same_first x y a b e h)

-- One byte more.
next_read : (read a : List ℕ) (b : ℕ) → starts_with (read ++ b ∷ []) a ≡ true → (starts_with read a ≡ true) × (key_of a (length read) ≡ suc b)
unfolding starts_with
next_read [] [] b e = absurd (false≢true e)
next_read [] (x ∷ a) b e = let s = eqb-true b x (and_true_both (eqb b x) true e).0 in (refl, ap suc (sym s))
next_read (k ∷ read) [] b e = absurd (false≢true e)
next_read (k ∷ read) (x ∷ a) b e =
    let s = and_true_both (eqb k x) (starts_with (read ++ b ∷ []) a) e in
    let n = next_read read a b s.1 in
    (rw s.0 n.0, n.1)

read_next : (read a : List ℕ) (b : ℕ) → starts_with read a ≡ true → key_of a (length read) ≡ suc b → starts_with (read ++ b ∷ []) a ≡ true
unfolding starts_with
read_next [] [] b e k = absurd (omega arith)
read_next [] (x ∷ a) b e k = let s : b ≡ x = omega arith in rw (eq-eqb b x s)
read_next (k ∷ read) [] b e n = absurd (false≢true e)
read_next (k ∷ read) (x ∷ a) b e n =
    let s = and_true_both (eqb k x) (starts_with read a) e in
    rw s.0 (read_next read a b s.1 n)

-- Nothing read: every path.
pub range_all : (path : ℕ → List ℕ) (count : ℕ) → RangeOf path count [] (record { low = 0; high = count; length = 0 })
unfolding starts_with
range_all path count =
    record { long = refl; ordered = omega arith; within = omega arith; exactly = λ j l. ((λ h. refl), (λ h. (omega arith, l))) }

module _ (path : ℕ → List ℕ) (count : ℕ) (sorted : PathsInOrder path count) (read : List ℕ) (range : Range) (p : RangeOf path count read range) where
  begins : (j : ℕ) → range.low ≤ j → j < range.high → starts_with read (path j) ≡ true
  begins j a b = (p.exactly j (omega (arith, p.within))).0 (a, b)

  rise : Rises (λ j. key_of (path j) range.length) range.low range.high
  rise i j a b c =
      rw p.long
      (alike_rises read (path i) (path j) (begins i a (omega arith)) (begins j (omega arith) c) (sorted i j b (omega (arith, p.within))))

  on : (byte : ℕ) (r : Range) → Narrowed (λ j. key_of (path j) range.length) range byte r → RangeOf path count (read ++ byte ∷ []) r
  on byte r n =
      let size = length-append read (byte ∷ []) in
      record {
        long = omega (arith, n.longer, p.long);
        ordered = n.ordered.1;
        within = omega (arith, n.ordered.2, p.within);
        exactly = λ j l. (
          (λ h. let lies = inside j h in read_next read (path j) byte (begins j lies.0 lies.1) (rw (← p.long) ((n.exactly j lies.0 lies.1).0 h))),
          (λ h.
              let both = next_read read (path j) byte h in
              let lies = (p.exactly j l).1 both.0 in
              (n.exactly j lies.0 lies.1).1 (rw p.long both.1)),
        );
      }
    where
      inside : (j : ℕ) → ((r.low ≤ j) × (j < r.high)) → (range.low ≤ j) × (j < range.high)
      inside j h = (omega (arith, n.ordered.0, h.0), omega (arith, n.ordered.2, h.1))

pub ranges_hold_beginnings : RangesHoldBeginnings
ranges_hold_beginnings path count sorted read range p = record { rises = rise path count sorted read range p; next = on path count sorted read range p }

-- Bytes one after the other.
pub narrowed_append : (list starts ends order : List ℕ) (range : Range) (a b : List ℕ)
    → narrowed_all list starts ends order range (a ++ b) ≡ narrowed_all list starts ends order (narrowed_all list starts ends order range a) b
unfolding narrowed_all
narrowed_append list starts ends order range [] b = refl
narrowed_append list starts ends order range (byte ∷ a) b = narrowed_append list starts ends order (narrowed_in list starts ends order range byte) a b

pub narrowed_one : (list starts ends order : List ℕ) (range : Range) (a : List ℕ) (byte : ℕ)
    → narrowed_all list starts ends order range (a ++ byte ∷ []) ≡ narrowed_in list starts ends order (narrowed_all list starts ends order range a) byte
unfolding narrowed_all
narrowed_one list starts ends order range a byte = narrowed_append list starts ends order range a (byte ∷ [])

-- Nothing read holds every path, also where lengths of ranges without paths do not count.
pub holds_all : (path : ℕ → List ℕ) (count : ℕ) → RangeHolds path count [] (record { low = 0; high = count; length = 0 })
holds_all path count =
    let p = range_all path count in
    record { long = λ l. refl; ordered = p.ordered; within = p.within; exactly = p.exactly }

module _ (path : ℕ → List ℕ) (count : ℕ) (sorted : PathsInOrder path count) (short : (j : ℕ) → j < count → length (path j) < 18446744073709551615) (read : List ℕ) (range : Range)
    (p : RangeHolds path count read range) (byte : ℕ) where
  some_held : range.low < range.high → RangeHolds path count (read ++ byte ∷ []) (narrowed_by (λ j. key_of (path j) range.length) range byte)
  some_held l =
      let whole : RangeOf path count read range = record { long = p.long l; ordered = p.ordered; within = p.within; exactly = p.exactly } in
      let first : range.low < count = omega (arith, p.within) in
      let begun = begun_long read (path range.low) ((p.exactly range.low first).0 (omega arith, l)) in
      let small = short range.low first in
      let on = ranges_hold_beginnings path count sorted read range whole in
      let next = on.next byte (narrowed_by (λ j. key_of (path j) range.length) range byte)
      (narrows_where_keys_rise (λ j. key_of (path j) range.length) range byte (omega (arith, p.long l)) p.ordered on.rises) in
      record { long = λ m. next.long; ordered = next.ordered; within = next.within; exactly = next.exactly }

  none_held : range.high ≤ range.low → RangeHolds path count (read ++ byte ∷ []) (narrowed_by (λ j. key_of (path j) range.length) range byte)
  none_held l =
      rw (← none_left (λ j. key_of (path j) range.length) range byte _ refl l)
      (record {
        long = λ m. absurd (omega arith);
        ordered = omega arith;
        within = omega (arith, p.ordered, p.within);
        exactly = λ j m. (
          (λ h. absurd (omega (arith, h.0, h.1))),
          (λ h. let lies = (p.exactly j m).1 (next_read read (path j) byte h).0 in absurd (omega (arith, lies.0, lies.1))),
        );
      })

  held_more : RangeHolds path count (read ++ byte ∷ []) (narrowed_by (λ j. key_of (path j) range.length) range byte)
  held_more = by_cases (dec_le range.high range.low) none_held (λ l. some_held (omega arith))

pub names_narrow : NamesNarrow
unfolding narrowed_all
names_narrow list starts ends order count sorted short [] read range p = rw (append-nil read) p
names_narrow list starts ends order count sorted short (byte ∷ bytes) read range p =
    rw (← append_snoc read byte bytes)
    (names_narrow list starts ends order count sorted short bytes (read ++ byte ∷ []) (narrowed_in list starts ends order range byte)
    (held_more (path_at list starts ends order) count sorted short read range p byte))
