-- Digits, characters' numbers and their bytes, as the tests go.
use Prim.Native.Nat.{ℕ, ◌+◌, ◌-◌, ◌*◌, ◌/◌, ◌≤◌, ◌<◌, min}
use mathlib.Core.Path.{◌≡◌, ap, sym, ◌∙◌}
use mathlib.Core.Bool.{Bool, true, false, not}
use mathlib.Core.List.{[], ◌∷◌}
use mathlib.Core.Logic.{by_cases}
use native.Mathlib.Decide.{dec_le}
use native.Mathlib.Omega.{arith}
use lib.Dec.{leb, ltb}
use borrow.Author.Tests.{le-leb, lt-leb, lt-ltb, le-ltb, leb-true}
use Rattle.text_bytes.specs.Text.{between, is_digit}
use Rattle.text_bytes.proofs.Bytes.{and_true_both}
use Rattle.text_references.specs.declared.Reading.{Reading}
use Rattle.text_references.specs.References.{is_character, later_byte, utf8}
use Rattle.text_references.specs.Readings.{too_far, read_next}
use Rattle.text_references.specs.Private.{long_bytes}

-- A byte between two others.
pub record Within (least most b : ℕ) : Type 0 where
  pub low : least ≤ b
  pub high : b ≤ most

pub within_is : (least most b : ℕ) (t : Bool) → t ≡ between least most b → t ≡ true → Within least most b
within_is least most b t e s =
    let both = and_true_both (leb least b) (leb b most) (sym e ∙ s) in
    record { low = leb-true least b both.0; high = leb-true b most both.1 }

-- A character's number.
pub char_low : (n : ℕ) → n < 1 → false ≡ is_character n
char_low n l = rw (lt-leb 1 n l)

pub char_high : (n : ℕ) → 1 ≤ n → 1114111 < n → false ≡ is_character n
char_high n s l = rw (le-leb 1 n s, lt-leb n 1114111 l)

pub char_below : (n : ℕ) → 1 ≤ n → n ≤ 1114111 → n < 55296 → true ≡ is_character n
char_below n s l b = rw (le-leb 1 n s, le-leb n 1114111 l, lt-leb 55296 n b)

pub char_above : (n : ℕ) → 1 ≤ n → n ≤ 1114111 → 55296 ≤ n → ltb 57343 n ≡ is_character n
char_above n s l b = by_cases (dec_le 57344 n) (λ h. rw (le-leb 1 n s, le-leb n 1114111 l, le-leb 55296 n b, lt-leb n 57343 h, lt-ltb 57343 n h)) (λ h. rw (le-leb 1 n s, le-leb n 1114111 l, le-leb 55296 n b, le-leb n 57343 (omega arith), le-ltb 57343 n (omega arith)))

pub char_most : (n : ℕ) → is_character n ≡ true → n ≤ 1114111
char_most n e =
    let both = and_true_both (between 1 1114111 n) (not (between 55296 57343 n)) e in
    leb-true n 1114111 (and_true_both (leb 1 n) (leb n 1114111) both.0).1

-- A number that has reached the limit stays there.
pub cap_again : (base n digit : ℕ) → 1 ≤ base → min too_far (min too_far n * base + digit) ≡ min too_far (n * base + digit)
cap_again base n digit l = by_cases (dec_le too_far n) large small
  where
    small : (too_far ≤ n → ⊥) → min too_far (min too_far n * base + digit) ≡ min too_far (n * base + digit)
    small h = let e : min too_far n ≡ n = omega arith in rw e

    large : too_far ≤ n → min too_far (min too_far n * base + digit) ≡ min too_far (n * base + digit)
    large h =
        let e : min too_far n ≡ too_far = omega arith in
        let a : too_far * 1 ≤ too_far * base = native.Mathlib.Nat.mul-le-mul_left too_far l in
        let b : n * 1 ≤ n * base = native.Mathlib.Nat.mul-le-mul_left n l in
        rw e (omega arith)

-- One more digit of a number.
pub decimal_more : (n b value : ℕ) → is_digit b ≡ true → value ≡ min too_far (min too_far n * 10 + (b - 48)) → Reading.Decimal value ≡ read_next (Reading.Decimal n) b
decimal_more n b value d e = rw d (ap Reading.Decimal (e ∙ cap_again 10 n (b - 48) (omega arith)))

pub decimal_none : (n b : ℕ) → is_digit b ≡ false → Reading.Dead ≡ read_next (Reading.Decimal n) b
decimal_none n b d = rw d

-- The bytes of a character.
module _ (n : ℕ) where
  pub utf8_none : is_character n ≡ false → [] ≡ utf8 n
  unfolding utf8
  utf8_none e = rw e

  module _ (e : is_character n ≡ true) where
    pub utf8_one : n < 128 → n ∷ [] ≡ utf8 n
    unfolding utf8
    utf8_one l = rw (e, lt-ltb n 128 l)

    pub utf8_two : 128 ≤ n → n < 2048 → (192 + n / 64) ∷ later_byte n ∷ [] ≡ utf8 n
    unfolding utf8
    utf8_two s l = rw (e, le-ltb n 128 s, lt-ltb n 2048 l)

    pub utf8_long : 2048 ≤ n → long_bytes n (later_byte (n / 64)) (later_byte n) ≡ utf8 n
    unfolding utf8
    utf8_long s = rw (e, le-ltb n 128 (omega arith), le-ltb n 2048 s)
