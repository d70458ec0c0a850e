-- Numbers and letters byte by byte: what is known after some bytes says what the whole is.
use Prim.Native.Nat.{ℕ, ◌+◌, ◌-◌, ◌*◌, ◌^◌, ◌<◌}
use mathlib.Core.Path.{◌≡◌, refl, ap, sym, ◌∙◌}
use mathlib.Core.Bool.{Bool, true, false, cond, ◌&&◌, and-false, false≢true}
use mathlib.Core.List.{List, [], ◌∷◌}
use native.Mathlib.Omega.{arith}
use lib.Dec.{eqb, ltb}
use borrow.Author.Tests.{lt-ltb, le-ltb, ltb-true, ltb-false}
use Rattle.std.specs.Prelude.{Option, Some, None, Ok}
use Rattle.text_bytes.specs.Text.{between, all_of, value_from, value_of, is_digit, is_number}
use Rattle.text_bytes.proofs.Bytes.{digit_bounds, and_true_both, value_grows}
use Rattle.tape_files.specs.declared.values.Chars.{Chars}
use Rattle.tape_files.specs.Values.{bad_value, number_field, letter_field}
use Rattle.tape_files.specs.Private.{no_chars, number_with, with_byte, chars_from, grows, grown}

-- Behind a first byte.
abbrev behind : ℕ → Bool → Option ℕ → Chars
behind first more value = record { first = Some first; more = more; value = value }

first_stays : (bytes : List ℕ) (first : ℕ) (more : Bool) (value : Option ℕ) → (chars_from (behind first more value) bytes).first ≡ Some first
unfolding chars_from with_byte
first_stays [] first more value = refl
first_stays (b ∷ bytes) first more value = first_stays bytes first true _

more_stays : (bytes : List ℕ) (first : ℕ) (value : Option ℕ) → (chars_from (behind first true value) bytes).more ≡ true
unfolding chars_from with_byte
more_stays [] first value = refl
more_stays (b ∷ bytes) first value = more_stays bytes first _

-- What is no number stays none.
spoiled : (bytes : List ℕ) (first : ℕ) (more : Bool) → (chars_from (behind first more None) bytes).value ≡ None
unfolding chars_from with_byte
spoiled [] first more = refl
spoiled (b ∷ bytes) first more = spoiled bytes first true

-- A number with digits behind it, if it is one.
abbrev number_from : ℕ → List ℕ → Option ℕ
number_from value bytes = cond (all_of is_digit bytes && ltb (value_from value bytes) (2 ^ 64)) (Some (value_from value bytes)) None

-- Not a digit, or too large: no number, whatever follows.
wrong_from : (value b : ℕ) (bytes : List ℕ) → grows value b ≡ false → number_from value (b ∷ bytes) ≡ None
unfolding all_of value_from
wrong_from value b bytes t = by_test (is_digit b) (ltb (value * 10 + (b - 48)) (2 ^ 64)) refl refl
  where
    by_test : (d l : Bool) → is_digit b ≡ d → ltb (value * 10 + (b - 48)) (2 ^ 64) ≡ l → number_from value (b ∷ bytes) ≡ None
    by_test false l p q = rw p
    by_test true true p q = absurd (false≢true (sym t ∙ rw (p, q)))
    by_test true false p q =
        let h = ltb-false (value * 10 + (b - 48)) (2 ^ 64) q in
        let g = value_grows (value * 10 + (b - 48)) bytes in
        rw (le-ltb (value_from (value * 10 + (b - 48)) bytes) (2 ^ 64) (omega arith), and-false)

-- Digits behind a number that does not begin with 0.
goes_on_lem : (bytes : List ℕ) (first : ℕ) (more : Bool) (value : ℕ) → eqb first 48 ≡ false → value < 2 ^ 64 → (chars_from (behind first more (Some value)) bytes).value ≡ number_from value bytes
unfolding chars_from with_byte all_of value_from
goes_on_lem [] first more value z l = rw (lt-ltb value (2 ^ 64) l)
goes_on_lem (b ∷ bytes) first more value z l = by_test (grows value b) refl (λ s. goes_on_lem bytes first true (value * 10 + (b - 48)) z s)
  where
    by_test : (t : Bool) → grows value b ≡ t → (value * 10 + (b - 48) < 2 ^ 64 → (chars_from (behind first true (Some (value * 10 + (b - 48)))) bytes).value ≡ number_from (value * 10 + (b - 48)) bytes)
        → (chars_from (behind first more (Some value)) (b ∷ bytes)).value ≡ number_from value (b ∷ bytes)
    by_test true t later =
        let both = and_true_both (is_digit b) (ltb (value * 10 + (b - 48)) (2 ^ 64)) t in
        let one : number_with (Some first) (Some value) b ≡ Some (value * 10 + (b - 48)) = rw (z, t) in
        let all : number_from value (b ∷ bytes) ≡ number_from (value * 10 + (b - 48)) bytes = rw both.0 in
        ap (λ (v : Option ℕ). (chars_from (behind first true v) bytes).value) one ∙ later (ltb-true _ _ both.1) ∙ sym all
    by_test false t later =
        let one : number_with (Some first) (Some value) b ≡ None = rw (z, t) in
        ap (λ (v : Option ℕ). (chars_from (behind first true v) bytes).value) one ∙ spoiled bytes first true ∙ sym (wrong_from value b bytes t)

-- Nothing follows a leading zero.
zero_ends : (value : Option ℕ) (first b : ℕ) → eqb first 48 ≡ true → number_with (Some first) value b ≡ None
zero_ends None first b z = refl
zero_ends (Some value) first b z = rw z

-- The whole.
abbrev number_of : List ℕ → Option ℕ
number_of bytes = cond (is_number bytes) (Some (value_of bytes)) None

pub number_said : (bytes : List ℕ) → (chars_from no_chars bytes).value ≡ number_of bytes
unfolding chars_from with_byte is_number all_of value_from
number_said [] = refl
number_said (b ∷ []) = by_test (is_digit b) refl
  where
    by_test : (d : Bool) → is_digit b ≡ d → grown 0 b ≡ number_of (b ∷ [])
    by_test false e = rw e
    by_test true e =
        let h = digit_bounds b true (sym e) refl in
        let m = h.most in
        rw (e, lt-ltb (0 * 10 + (b - 48)) (2 ^ 64) (omega arith))
number_said (b ∷ c ∷ bytes) = by_test (eqb b 48) (is_digit b) refl refl
  where
    by_test : (z d : Bool) → eqb b 48 ≡ z → is_digit b ≡ d → (chars_from (behind b false (grown 0 b)) (c ∷ bytes)).value ≡ number_of (b ∷ c ∷ bytes)
    by_test true d k e =
        let none : number_with (Some b) (grown 0 b) c ≡ None = zero_ends (grown 0 b) b c k in
        ap (λ (v : Option ℕ). (chars_from (behind b true v) bytes).value) none ∙ spoiled bytes b true ∙ sym (rw k)
    by_test false false k e =
        let none : grown 0 b ≡ None = rw e in
        ap (λ (v : Option ℕ). (chars_from (behind b false v) (c ∷ bytes)).value) none ∙ spoiled (c ∷ bytes) b false ∙ sym (rw (k, e))
    by_test false true k e =
        let h = digit_bounds b true (sym e) refl in
        let m = h.most in
        let one : grown 0 b ≡ Some (0 * 10 + (b - 48)) = rw (e, lt-ltb (0 * 10 + (b - 48)) (2 ^ 64) (omega arith)) in
        ap (λ (v : Option ℕ). (chars_from (behind b false v) (c ∷ bytes)).value) one ∙ goes_on_lem (c ∷ bytes) b false (0 * 10 + (b - 48)) k (omega arith) ∙ sym (rw (k, e))

module _ (s : Chars) (bytes : List ℕ) (e : s ≡ chars_from no_chars bytes) where
  said : s.value ≡ number_of bytes
  said = ap (λ (t : Chars). t.value) e ∙ number_said bytes

  pub number_bad : s.value ≡ None → bad_value ≡ number_field bytes
  unfolding number_field
  number_bad n = by_test (is_number bytes) (sym n ∙ said)
    where
      by_test : (t : Bool) → None ≡ cond t (Some (value_of bytes)) None → bad_value ≡ cond t (Ok (Some (value_of bytes))) bad_value
      by_test true h = cc
      by_test false h = refl

  pub number_good : (value : ℕ) → s.value ≡ Some value → Ok (Some value) ≡ number_field bytes
  unfolding number_field
  number_good value n = by_test (is_number bytes) (sym n ∙ said)
    where
      by_test : (t : Bool) → Some value ≡ cond t (Some (value_of bytes)) None → Ok (Some value) ≡ cond t (Ok (Some (value_of bytes))) bad_value
      by_test true h = cc
      by_test false h = cc

-- A letter is the one byte.
letter_said : (bytes : List ℕ) (first : ℕ) → (chars_from no_chars bytes).first ≡ Some first → (chars_from no_chars bytes).more ≡ false → bytes ≡ first ∷ []
unfolding chars_from with_byte
letter_said [] first f m = cc
letter_said (b ∷ []) first f m = cc
letter_said (b ∷ c ∷ bytes) first f m = absurd (false≢true (sym m ∙ more_stays bytes b _))

many_met : (bytes : List ℕ) → (chars_from no_chars bytes).more ≡ true → bad_value ≡ letter_field bytes
unfolding chars_from with_byte letter_field
many_met [] m = refl
many_met (b ∷ []) m = absurd (false≢true m)
many_met (b ∷ c ∷ bytes) m = refl

none_met : (bytes : List ℕ) → (chars_from no_chars bytes).first ≡ None → bad_value ≡ letter_field bytes
unfolding chars_from with_byte letter_field
none_met [] f = refl
none_met (b ∷ bytes) f = cc (first_stays bytes b false _)

module _ (s : Chars) (bytes : List ℕ) (e : s ≡ chars_from no_chars bytes) where
  pub letter_none : s.first ≡ None → bad_value ≡ letter_field bytes
  letter_none n = none_met bytes (sym (ap (λ (t : Chars). t.first) e) ∙ n)

  pub letter_many : s.more ≡ true → bad_value ≡ letter_field bytes
  letter_many m = many_met bytes (sym (ap (λ (t : Chars). t.more) e) ∙ m)

  module _ (first : ℕ) (f : s.first ≡ Some first) (m : s.more ≡ false) where
    alone : bytes ≡ first ∷ []
    alone = letter_said bytes first (sym (ap (λ (t : Chars). t.first) e) ∙ f) (sym (ap (λ (t : Chars). t.more) e) ∙ m)

    pub letter_other : between 97 122 first ≡ false → bad_value ≡ letter_field bytes
    unfolding letter_field
    letter_other w = rw alone (sym (rw w refl))

    pub letter_one : between 97 122 first ≡ true → Ok (Some first) ≡ letter_field bytes
    unfolding letter_field
    letter_one w = rw alone (sym (rw w refl))
