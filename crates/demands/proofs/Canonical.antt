-- A number has one text.
use Prim.Native.Nat.{ℕ, zero, suc, ◌+◌, ◌-◌, ◌*◌, ◌/◌, ◌%◌, ◌^◌, ◌≤◌, ◌<◌}
use mathlib.Core.Path.{◌≡◌, refl, ap, sym, ◌∙◌}
use mathlib.Core.Bool.{Bool, true, false, true≢false, not, cond, ◌&&◌}
use mathlib.Core.List.{List, [], ◌∷◌, ◌++◌, append-nil}
use native.Mathlib.Omega.{arith}
use native.Mathlib.Decide.{dec_lt}
use native.Mathlib.Nat.{zero-add}
use lib.Dec.{eqb, ltb}
use lib.Seq.{append_snoc}
use borrow.Author.Tests.{lt-ltb, le-ltb, ltb-true, eqb-false, not-true, leb-true}
use Rattle.text_bytes.specs.Text.{is_empty, is_number, leading_zero, all_of, is_digit, value_from, value_of, decimal_in, decimal}
use Rattle.text_bytes.proofs.Bytes.{and_true_both, DigitBounds, digit_bounds}

-- So many digits or more: the text is the same.
decimal_enough : (a b n : ℕ) → n ≤ a → n ≤ b → decimal_in a n ≡ decimal_in b n
unfolding decimal_in
decimal_enough zero zero n l m = refl
decimal_enough zero (suc b) n l m = rw (lt-ltb n 10 (omega arith))
decimal_enough (suc a) zero n l m = rw (lt-ltb n 10 (omega arith))
decimal_enough (suc a) (suc b) n l m =
    elim (dec_lt n 10) [
      | yes h ↦ rw (lt-ltb n 10 h)
      | no h ↦ rw (le-ltb n 10 (omega arith), decimal_enough a b (n / 10) (omega arith) (omega arith))
    ]

pub decimal_step : (n e : ℕ) → 1 ≤ n → e < 10 → decimal (n * 10 + e) ≡ decimal n ++ ((48 + e) ∷ [])
unfolding decimal_in
decimal_step n e some small = go (n * 10 + e) refl
  where
    go : (m : ℕ) → n * 10 + e ≡ m → decimal_in m m ≡ decimal n ++ ((48 + e) ∷ [])
    go zero is = absurd (omega arith)
    go (suc m) is =
        let tens : suc m / 10 ≡ n = omega arith in
        let ones : suc m % 10 ≡ e = omega arith in
        rw (le-ltb (suc m) 10 (omega arith), tens, ones, decimal_enough m n n (omega arith) (omega arith))

digit_of_lem : (b : ℕ) → is_digit b ≡ true → DigitBounds b
digit_of_lem b e = digit_bounds b (is_digit b) refl e

decimal_on : (n : ℕ) → 1 ≤ n → (text : List ℕ) → all_of is_digit text ≡ true → decimal (value_from n text) ≡ decimal n ++ text
unfolding value_from all_of
decimal_on n some [] all = sym (append-nil (decimal n))
decimal_on n some (b ∷ text) all =
    let both = and_true_both (is_digit b) (all_of is_digit text) all in
    let bounds = digit_of_lem b both.0 in
    let digit : 48 + (b - 48) ≡ b = omega (arith, bounds.least) in
    decimal_on (n * 10 + (b - 48)) (omega arith) text both.1
    ∙ ap (λ t. t ++ text) (decimal_step n (b - 48) some (omega (arith, bounds.most)))
    ∙ rw digit (append_snoc (decimal n) b text)

decimal_small : (n : ℕ) → n < 10 → decimal n ≡ (48 + n) ∷ []
unfolding decimal_in
decimal_small zero l = refl
decimal_small (suc n) l = rw (lt-ltb (suc n) 10 l)

first_digit : (b : ℕ) → is_digit b ≡ true → decimal (b - 48) ≡ b ∷ []
first_digit b e =
    let bounds = digit_of_lem b e in
    let digit : 48 + (b - 48) ≡ b = omega (arith, bounds.least) in
    decimal_small (b - 48) (omega (arith, bounds.most)) ∙ rw digit

number_shape : (text : List ℕ) → is_empty text ≡ false → leading_zero text ≡ false → all_of is_digit text ≡ true → decimal (value_of text) ≡ text
unfolding value_from all_of
number_shape [] some lead all = absurd (true≢false some)
number_shape (b ∷ []) some lead all = rw (zero-add (b - 48)) (first_digit b (and_true_both (is_digit b) true all).0)
number_shape (b ∷ c ∷ text) some lead all =
    let both = and_true_both (is_digit b) (all_of is_digit (c ∷ text)) all in
    let bounds = digit_of_lem b both.0 in
    let n : b ≡ 48 → ⊥ = eqb-false b 48 lead in
    rw (zero-add (b - 48)) (decimal_on (b - 48) (omega (arith, bounds.least)) (c ∷ text) both.1 ∙ ap (λ t. t ++ (c ∷ text)) (first_digit b both.0))

pub number_text : (text : List ℕ) → is_number text ≡ true → decimal (value_of text) ≡ text
unfolding is_number
number_text text e =
    let a = (and_true_both (not (is_empty text) && not (leading_zero text) && all_of is_digit text) (ltb (value_of text) (2 ^ 64)) e).0 in
    let b = and_true_both (not (is_empty text) && not (leading_zero text)) (all_of is_digit text) a in
    let c = and_true_both (not (is_empty text)) (not (leading_zero text)) b.0 in
    number_shape text (not-true (is_empty text) c.0) (not-true (leading_zero text) c.1) b.1
