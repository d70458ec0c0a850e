-- A number's own text is a number, and its value is the number.
use Prim.Native.Nat.{ℕ, zero, suc, ◌+◌, ◌-◌, ◌*◌, ◌/◌, ◌%◌, ◌^◌, ◌≤◌, ◌<◌}
use mathlib.Core.Path.{◌≡◌, refl, ap, sym, ◌∙◌}
use mathlib.Core.Bool.{Bool, true, false, ◌&&◌, ◌||◌}
use mathlib.Core.List.{List, [], ◌∷◌, ◌++◌}
use native.Mathlib.Omega.{arith}
use native.Mathlib.Decide.{dec_lt}
use lib.ListN.{length, get_or}
use lib.Dec.{eqb}
use borrow.Author.Tests.{lt-ltb, le-ltb, le-leb, ne_eqb}
use Rattle.text_bytes.specs.Text.{has, all_of, is_digit, value_from, value_of, leading_zero, is_number, decimal_in, decimal}
use Rattle.text_bytes.proofs.Bytes.{and_true_both, not_empty}

pub all_append : (kind : ℕ → Bool) (a b : List ℕ) → all_of kind (a ++ b) ≡ (all_of kind a && all_of kind b)
unfolding all_of
all_append kind [] b = refl
all_append kind (x ∷ a) b = rw (all_append kind a b) (sym (mathlib.Core.Bool.and_assoc (kind x) (all_of kind a) (all_of kind b)))

pub has_append : (c : ℕ) (a b : List ℕ) → has c (a ++ b) ≡ (has c a || has c b)
unfolding has
has_append c [] b = refl
has_append c (x ∷ a) b = rw (has_append c a b) (sym (mathlib.Core.Bool.or_assoc (eqb x c) (has c a) (has c b)))

-- A byte that is not of the kind stands nowhere in a text of that kind.
pub has_none : (kind : ℕ → Bool) (c : ℕ) → kind c ≡ false → (text : List ℕ) → all_of kind text ≡ true → has c text ≡ false
unfolding all_of has
has_none kind c other [] e = refl
has_none kind c other (b ∷ text) e =
    let both = and_true_both (kind b) (all_of kind text) e in
    let differs : b ≡ c → ⊥ = λ s. mathlib.Core.Bool.true≢false (sym both.0 ∙ ap kind s ∙ other) in
    rw (ne_eqb b c differs) (has_none kind c other text both.1)

digit_is : (d : ℕ) → d < 10 → is_digit (48 + d) ≡ true
digit_is d l = rw (le-leb 48 (48 + d) (omega arith), le-leb (48 + d) 57 (omega arith))

decimal_last : (n : ℕ) → decimal_in 0 n ≡ (48 + n) ∷ []
unfolding decimal_in
decimal_last n = refl

-- The two shapes of a number's text.
module _ (most n : ℕ) where
  decimal_one : n < 10 → decimal_in (suc most) n ≡ (48 + n) ∷ []
  unfolding decimal_in
  decimal_one l = rw (lt-ltb n 10 l)

  decimal_more_here : 10 ≤ n → decimal_in (suc most) n ≡ decimal_in most (n / 10) ++ ((48 + n % 10) ∷ [])
  unfolding decimal_in
  decimal_more_here l = rw (le-ltb n 10 l)

digits_all : (most n : ℕ) → n ≤ most → all_of is_digit (decimal_in most n) ≡ true
unfolding all_of
digits_all zero n l = rw (decimal_last n, digit_is n (omega arith))
digits_all (suc most) n l =
    elim (dec_lt n 10) [
      | yes h ↦ rw (decimal_one most n h, digit_is n h)
      | no h ↦ rw (decimal_more_here most n (omega arith), all_append is_digit (decimal_in most (n / 10)) ((48 + n % 10) ∷ []), digits_all most (n / 10) (omega arith), digit_is (n % 10) (omega arith))
    ]

value_append : (n : ℕ) (a b : List ℕ) → value_from n (a ++ b) ≡ value_from (value_from n a) b
unfolding value_from
value_append n [] b = refl
value_append n (x ∷ a) b = value_append (n * 10 + (x - 48)) a b

value_is : (most n : ℕ) → n ≤ most → value_of (decimal_in most n) ≡ n
unfolding value_from
value_is zero n l = rw (decimal_last n) (omega arith)
value_is (suc most) n l =
    elim (dec_lt n 10) [
      | yes h ↦ rw (decimal_one most n h) (omega arith)
      | no h ↦ rw (decimal_more_here most n (omega arith), value_append 0 (decimal_in most (n / 10)) ((48 + n % 10) ∷ []), value_is most (n / 10) (omega arith)) (omega arith)
    ]

-- A number that is not 0 does not begin with a 0.
first_append : (a b : List ℕ) → 0 < length a → get_or (a ++ b) 0 0 ≡ get_or a 0 0
first_append [] b l = absurd (omega arith)
first_append (x ∷ a) b l = refl

pub decimal_some : (most n : ℕ) → 0 < length (decimal_in most n)
unfolding decimal_in
decimal_some zero n = omega arith
decimal_some (suc most) n =
    elim (dec_lt n 10) [
      | yes h ↦ rw (decimal_one most n h) (omega arith)
      | no h ↦ rw (decimal_more_here most n (omega arith), lib.ListN.length-append (decimal_in most (n / 10)) ((48 + n % 10) ∷ [])) (omega arith)
    ]

begins_high : (most n : ℕ) → n ≤ most → 0 < n → 48 < get_or (decimal_in most n) 0 0
begins_high zero n l s = absurd (omega arith)
begins_high (suc most) n l s =
    elim (dec_lt n 10) [
      | yes h ↦ rw (decimal_one most n h) (omega arith)
      | no h ↦ rw (decimal_more_here most n (omega arith), first_append (decimal_in most (n / 10)) ((48 + n % 10) ∷ []) (decimal_some most (n / 10))) (begins_high most (n / 10) (omega arith) (omega arith))
    ]

no_zero : (text : List ℕ) → 48 < get_or text 0 0 → leading_zero text ≡ false
no_zero [] l = refl
no_zero (b ∷ []) l = refl
no_zero (b ∷ c ∷ text) l = ne_eqb b 48 (λ e. omega arith)

no_leading : (n : ℕ) → leading_zero (decimal n) ≡ false
unfolding decimal_in
no_leading zero = refl
no_leading (suc n) = no_zero (decimal (suc n)) (begins_high (suc n) (suc n) (omega arith) (omega arith))

pub decimal_digits : (n : ℕ) → all_of is_digit (decimal n) ≡ true
decimal_digits n = digits_all n n (omega arith)

pub decimal_value : (n : ℕ) → value_of (decimal n) ≡ n
decimal_value n = value_is n n (omega arith)

pub decimal_number : (n : ℕ) → n < 2 ^ 64 → is_number (decimal n) ≡ true
unfolding is_number
decimal_number n l =
    rw (not_empty (decimal n) (decimal_some n n), no_leading n, decimal_digits n, lt-ltb (value_of (decimal n)) (2 ^ 64) (rw (decimal_value n) l))

-- No LF and no comma in a number.
pub decimal_without : (c n : ℕ) → is_digit c ≡ false → has c (decimal n) ≡ false
decimal_without c n other = has_none is_digit c other (decimal n) (decimal_digits n)
