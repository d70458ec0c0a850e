-- Texts as loops go through them: a byte looked for, a beginning compared, a kind of byte, a number growing digit by digit.
use Prim.Native.Nat.{ℕ, ◌+◌, ◌-◌, ◌*◌, ◌^◌, ◌≤◌, ◌<◌}
use mathlib.Core.Path.{◌≡◌, refl, ap, sym, ◌∙◌}
use mathlib.Core.Bool.{Bool, true, false, not, ◌&&◌, and-false, false≢true}
use mathlib.Core.List.{List, [], ◌∷◌}
use native.Mathlib.Omega.{arith}
use native.Mathlib.Numerals.{add-one}
use lib.ListN.{length, get_or, take, drop, drop_of_length-le}
use lib.Seq.{drop-cons, length-take-le}
use lib.Dec.{leb, eqb}
use borrow.Author.Tests.{eqb-true, eqb-false, lt-ltb, le-ltb, le-leb, lt-leb, leb-true}
use Rattle.text_bytes.specs.Text.{has, before, behind, starts_with, is_text, all_of, value_from, value_of, is_digit, is_empty, leading_zero, is_number, is_name_byte, is_name}
use Rattle.std.specs.Prelude.{Option, Some, None, nat_eq}
use Rattle.std.specs.List.{list_all, position, position_from}
use Rattle.std.proofs.lemmas.Iterator.Adapters.{position_from-zero}
use Rattle.std.proofs.lemmas.Bool.Decides.{nat_tests}
use lib.Pointwise.{pointwise}
use Rattle.text_bytes.specs.Found.{FirstAt, FoundIn, NumberIs, NumberFound}

-- A conjunction is true where each part is.
pub and_true_both : (a b : Bool) → (a && b) ≡ true → (a ≡ true) × (b ≡ true)
and_true_both true b e = (refl, e)
and_true_both false b e = absurd (false≢true e)

pub not_empty : (text : List ℕ) → 0 < length text → is_empty text ≡ false
not_empty [] l = absurd (omega arith)
not_empty (b ∷ text) l = refl

-- The first place of a byte, counted from any number on.
abbrev FoundFrom : ℕ → List ℕ → ℕ → Option ℕ → Type 0
FoundFrom c text n (Some i) = (k : ℕ) × (i ≡ n + k) × FirstAt c text k
FoundFrom c text n None = has c text ≡ false

found_behind : (c b : ℕ) (text : List ℕ) (n : ℕ) → eqb b c ≡ false → (r : Option ℕ) → FoundFrom c text (n + 1) r → FoundFrom c (b ∷ text) n r
unfolding has before behind
found_behind c b text n e (Some i) (k, at, first) = (
  k + 1,
  omega arith,
  record { within = let w = first.within in omega arith; stands = rw e first.stands; front = rw (e, add-one k) (ap (λ t. b ∷ t) first.front); back = rw (e, add-one) (first.back ∙ rw add-one) },
)
found_behind c b text n e None none = rw e none

found_from : (c : ℕ) (text : List ℕ) (n : ℕ) → FoundFrom c text n (position_from (λ b. eqb b c) n text)
unfolding has before behind
found_from c [] n = refl
found_from c (b ∷ text) n = go (eqb b c) refl (found_from c text (n + 1))
  where
    go : (t : Bool) → eqb b c ≡ t → FoundFrom c text (n + 1) (position_from (λ b. eqb b c) (n + 1) text) → FoundFrom c (b ∷ text) n (position_from (λ b. eqb b c) n (b ∷ text))
    go true e rest = rw e (0, omega arith, record { within = omega arith; stands = rw e; front = rw e; back = rw e })
    go false e rest = rw e (found_behind c b text n e _ rest)

from_start : (c : ℕ) (text : List ℕ) (r : Option ℕ) → FoundFrom c text 0 r → FoundIn c text r
from_start c text (Some i) (k, at, first) = let same : i ≡ k = omega arith in rw same first
from_start c text None none = none

-- What `position` answers.
pub position_found : (c : ℕ) (text : List ℕ) (r : Option ℕ) → r ≡ position (λ b. eqb b c) text → FoundIn c text r
position_found c text r e = from_start c text r (rw (e, position_from-zero) (found_from c text 0))

-- What `starts_with` and `==` of slices answer.
pub begins : (key text : List ℕ) → pointwise nat_eq key (take (length key) text) ≡ starts_with key text
unfolding starts_with
begins [] text = refl
begins (k ∷ key) [] = refl
begins (k ∷ key) (b ∷ text) = ap (λ t. eqb k b && t) (begins key text)

eqb_either : (a b : ℕ) → eqb a b ≡ eqb b a
eqb_either a b = grind (arith, nat_tests)

same_length : (text wanted : List ℕ) → length wanted ≡ length text → pointwise nat_eq text wanted ≡ starts_with wanted text
unfolding starts_with
same_length [] [] l = refl
same_length [] (k ∷ wanted) l = absurd (omega arith)
same_length (b ∷ text) [] l = absurd (omega arith)
same_length (b ∷ text) (k ∷ wanted) l = rw (eqb_either b k, same_length text wanted (omega arith))

other_length : (text wanted : List ℕ) → (length wanted ≡ length text → ⊥) → pointwise nat_eq text wanted ≡ false
other_length [] [] n = absurd (n refl)
other_length [] (k ∷ wanted) n = refl
other_length (b ∷ text) [] n = refl
other_length (b ∷ text) (k ∷ wanted) n = rw (other_length text wanted (λ e. n (omega arith)), and-false)

pub is_same : (text wanted : List ℕ) → pointwise nat_eq text wanted ≡ is_text wanted text
is_same text wanted = go (eqb (length wanted) (length text)) refl
  where
    go : (t : Bool) → eqb (length wanted) (length text) ≡ t → pointwise nat_eq text wanted ≡ is_text wanted text
    go true e = rw e (same_length text wanted (eqb-true _ _ e))
    go false e = rw e (other_length text wanted (eqb-false _ _ e))

pub short_text : (key text : List ℕ) → length text < length key → false ≡ starts_with key text
unfolding starts_with
short_text [] text l = absurd (omega arith)
short_text (k ∷ key) [] l = refl
short_text (k ∷ key) (b ∷ text) l = rw (← short_text key text (omega arith), and-false)

pub begun_long : (key text : List ℕ) → starts_with key text ≡ true → length key ≤ length text
unfolding starts_with
begun_long [] text e = omega arith
begun_long (k ∷ key) [] e = absurd (false≢true e)
begun_long (k ∷ key) (b ∷ text) e = let h = begun_long key text (and_true_both (eqb k b) (starts_with key text) e).1 in omega arith

-- What `all` answers.
pub all_are : (kind : ℕ → Bool) (text : List ℕ) → list_all kind text ≡ all_of kind text
unfolding all_of
all_are kind [] = refl
all_are kind (b ∷ text) = ap (λ t. kind b && t) (all_are kind text)

-- Every byte of a kind: what is left decides.
pub record AllPassed (kind : ℕ → Bool) (text : List ℕ) (i : ℕ) : Type 0 where
  pub within : i ≤ length text
  pub rest : all_of kind text ≡ all_of kind (drop i text)

pub all_none : (kind : ℕ → Bool) (text : List ℕ) → AllPassed kind text 0
all_none kind text = record { within = omega arith; rest = refl }

module _ (kind : ℕ → Bool) (text : List ℕ) (i : ℕ) (p : AllPassed kind text i) where
  all_here : i < length text → all_of kind text ≡ (kind (get_or text i 0) && all_of kind (drop (i + 1) text))
  unfolding all_of
  all_here l = p.rest ∙ rw (drop-cons text i 0 l, add-one)

  pub kind_differs : i < length text → kind (get_or text i 0) ≡ false → all_of kind text ≡ false
  kind_differs l e = all_here l ∙ rw e

  pub kind_passed : i < length text → kind (get_or text i 0) ≡ true → AllPassed kind text (i + 1)
  kind_passed l e = record { within = omega arith; rest = all_here l ∙ rw e }

  pub kind_done : length text ≤ i → all_of kind text ≡ true
  unfolding all_of
  kind_done l = p.rest ∙ rw (drop_of_length-le text l)

-- A number growing: the digits left make the value of the whole.
pub record Growing (text : List ℕ) (n i : ℕ) : Type 0 where
  pub digits : AllPassed is_digit text i
  pub small : n < 2 ^ 64
  pub value : value_of text ≡ value_from n (drop i text)

-- A value only grows.
pub value_grows : (n : ℕ) (text : List ℕ) → n ≤ value_from n text
unfolding value_from
value_grows n [] = omega arith
value_grows n (b ∷ text) = let h = value_grows (n * 10 + (b - 48)) text in omega arith

module _ (text : List ℕ) (n i : ℕ) (p : Growing text n i) where
  value_here : i < length text → value_of text ≡ value_from (n * 10 + (get_or text i 0 - 48)) (drop (i + 1) text)
  unfolding value_from
  value_here l = p.value ∙ rw (drop-cons text i 0 l, add-one)

  pub not_digit : i < length text → is_digit (get_or text i 0) ≡ false → is_number text ≡ false
  unfolding is_number
  not_digit l e = rw (kind_differs is_digit text i p.digits l e, and-false)

  pub too_large : i < length text → 2 ^ 64 ≤ n * 10 + (get_or text i 0 - 48) → is_number text ≡ false
  unfolding is_number
  too_large l h =
      let grows = value_grows (n * 10 + (get_or text i 0 - 48)) (drop (i + 1) text) in
      rw (le-ltb (value_of text) (2 ^ 64) (omega (arith, value_here l)), and-false)

  pub digit_read : i < length text → is_digit (get_or text i 0) ≡ true → (m : ℕ) → m ≡ n * 10 + (get_or text i 0 - 48) → m < 2 ^ 64 → Growing text m (i + 1)
  digit_read l e m is h =
      record {
        digits = kind_passed is_digit text i p.digits l e;
        small = h;
        value = rw is (value_here l);
      }

  pub number_read : length text ≤ i → (not (is_empty text) && not (leading_zero text)) ≡ true → NumberIs text n
  unfolding is_number value_from
  number_read l begun =
      let e : value_of text ≡ n = p.value ∙ rw (drop_of_length-le text l) in
      record { good = rw (begun, kind_done is_digit text i p.digits l, lt-ltb (value_of text) (2 ^ 64) (omega arith)); value = sym e }

pub growing_none : (text : List ℕ) → Growing text 0 0
growing_none text = record { digits = all_none is_digit text; small = omega arith; value = refl }

pub badly_begun : (text : List ℕ) → (not (is_empty text) && not (leading_zero text)) ≡ false → is_number text ≡ false
unfolding is_number
badly_begun text e = rw e

-- A tape name's test, for a text of a fitting length and for any other.
pub name_fits : (text : List ℕ) → 1 ≤ length text → length text ≤ 16 → all_of is_name_byte text ≡ is_name text
unfolding is_name
name_fits text s l = rw (le-leb 1 (length text) s, le-leb (length text) 16 l)

pub name_short : (text : List ℕ) → length text < 1 → false ≡ is_name text
unfolding is_name
name_short text l = rw (lt-leb 1 (length text) l)

pub name_long : (text : List ℕ) → 1 ≤ length text → 16 < length text → false ≡ is_name text
unfolding is_name
name_long text s l = rw (le-leb 1 (length text) s, lt-leb (length text) 16 l)

-- A digit lies between 48 and 57.
pub record DigitBounds (b : ℕ) : Type 0 where
  pub least : 48 ≤ b
  pub most : b ≤ 57

pub digit_bounds : (b : ℕ) (t : Bool) → t ≡ is_digit b → t ≡ true → DigitBounds b
digit_bounds b t e s =
    let both = and_true_both (leb 48 b) (leb b 57) (sym e ∙ s) in
    record { least = leb-true 48 b both.0; most = leb-true b 57 both.1 }

-- Of two answers that fit one text, neither differs from the other.
pub found_determined : (c : ℕ) (text : List ℕ) (r s : Option ℕ) → FoundIn c text r → FoundIn c text s → r ≡ s
found_determined c text (Some i) (Some j) p q =
    ap Some (sym (length-take-le i text (omega (arith, p.within))) ∙ ap length (sym p.front ∙ q.front) ∙ length-take-le j text (omega (arith, q.within)))
found_determined c text (Some i) None p q = absurd (false≢true (sym q ∙ p.stands))
found_determined c text None (Some j) p q = absurd (false≢true (sym p ∙ q.stands))
found_determined c text None None p q = refl

pub number_determined : (text : List ℕ) (r s : Option ℕ) → NumberFound text r → NumberFound text s → r ≡ s
number_determined text (Some n) (Some m) p q = ap Some (p.value ∙ sym q.value)
number_determined text (Some n) None p q = absurd (false≢true (sym q ∙ p.good))
number_determined text None (Some m) p q = absurd (false≢true (sym p ∙ q.good))
number_determined text None None p q = refl
