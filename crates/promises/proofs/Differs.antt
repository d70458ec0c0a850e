-- The line that is named where two texts are not the same is the first in which they differ.
use Prim.Native.Nat.{ℕ, suc, ◌+◌, ◌-◌}
use mathlib.Core.Path.{◌≡◌, refl, sym, ap, ◌∙◌, subst}
use mathlib.Core.Bool.{true, false, cond, true≢false}
use mathlib.Core.Logic.{⊎_elim}
use mathlib.Core.List.{List, [], ◌∷◌}
use native.Mathlib.Omega.{arith}
use lib.ListN.{length, drop, get_or}
use lib.Dec.{eqb}
use borrow.Author.Tests.{eq-eqb, ne_eqb, eqb-true}
use Rattle.runs.proofs.Search.{true_or_false}
use Rattle.text_bytes.specs.Text.{line_feed}
use Rattle.answer_check.specs.Checking.{differ_from, first_difference}
use Rattle.promises.specs.Checks.{leading_lines, FirstDiffers}

-- So many whole lines are common to two texts, and no more; the line that is named lies that many behind the one at which the search began.
record Common (line : ℕ) (a b : List ℕ) (named : ℕ) : Type 0 where
  many : ℕ
  is : named ≡ line + many
  same : leading_lines a many ≡ leading_lines b many
  differ : leading_lines a (suc many) ≡ leading_lines b (suc many) → ⊥

no_lines : (a : List ℕ) → leading_lines a 0 ≡ []
unfolding leading_lines
no_lines [] = refl
no_lines (x ∷ a) = refl

none_common : (line : ℕ) (a b : List ℕ) → (leading_lines a 1 ≡ leading_lines b 1 → ⊥) → Common line a b line
none_common line a b differ = record { many = 0; is = omega arith; same = no_lines a ∙ sym (no_lines b); differ = differ }

-- The lines behind a byte that ends one, and behind one that does not.
module _ (x : ℕ) (a : List ℕ) (n : ℕ) where
  behind_line_here : eqb x line_feed ≡ true → leading_lines (x ∷ a) (suc n) ≡ x ∷ leading_lines a n
  unfolding leading_lines
  behind_line_here e = rw (ne_eqb (suc n) 0 (λ z. omega arith), e) (ap (λ m. x ∷ leading_lines a m) (less_one n))
    where
      less_one : (m : ℕ) → suc m - 1 ≡ m
      less_one m = omega arith

  behind_byte : eqb x line_feed ≡ false → leading_lines (x ∷ a) n ≡ cond (eqb n 0) [] (x ∷ leading_lines a n)
  unfolding leading_lines
  behind_byte e = rw e

  behind_some : eqb x line_feed ≡ false → leading_lines (x ∷ a) (suc n) ≡ x ∷ leading_lines a (suc n)
  unfolding leading_lines
  behind_some e = rw (ne_eqb (suc n) 0 (λ z. omega arith), e)

-- A byte that both have: it ends a line, or does not.
module _ (x : ℕ) (a b : List ℕ) (line named : ℕ) where
  past_line_here : eqb x line_feed ≡ true → Common (suc line) a b named → Common line (x ∷ a) (x ∷ b) named
  past_line_here e c =
      record {
        many = suc c.many;
        is = omega (arith, c.is);
        same = behind_line_here x a c.many e ∙ ap (λ t. x ∷ t) c.same ∙ sym (behind_line_here x b c.many e);
        differ = λ h. c.differ (ap (drop 1) (sym (behind_line_here x a (suc c.many) e) ∙ h ∙ behind_line_here x b (suc c.many) e));
      }

  past_byte : eqb x line_feed ≡ false → Common line a b named → Common line (x ∷ a) (x ∷ b) named
  past_byte e c =
      record {
        many = c.many;
        is = c.is;
        same = behind_byte x a c.many e ∙ ap (λ t. cond (eqb c.many 0) [] (x ∷ t)) c.same ∙ sym (behind_byte x b c.many e);
        differ = λ h. c.differ (ap (drop 1) (sym (behind_some x a c.many e) ∙ h ∙ behind_some x b c.many e));
      }

-- What is to be shown of two texts, from any place on.
abbrev FromAnyPlace : List ℕ → List ℕ → Type 0
FromAnyPlace a b = (line start at : ℕ) → (a ≡ b → ⊥) → Common line a b (differ_from line start at a b).line

same_byte : (x : ℕ) (a b : List ℕ) → FromAnyPlace a b → FromAnyPlace (x ∷ a) (x ∷ b)
unfolding differ_from
same_byte x a b ih line start at n =
    let other : a ≡ b → ⊥ = λ e. n (ap (λ t. x ∷ t) e) in
    ⊎_elim
    (λ (e : eqb x line_feed ≡ true). rw (eq-eqb x x refl, e) (past_line_here x a b line _ e (ih (suc line) (suc at) (suc at) other)))
    (λ (e : eqb x line_feed ≡ false). rw (eq-eqb x x refl, e) (past_byte x a b line _ e (ih line start (suc at) other)))
    (true_or_false (eqb x line_feed))

other_byte : (x y : ℕ) (a b : List ℕ) → eqb x y ≡ false → FromAnyPlace (x ∷ a) (y ∷ b)
unfolding differ_from leading_lines
other_byte x y a b e line start at n =
    rw e (none_common line (x ∷ a) (y ∷ b) (λ h. true≢false (sym (eq-eqb x y (ap (λ l. get_or l 0 0) h)) ∙ e)))

common : (a b : List ℕ) → FromAnyPlace a b
unfolding differ_from leading_lines
common [] [] = λ line start at n. absurd (n refl)
common [] (y ∷ b) = λ line start at n. none_common line [] (y ∷ b) (λ h. let z = ap length h in omega arith)
common (x ∷ a) [] = λ line start at n. none_common line (x ∷ a) [] (λ h. let z = ap length h in omega arith)
common (x ∷ a) (y ∷ b) =
    ⊎_elim
    (λ (e : eqb x y ≡ true). subst (λ z. FromAnyPlace (x ∷ a) (z ∷ b)) (eqb-true x y e) (same_byte x a b (common a b)))
    (λ (e : eqb x y ≡ false). other_byte x y a b e)
    (true_or_false (eqb x y))

pub first_differs : (found expected : List ℕ) → (found ≡ expected → ⊥) → FirstDiffers found expected (first_difference found expected).line
first_differs found expected n =
    let c = common found expected 1 0 0 n in
    let is : (first_difference found expected).line ≡ suc c.many = omega (arith, c.is) in
    record { before = c.many; next = is; same = c.same; differ = λ h. c.differ (rw is at h) }
