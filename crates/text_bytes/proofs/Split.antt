-- A text cut at the first of a byte, and one cut behind its key.
use Prim.Native.Nat.{ℕ}
use mathlib.Core.Path.{◌≡◌, refl, ap, sym}
use mathlib.Core.Bool.{Bool, true, false, ◌||◌, true≢false}
use mathlib.Core.List.{List, [], ◌∷◌, ◌++◌}
use native.Mathlib.Omega.{arith}
use lib.ListN.{length, drop}
use lib.Dec.{eqb}
use borrow.Author.Tests.{eqb-true, eq-eqb}
use Rattle.text_bytes.specs.Text.{has, before, behind, starts_with}
use Rattle.text_bytes.proofs.Bytes.{and_true_both}

-- A disjunction is false where each part is.
or_false_both : (a b : Bool) → (a || b) ≡ false → (a ≡ false) × (b ≡ false)
or_false_both true b e = absurd (true≢false e)
or_false_both false b e = (refl, e)

module _ (c : ℕ) where
  -- A byte behind a text without it: what stands before it and what stands behind it.
  pub has_here : (a b : List ℕ) → has c (a ++ c ∷ b) ≡ true
  unfolding has
  has_here [] b = rw (eq-eqb c c refl)
  has_here (x ∷ a) b = rw (has_here a b) (mathlib.Core.Bool.or-true (eqb x c))

  pub before_here : (a b : List ℕ) → has c a ≡ false → before c (a ++ c ∷ b) ≡ a
  unfolding has before
  before_here [] b e = rw (eq-eqb c c refl)
  before_here (x ∷ a) b e = let both = or_false_both (eqb x c) (has c a) e in rw both.0 (ap (λ t. x ∷ t) (before_here a b both.1))

  pub behind_here : (a b : List ℕ) → has c a ≡ false → behind c (a ++ c ∷ b) ≡ b
  unfolding has behind
  behind_here [] b e = rw (eq-eqb c c refl)
  behind_here (x ∷ a) b e = let both = or_false_both (eqb x c) (has c a) e in rw both.0 (behind_here a b both.1)

  -- A text that has a byte: what stands before it, the byte, and what stands behind it. No such byte stands before the first.
  pub split_at : (text : List ℕ) → has c text ≡ true → text ≡ before c text ++ (c ∷ behind c text)
  unfolding has before behind
  split_at [] e = absurd (true≢false (sym e))
  split_at (b ∷ text) e = go (eqb b c) refl (split_at text)
    where
      go : (t : Bool) → eqb b c ≡ t → (has c text ≡ true → text ≡ before c text ++ (c ∷ behind c text)) → b ∷ text ≡ before c (b ∷ text) ++ (c ∷ behind c (b ∷ text))
      go true h rest = rw h (ap (λ x. x ∷ text) (eqb-true b c h))
      go false h rest = rw h (ap (λ t. b ∷ t) (rest (rw h at e)))

  pub none_before : (text : List ℕ) → has c (before c text) ≡ false
  unfolding has before
  none_before [] = refl
  none_before (b ∷ text) = go (eqb b c) refl (none_before text)
    where
      go : (t : Bool) → eqb b c ≡ t → has c (before c text) ≡ false → has c (before c (b ∷ text)) ≡ false
      go true h rest = rw h
      go false h rest = rw (h, h) rest

-- A text that begins with a key is the key and the rest; one of the key's length is the key.
pub key_split : (key text : List ℕ) → starts_with key text ≡ true → text ≡ key ++ drop (length key) text
unfolding starts_with
key_split [] text e = refl
key_split (k ∷ key) [] e = absurd (true≢false (sym e))
key_split (k ∷ key) (b ∷ text) e =
    let both = and_true_both (eqb k b) (starts_with key text) e in
    rw (← eqb-true k b both.0) (ap (λ t. k ∷ t) (key_split key text both.1))

pub whole_key : (key text : List ℕ) → length key ≡ length text → starts_with key text ≡ true → text ≡ key
unfolding starts_with
whole_key [] [] l e = refl
whole_key [] (b ∷ text) l e = absurd (omega arith)
whole_key (k ∷ key) [] l e = absurd (omega arith)
whole_key (k ∷ key) (b ∷ text) l e =
    let both = and_true_both (eqb k b) (starts_with key text) e in
    rw (← eqb-true k b both.0) (ap (λ t. k ∷ t) (whole_key key text (omega arith) both.1))
