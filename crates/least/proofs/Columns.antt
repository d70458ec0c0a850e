-- Tables that are filled column by column, b rising, each column from those before it: once filled, a column stays.
use Prim.Native.Nat.{ℕ, zero, suc, ◌≤◌}
use native.Mathlib.Omega.{arith}
use native.Mathlib.Decide.{dec_le}
use native.Mathlib.Nat.{le_refl}
use mathlib.Core.Path.{◌≡◌, refl, ◌∙◌}
use mathlib.Core.Logic.{by_cases}
use Rattle.least.specs.Recurrence.{CellsOf, filledTo, filled}

-- Two tables agree in the columns up to n.
abbrev pub Agree : {A : Type 0} → CellsOf A → CellsOf A → ℕ → Type 0
Agree E F n = (a b s : ℕ) → b ≤ n → E a b s ≡ F a b s

module _ {A : Type 0} (blank : A) (next : CellsOf A → CellsOf A) where
  module _ (first : (E : CellsOf A) (a s : ℕ) → next E a 0 s ≡ blank) (same : (E F : CellsOf A) (n : ℕ) → Agree E F n → Agree (next E) (next F) (suc n)) where
    filled_stays : (f : ℕ) → Agree (filledTo blank next (suc f)) (filledTo blank next f) f
    unfolding filledTo
    filled_stays zero a b s h = let e : b ≡ 0 = omega arith in rw e (first (λ a b s. blank) a s)
    filled_stays (suc f) a b s h = same (filledTo blank next (suc f)) (filledTo blank next f) f (filled_stays f) a b s h

    pub filled_all : (f : ℕ) → Agree (filledTo blank next f) (filled blank next) f
    unfolding filled
    filled_all zero a b s h = let e : b ≡ 0 = omega arith in rw e
    filled_all (suc f) a b s h =
        by_cases
        (dec_le b f)
        (λ l. filled_stays f a b s l ∙ filled_all f a b s l)
        (λ n. let e : b ≡ suc f = omega arith in rw e)

    pub filled_first : (a s : ℕ) → filled blank next a 0 s ≡ blank
    unfolding filled filledTo
    filled_first a s = refl

    pub filled_next : (a b s : ℕ) → filled blank next a (suc b) s ≡ next (filled blank next) a (suc b) s
    unfolding filled filledTo
    filled_next a b s = same (filledTo blank next b) (filled blank next) b (filled_all b) a (suc b) s (le_refl (suc b))
