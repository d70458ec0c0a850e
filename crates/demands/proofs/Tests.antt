-- A Boolean test and the condition that it stands for: it is true only where the condition holds, and false only where it does not.
-- Each way of joining tests joins their conditions.
use Prim.Native.Nat.{ℕ, zero, suc, ◌≤◌, ◌<◌}
use mathlib.Core.Path.{◌≡◌, refl, sym}
use mathlib.Core.Bool.{Bool, true, false, not, ◌&&◌, ◌||◌, true≢false}
use mathlib.Core.Logic.{◌⊎◌, inl, inr, ⊎_elim}
use native.Mathlib.Omega.{arith}
use lib.Dec.{leb, ltb, eqb}
use borrow.Author.Tests.{eqb-true, eqb-false, ltb-true, ltb-false, leb-true, leb-false}
use Rattle.runs.specs.Lists.{any_below}
use Rattle.runs.proofs.Search.{any_zero}

pub record Tells (test : Bool) (condition : Type 0) : Type 0 where
  pub when_true : test ≡ true → condition
  pub when_false : test ≡ false → condition → ⊥

pub tells_equal : (m n : ℕ) → Tells (eqb m n) (m ≡ n)
tells_equal m n = record { when_true = eqb-true m n; when_false = eqb-false m n }

pub tells_below : (m n : ℕ) → Tells (ltb m n) (m < n)
tells_below m n = record { when_true = ltb-true m n; when_false = λ e h. let l : n ≤ m = ltb-false m n e in omega arith }

pub tells_at_most : (m n : ℕ) → Tells (leb m n) (m ≤ n)
tells_at_most m n = record { when_true = leb-true m n; when_false = λ e h. let l : n < m = leb-false m n e in omega arith }

pub tells_not : (a : Bool) {P : Type 0} → Tells a P → Tells (not a) (P → ⊥)
tells_not true t = record { when_true = λ e. absurd (true≢false (sym e)); when_false = λ e n. n (t.when_true refl) }
tells_not false t = record { when_true = λ e. t.when_false refl; when_false = λ e. absurd (true≢false e) }

-- A test of a condition that holds.
pub tells_holds : (a : Bool) {P : Type 0} → Tells a P → P → a ≡ true
tells_holds true t p = refl
tells_holds false t p = absurd (t.when_false refl p)

-- A test by its own value.
pub tells_true : (b : Bool) → Tells b (b ≡ true)
tells_true true = record { when_true = λ e. refl; when_false = λ e h. true≢false e }
tells_true false = record { when_true = λ e. e; when_false = λ e h. true≢false (sym h) }

pub tells_false : (b : Bool) → Tells (not b) (b ≡ false)
tells_false true = record { when_true = λ e. sym e; when_false = λ e h. true≢false h }
tells_false false = record { when_true = λ e. refl; when_false = λ e h. true≢false e }

pub tells_either : (a b : Bool) {P Q : Type 0} → Tells a P → Tells b Q → Tells (a || b) (P ⊎ Q)
tells_either true b s t = record { when_true = λ e. inl (s.when_true refl); when_false = λ e. absurd (true≢false e) }
tells_either false b s t =
    record { when_true = λ e. inr (t.when_true e); when_false = λ e. ⊎_elim (s.when_false refl) (t.when_false e) }

pub tells_both : (a b : Bool) {P Q : Type 0} → Tells a P → Tells b Q → Tells (a && b) (P × Q)
tells_both true b s t = record { when_true = λ e. (s.when_true refl, t.when_true e); when_false = λ e h. t.when_false e h.1 }
tells_both false b s t = record { when_true = λ e. absurd (true≢false (sym e)); when_false = λ e h. s.when_false refl h.0 }

-- The same test for another wording of the condition.
pub tells_reworded : {a : Bool} {P Q : Type 0} → (P → Q) → (Q → P) → Tells a P → Tells a Q
tells_reworded there back t = record { when_true = λ e. there (t.when_true e); when_false = λ e q. t.when_false e (back q) }

pub tells_regrouped : {a : Bool} {P Q R : Type 0} → Tells a ((P ⊎ Q) ⊎ R) → Tells a (P ⊎ (Q ⊎ R))
tells_regrouped t =
    tells_reworded
    (⊎_elim (⊎_elim inl (λ q. inr (inl q))) (λ r. inr (inr r)))
    (⊎_elim (λ p. inl (inl p)) (⊎_elim (λ q. inl (inr q)) inr))
    t

-- Some entry below n.
module _ (test : ℕ → Bool) (condition : ℕ → Type 0) (each : (i : ℕ) → Tells (test i) (condition i)) where
  some_below : (n : ℕ) → any_below test n ≡ true → (j : ℕ) × (j < n) × condition j
  unfolding any_below
  some_below zero e = absurd (true≢false (sym e))
  some_below (suc n) e = go (any_below test n) refl (some_below n)
    where
      go : (b : Bool) → any_below test n ≡ b → (any_below test n ≡ true → (j : ℕ) × (j < n) × condition j) → (j : ℕ) × (j < suc n) × condition j
      go true h rest = let found = rest h in (found.0, omega (arith, found.1), found.2)
      go false h rest = (n, omega arith, (each n).when_true (rw h at e))

  pub tells_some : (n : ℕ) → Tells (any_below test n) ((j : ℕ) × (j < n) × condition j)
  tells_some n = record { when_true = some_below n; when_false = λ e found. (each found.0).when_false (any_zero test n e found.0 found.1) found.2 }
