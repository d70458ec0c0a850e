-- The recurrence that a table engine computes: `value a b s` is the lowest over the choices at the window's last stop.
-- A choice is a number: 0 skips the stop, suc d starts a detour to it at suc d. The order is 0, b, b - 1, …, a + 1.
use Prim.Native.Nat.{ℕ, zero, suc, ◌+◌, ◌≤◌, ◌<◌}
use native.Mathlib.Omega.{arith}
use mathlib.Core.Path.{◌≡◌, refl, ap, sym, ◌∙◌}
use mathlib.Core.Bool.{cond}
use mathlib.Core.Logic.{◌≢◌}
use lib.Dec.{leb}
use borrow.Author.Tests.{le-leb, lt-leb}
use Rattle.least.proofs.Columns.{Agree, filled_first, filled_next}
use Rattle.least.specs.Recurrence.{CellsOf, filled, early, wait, lowest, scan, next, choice, candidate, value, Cells}
use Rattle.least.proofs.Scan.{lowest_same, lowest_scan, First, scan_all, first_skip, first_here}

module _ (L R C : ℕ → ℕ) (U : ℕ) where
  candidate_same : (E F : Cells) (a b s k : ℕ) → k ≤ suc b → Agree E F b → candidate L R C U E a b s k ≡ candidate L R C U F a b s k
  unfolding candidate
  candidate_same E F a b s zero h e = rw (e a b (s + C (suc b)) (omega arith))
  candidate_same E F a b s (suc d) h e = rw (e (suc d) b (s + C (suc b)) (omega arith), e a d s (omega arith))

  next_first : (E : Cells) (a s : ℕ) → next L R C U E a 0 s ≡ 0
  unfolding next
  next_first E a s = refl

  next_same_here : (E F : Cells) (n : ℕ) → Agree E F n → Agree (next L R C U E) (next L R C U F) (suc n)
  unfolding next
  next_same_here E F n e a zero s h = refl
  next_same_here E F n e a (suc b) s h =
      rw
      (candidate_same E F a b s 0 (omega arith) e', lowest_same (candidate L R C U E a b s) (candidate L R C U F a b s) a (suc b) (candidate L R C U F a b s 0) (λ d x y. candidate_same E F a b s (suc d) y e'))
    where
      e' : Agree E F b
      e' a b' s l = e a b' s (omega arith)

  value_next : (a b s : ℕ) → value L R C U a (suc b) s ≡ next L R C U (value L R C U) a (suc b) s
  unfolding value
  value_next = filled_next 0 (next L R C U) next_first next_same_here

  pub value_none : (a b s : ℕ) → b ≤ a → value L R C U a b s ≡ 0
  unfolding next value
  value_none a zero s h = filled_first 0 (next L R C U) next_first next_same_here a s
  value_none a (suc b) s h = value_next a b s ∙ rw (lt-leb a b h)

  pub value_step : (a b s : ℕ) → a ≤ b → value L R C U a (suc b) s ≡ lowest (candidate L R C U (value L R C U) a b s) a (suc b) (candidate L R C U (value L R C U) a b s 0)
  unfolding next
  value_step a b s h = value_next a b s ∙ rw (le-leb a b h)

  pub choice_first : (a b s : ℕ) → a ≤ b → First (candidate L R C U (value L R C U) a b s) a (suc b) (choice L R C U a b s)
  unfolding choice
  choice_first a b s h = scan_all (candidate L R C U (value L R C U) a b s) a (suc b) (omega arith)

  pub choice_value : (a b s : ℕ) → a ≤ b → candidate L R C U (value L R C U) a b s (choice L R C U a b s) ≡ value L R C U a (suc b) s
  unfolding choice
  choice_value a b s h = sym (value_step a b s h ∙ lowest_scan (candidate L R C U (value L R C U) a b s) a (suc b) 0)

  pub value_least_skip : (a b s : ℕ) → a ≤ b → value L R C U a (suc b) s ≤ early L C a (suc b) + value L R C U a b (s + C (suc b))
  unfolding candidate
  value_least_skip a b s h = omega (arith, choice_value a b s h, (choice_first a b s h).least_skip)

  pub value_least : (a b s d : ℕ) → a ≤ d → d ≤ b → value L R C U a (suc b) s ≤ wait L R C U (suc d) (suc b) s + early L C (suc d) (suc b) + value L R C U (suc d) b (s + C (suc b)) + value L R C U a d s
  unfolding candidate
  value_least a b s d h l = omega (arith, choice_value a b s (omega arith), (choice_first a b s (omega arith)).least d h (omega arith))

  -- What code that looks for the choice L R C U in the table goes by: test the skip, then suc b, b, … as long as the candidate L R C U is not the value L R C U.
  pub choice_skip : (a b s : ℕ) → a ≤ b → candidate L R C U (value L R C U) a b s 0 ≡ value L R C U a (suc b) s → choice L R C U a b s ≡ 0
  choice_skip a b s h e = first_skip (candidate L R C U (value L R C U) a b s) a (suc b) (choice L R C U a b s) (choice_first a b s h) (e ∙ sym (choice_value a b s h))

  pub choice_here : (a b s d : ℕ) → a ≤ b → d ≤ b → 0 < choice L R C U a b s → choice L R C U a b s ≤ suc d → candidate L R C U (value L R C U) a b s (suc d) ≡ value L R C U a (suc b) s → choice L R C U a b s ≡ suc d
  choice_here a b s d h l p q e = first_here (candidate L R C U (value L R C U) a b s) a (suc b) (choice L R C U a b s) (choice_first a b s h) d p q (omega arith) (e ∙ sym (choice_value a b s h))

  pub choice_not_here : (a b s k : ℕ) → a ≤ b → (candidate L R C U (value L R C U) a b s k ≡ value L R C U a (suc b) s → ⊥) → choice L R C U a b s ≢ k
  choice_not_here a b s k h n e = n (ap (candidate L R C U (value L R C U) a b s) (sym e) ∙ choice_value a b s h)
