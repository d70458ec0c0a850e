-- The recurrence at stop b + 1, in the terms of the code: what a choice comes to.
use Prim.Native.Nat.{ℕ, zero, suc, ◌+◌, ◌-◌, ◌<◌}
use mathlib.Core.Path.{◌≡◌, refl}
use native.Mathlib.Omega.{arith}
use Rattle.least.specs.Recurrence.{early, wait, Cells, candidate}

module _ (L R C : ℕ → ℕ) (U : ℕ) where
  pub candidate_skip : (E : Cells) (a b s : ℕ) → candidate L R C U E a b s 0 ≡ early L C a (suc b) + E a b (s + C (suc b))
  unfolding candidate
  candidate_skip E a b s = refl

  pub candidate_detour : (E : Cells) (a b s c : ℕ) → 0 < c
      → candidate L R C U E a b s c ≡ wait L R C U c (suc b) s + early L C c (suc b) + E c b (s + C (suc b)) + E a (c - 1) s
  unfolding candidate
  candidate_detour E a b s zero h = absurd (omega arith)
  candidate_detour E a b s (suc d) h = let e : suc d - 1 ≡ d = omega arith in rw e
