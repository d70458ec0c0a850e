-- The plan of the table is the least of a whole run: no plan's reads take less in all, and of those that take as much it comes first.
-- The run has the stops 0 … n, the last leg starts at stop 0, and the head is at m.
use Prim.Native.Nat.{ℕ, ◌+◌, ◌≤◌}
use native.Mathlib.Omega.{arith}
use mathlib.Core.Path.{◌≡◌}
use Rattle.least.proofs.Plan.{Over}
use Rattle.least.specs.Recurrence.{Plan, value, best}
use Rattle.least.proofs.Best.{best_over, best_cost, best_least}
use Rattle.least.proofs.Ties.{NotBefore, best_first}
use Rattle.least.proofs.Times.{Spaced}
use Rattle.least.proofs.Identity.{runSum, floorSum, cost_identity}

module _ (L R C : ℕ → ℕ) (U n m : ℕ) (spaced : Spaced L R n) (reach : (i : ℕ) → i ≤ n → L i ≤ m) where
  pub best_sum : runSum L R C U (best L R C U 0 n 0) n m ≡ floorSum L R C U n m + value L R C U 0 n 0
  best_sum = omega (arith, cost_identity L R C U n spaced (best L R C U 0 n 0) m (best_over L R C U 0 n 0) reach, best_cost L R C U 0 n 0)

  pub best_sum_least : (q : Plan) → Over q 0 n → runSum L R C U (best L R C U 0 n 0) n m ≤ runSum L R C U q n m
  best_sum_least q o = omega (arith, best_sum, cost_identity L R C U n spaced q m o reach, best_least L R C U q 0 n 0 o)

  pub best_sum_first : (q : Plan) → Over q 0 n → runSum L R C U q n m ≡ runSum L R C U (best L R C U 0 n 0) n m → NotBefore q (best L R C U 0 n 0) 0 n
  best_sum_first q o e = best_first L R C U q 0 n 0 o (omega (arith, best_sum, cost_identity L R C U n spaced q m o reach))
