-- What a plan costs above the unavoidable: over the window (a, b], with s reads skipped right of b.
-- Stop i starts at L i, ends at R i and is wanted C i times; W C i are the reads of all stops left of i; U is the turn price.
use Prim.Native.Nat.{ℕ, zero, suc, ◌+◌, ◌-◌, ◌*◌}
use Rattle.least.specs.Recurrence.{Plan, empty, skip, detour, trip, W, early, wait}

module _ (L R C : ℕ → ℕ) (U : ℕ) where
  unfoldable pub cost : Plan → ℕ → ℕ → ℕ → ℕ
  cost empty a b s = 0
  cost (skip p) a zero s = 0
  cost (skip p) a (suc b) s = early L C a (suc b) + cost p a b (s + C (suc b))
  cost (detour d inner rest) a zero s = 0
  cost (detour d inner rest) a (suc b) s = wait L R C U (suc d) (suc b) s + early L C (suc d) (suc b) + cost inner (suc d) b (s + C (suc b)) + cost rest a d s
