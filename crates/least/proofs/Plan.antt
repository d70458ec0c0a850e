-- Plans: the tree behind a well-formed list. Stops are numbered 0, 1, 2, … from the left; stop i starts at L i and ends at R i.
-- A plan over the window (a, b] is walked from the right, with a leg that starts at a and passes b still to come.
use Prim.Native.Nat.{ℕ, zero, suc, ◌+◌, ◌-◌, ◌*◌, ◌≤◌, ◌<◌}
use native.Mathlib.Omega.{arith}
use mathlib.Core.Bool.{cond}
use mathlib.Core.List.{List, [], ◌∷◌, ◌++◌}
use lib.ListN.{length, length-append}
use lib.Dec.{leb}
use Rattle.least.specs.Recurrence.{Plan, empty, skip, detour, trip, plan_detours}

-- The plan fits the window (a, b].
abbrev pub Over : Plan → ℕ → ℕ → Type 0
Over empty a b = b ≤ a
Over (skip p) a zero = ⊥
Over (skip p) a (suc b) = (a ≤ b) × Over p a b
Over (detour d inner rest) a zero = ⊥
Over (detour d inner rest) a (suc b) = (a ≤ d) × (d ≤ b) × Over inner (suc d) b × Over rest a d

-- Each detour of the plan starts right of where the stop before its own starts, so that its leg reads no stop left of its own.
abbrev pub Owned : (ℕ → ℕ) → Plan → Type 0
Owned L empty = Unit {0}
Owned L (skip p) = Owned L p
Owned L (detour d inner rest) = (L d < L (suc d)) × Owned L inner × Owned L rest

-- Where each stop starts right of the one before it, every plan is such.
pub owned_all : (L : ℕ → ℕ) (n : ℕ) → ((i : ℕ) → i < n → L i < L (suc i)) → (p : Plan) (a b : ℕ) → Over p a b → b ≤ n → Owned L p
owned_all L n up empty a b o h = tt
owned_all L n up (skip p) a zero o h = absurd o
owned_all L n up (skip p) a (suc b) o h = owned_all L n up p a b o.1 (omega arith)
owned_all L n up (detour d inner rest) a zero o h = absurd o
owned_all L n up (detour d inner rest) a (suc b) o h =
    (up d (omega arith), owned_all L n up inner (suc d) b o.2 (omega arith), owned_all L n up rest a d o.3 (omega arith))

-- A plan over (a, b] lists at most b - a detours.
pub listed_few : (F : ℕ → ℕ) (p : Plan) (a b : ℕ) → Over p a b → length (plan_detours F p b) ≤ b - a
unfolding plan_detours
listed_few F empty a b o = omega arith
listed_few F (skip p) a zero o = absurd o
listed_few F (skip p) a (suc b) o = omega (arith, listed_few F p a b o.1)
listed_few F (detour d inner rest) a zero o = absurd o
listed_few F (detour d inner rest) a (suc b) o =
    omega (arith, length-append (plan_detours F inner b) (record { from = F (suc d); to = F (suc b) } ∷ plan_detours F rest d), listed_few F inner (suc d) b o.2, listed_few F rest a d o.3, o.0, o.1)

-- The start, as a stop, of the plan's detour that ends at stop j; 0 where none does.
unfoldable pub start_in : Plan → ℕ → ℕ → ℕ
start_in empty b j = 0
start_in (skip p) zero j = 0
start_in (skip p) (suc b) j = start_in p b j
start_in (detour d inner rest) zero j = 0
start_in (detour d inner rest) (suc b) j = cond (leb j d) (start_in rest d j) (cond (leb j b) (start_in inner b j) (cond (leb j (suc b)) (suc d) 0))

module _ (L R : ℕ → ℕ) (U : ℕ) where
  -- A head that moves left with lag y is at x at clock y - x. The lag after the plan's detours, for a head that arrives with lag y.
  unfoldable pub lagAfter : Plan → ℕ → ℕ → ℕ
  lagAfter empty b y = y
  lagAfter (skip p) zero y = y
  lagAfter (skip p) (suc b) y = lagAfter p b y
  lagAfter (detour d inner rest) zero y = y
  lagAfter (detour d inner rest) (suc b) y = lagAfter rest d (lagAfter inner b y + trip L R U (suc d) (suc b))

  -- When a leg that starts at stop c with lag y reads stop j.
  abbrev pub legTime : ℕ → ℕ → ℕ → ℕ
  legTime y c j = y + U + R j - 2 * L c

  -- When the plan reads stop j, for a head that arrives with lag y; e where the plan does not read it.
  unfoldable pub timeIn : Plan → ℕ → ℕ → ℕ → ℕ → ℕ
  timeIn empty b y j e = e
  timeIn (skip p) zero y j e = e
  timeIn (skip p) (suc b) y j e = timeIn p b y j e
  timeIn (detour d inner rest) zero y j e = e
  timeIn (detour d inner rest) (suc b) y j e =
      cond (leb j d)
      (timeIn rest d (lagAfter inner b y + trip L R U (suc d) (suc b)) j e)
      (cond (leb j (suc b)) (timeIn inner b y j (legTime (lagAfter inner b y) (suc d) j)) e)
