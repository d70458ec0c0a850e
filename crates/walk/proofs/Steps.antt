-- What the head's steps do to its place and its clock, and the lag law of a leg.
-- A head's lag is its clock, with the turn it may still have to make, plus its place: moving left it will be at x at clock lag - x.
use Prim.Native.Nat.{ℕ, ◌+◌, ◌-◌, ◌*◌, ◌≤◌}
use mathlib.Core.Path.{◌≡◌, refl, ap}
use mathlib.Core.Bool.{true, and-eq-true_iff}
use native.Mathlib.Omega.{arith}
use lib.Dec.{leb}
use borrow.Author.Tests.{leb-true}
use Rattle.walk.specs.declared.Head.{Head}
use Rattle.walk.specs.declared.Leg.{Leg}
use Rattle.walk.specs.declared.Way.{Way}
use Rattle.walk.specs.declared.Way.TheVariants.{Leftward, Rightward}
use Rattle.runs.specs.Run.{Stop}
use Rattle.walk.specs.Walk.{other_way, run_right, faced, ready, set_off, after_leg, reads}

-- To face left the head stays where it is, and pays at most one turn.
pub faced_place : (w : Way) (h : Head) (price : ℕ) → (faced w h price).place ≡ h.place
faced_place Leftward h price = refl
faced_place Rightward h price = refl

pub faced_clock : (w : Way) (h : Head) (price : ℕ) → (faced w h price).clock ≤ h.clock + price
faced_clock Leftward h price = omega arith
faced_clock Rightward h price = omega arith

pub ready_place : (h : Head) (price : ℕ) → (ready h price).place ≡ h.place
ready_place h price = faced_place h.way h price

pub ready_clock : (h : Head) (price : ℕ) → (ready h price).clock ≤ h.clock + price
ready_clock h price = faced_clock h.way h price

-- At the turn of a leg: at most two turns and the way left have been paid.
pub set_off_clock : (price : ℕ) (h : Head) (g : Leg) → (set_off price h g).clock ≤ h.clock + price + (h.place - g.left) + price
set_off_clock price h g = omega (arith, ready_place h price, ready_clock h price)

abbrev pub lag_of : ℕ → Head → ℕ
lag_of U h = (ready h U).clock + h.place

faced_left : (w : Way) (h : Head) (U : ℕ) → h.way ≡ w → other_way (faced w h U).way ≡ Rightward
faced_left Leftward h U e = ap other_way e
faced_left Rightward h U e = ap (λ w. other_way (other_way w)) e

-- After a leg the head stands at its right end, facing right, and its next move costs a turn.
after_lag : (U : ℕ) (h : Head) (g : Leg) → lag_of U (after_leg U h g) ≡ (ready h U).clock + (h.place - g.left) + U + (g.right - g.left) + U + g.right
after_lag U h g = rw (faced_left h.way h U refl, faced_place h.way h U)

module _ (U : ℕ) (h : Head) (g : Leg) where
  -- What a leg adds to the lag: twice its length and twice the turn price.
  pub lag_after_leg : g.left ≤ h.place → g.left ≤ g.right → lag_of U (after_leg U h g) ≡ lag_of U h + 2 * (U + (g.right - g.left))
  lag_after_leg l r = omega (arith, after_lag U h g)

  -- When a file is read in a leg.
  pub time_in_leg : (s : Stop) → g.left ≤ h.place → g.left ≤ s.end → (run_right (set_off U h g) s.end).clock + 2 * g.left ≡ lag_of U h + U + s.end
  time_in_leg s l r = omega (arith, faced_place h.way h U)

-- A rightward run that reads a file encloses it.
pub read_inside : (g : Leg) (s : Stop) → reads g s ≡ true → (g.left ≤ s.start) × (s.end ≤ g.right)
read_inside g s e =
    let t : (leb g.left s.start ≡ true) × (leb s.end g.right ≡ true) = (and-eq-true_iff _ _).0 e in
    (leb-true _ _ t.0, leb-true _ _ t.1)
