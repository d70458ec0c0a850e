-- Stops as they lie on a tape, and what is seen at once of the times and the lag of a plan:
-- a stop outside the plan's window keeps the time it is given, the lag only grows, and no subtraction in a time is cut off.
use Prim.Native.Nat.{ℕ, zero, suc, ◌+◌, ◌*◌, ◌≤◌, ◌<◌}
use native.Mathlib.Omega.{arith}
use mathlib.Core.Path.{◌≡◌, refl}
use mathlib.Core.Logic.{◌⊎◌, inl, inr}
use borrow.Author.Tests.{le-leb, lt-leb}
use Rattle.least.proofs.Plan.{Over, lagAfter, legTime, timeIn}
use Rattle.least.proofs.Rising.{Rises, rises_by_steps, rises_weakly}
use Rattle.least.specs.Recurrence.{Plan, empty, skip, detour, trip}

-- Stops 0 … n have a length, none starts left of the one before it, and each ends right of that one's end. They may overlap.
pub record Spaced (L R : ℕ → ℕ) (n : ℕ) : Type 0 where
  pub extends : (i : ℕ) → i ≤ n → L i < R i
  pub starts : (i : ℕ) → i < n → L i ≤ L (suc i)
  pub ends : (i : ℕ) → i < n → R i < R (suc i)

module _ (L R : ℕ → ℕ) (n : ℕ) (spaced : Spaced L R n) where
  pub starts_rise : (i j : ℕ) → i ≤ j → j ≤ n → L i ≤ L j
  starts_rise = rises_weakly L n spaced.starts

  pub ends_rise : Rises R n
  ends_rise = rises_by_steps R n spaced.ends

  -- The subtraction in the time of a leg is not cut off, for a lag that is right of its start.
  pub leg_time_exact : (U y a i : ℕ) → L a ≤ y → a ≤ i → i ≤ n → legTime L R U y a i + 2 * L a ≡ y + (U + R i)
  leg_time_exact U y a i r h l = omega (arith, spaced.extends i l, starts_rise a i h l)

module _ (L R : ℕ → ℕ) (U : ℕ) where
  -- When stop i is read, the leg from a that follows the plan reading what the plan does not.
  abbrev pub planTime : Plan → ℕ → ℕ → ℕ → ℕ → ℕ
  planTime p a b y i = timeIn L R U p b y i (legTime L R U (lagAfter L R U p b y) a i)

  pub lag_grows : (p : Plan) (b y : ℕ) → y ≤ lagAfter L R U p b y
  unfolding lagAfter
  lag_grows empty b y = omega arith
  lag_grows (skip p) zero y = omega arith
  lag_grows (skip p) (suc b) y = lag_grows p b y
  lag_grows (detour d inner rest) zero y = omega arith
  lag_grows (detour d inner rest) (suc b) y = omega (arith, lag_grows inner b y, lag_grows rest d (lagAfter L R U inner b y + trip L R U (suc d) (suc b)))

  -- A detour's leg and the plan inside it read the stops right of suc d up to the detour's end; the rest reads those left of suc d.
  module _ (d b y j e : ℕ) (inner rest : Plan) where
    pub time_in_inner : d < j → j ≤ suc b → timeIn L R U (detour d inner rest) (suc b) y j e ≡ planTime inner (suc d) b y j
    unfolding timeIn
    time_in_inner l h = rw (lt-leb j d l, le-leb j (suc b) h)

    pub time_in_rest : j ≤ d → timeIn L R U (detour d inner rest) (suc b) y j e ≡ timeIn L R U rest d (lagAfter L R U inner b y + trip L R U (suc d) (suc b)) j e
    unfolding timeIn
    time_in_rest h = rw (le-leb j d h)

  -- A plan over (a, b] reads no stop right of b and none left of its window.
  pub unread_right : (p : Plan) (a b y j e : ℕ) → Over p a b → b < j → timeIn L R U p b y j e ≡ e
  unfolding timeIn
  unread_right empty a b y j e o h = refl
  unread_right (skip p) a zero y j e o h = absurd o
  unread_right (skip p) a (suc b) y j e o h = unread_right p a b y j e o.1 (omega arith)
  unread_right (detour d inner rest) a zero y j e o h = absurd o
  unread_right (detour d inner rest) a (suc b) y j e o h = rw (lt-leb j d (omega arith), lt-leb j (suc b) h)

  pub unread_left : (p : Plan) (a b y j e : ℕ) → Over p a b → j ≤ a → timeIn L R U p b y j e ≡ e
  unfolding timeIn
  unread_left empty a b y j e o h = refl
  unread_left (skip p) a zero y j e o h = absurd o
  unread_left (skip p) a (suc b) y j e o h = unread_left p a b y j e o.1 h
  unread_left (detour d inner rest) a zero y j e o h = absurd o
  unread_left (detour d inner rest) a (suc b) y j e o h = rw (le-leb j d (omega arith)) (unread_left rest a d _ j e o.3 h)

  pub unread_outside : (p : Plan) (a b y j e : ℕ) → Over p a b → (j ≤ a) ⊎ (b < j) → timeIn L R U p b y j e ≡ e
  unread_outside p a b y j e o (inl h) = unread_left p a b y j e o h
  unread_outside p a b y j e o (inr h) = unread_right p a b y j e o h
