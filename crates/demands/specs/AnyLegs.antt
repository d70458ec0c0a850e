-- The legs of a detour list from a head anywhere, by conditions of their own: a leg for each detour, in the list's order, then the last sweep. The walk of
-- a list is the walk of these.
use Rattle.std.specs.Prelude.{ℕ, ◌+◌, ◌≤◌, ◌<◌, ◌≡◌, ◌⊎◌, List, T, length, take}
use Rattle.runs.specs.Run.{Run, stops_of}
use Rattle.runs.specs.Rows.{stop_at}
use Rattle.runs.specs.Lists.{Detour, entry_of}
use Rattle.walk.specs.declared.Leg.{Leg}
use Rattle.walk.specs.Walk.{served}
use Rattle.demands.specs.Legs.{leg_numbered}

-- The smaller of two places.
pub record IsSmaller (x y least : ℕ) : Type 0 where
  pub one : (least ≡ x) ⊎ (least ≡ y)
  pub first : least ≤ x
  pub second : least ≤ y

-- The leg of a detour from one stop to another, by their names: left to the start of the one, or only to the head's first place where that lies left of
-- it; then right to the end of the other.
pub record GoesOver (r : Run) (from to : ℕ) (g : Leg) : Type 0 where
  pub first : ℕ
  pub first_stop : first < length (stops_of r)
  pub first_name : (stop_at (stops_of r) first).file ≡ from
  pub left : IsSmaller (stop_at (stops_of r) first).start r.head g.left
  pub last : ℕ
  pub last_stop : last < length (stops_of r)
  pub last_name : (stop_at (stops_of r) last).file ≡ to
  pub right : g.right ≡ (stop_at (stops_of r) last).end

-- The last sweep, behind some legs: left to the start of the leftmost stop, or only to the head's first place; then right to the end of the rightmost stop
-- that none of these legs has read.
pub record SweepsUp (r : Run) (before : List Leg) (g : Leg) : Type 0 where
  pub left : IsSmaller (stop_at (stops_of r) 0).start r.head g.left
  pub last : ℕ
  pub last_stop : last < length (stops_of r)
  pub unread : T (served before (stop_at (stops_of r) last)) → ⊥
  pub others_read : (j : ℕ) → last < j → j < length (stops_of r) → T (served before (stop_at (stops_of r) j))
  pub right : g.right ≡ (stop_at (stops_of r) last).end

-- Where nothing is wanted a list has no legs, else one more than it has detours.
pub record AreLegsOf (r : Run) (list : List Detour) (gs : List Leg) : Type 0 where
  pub none : length (stops_of r) ≡ 0 → length gs ≡ 0
  pub many : 0 < length (stops_of r) → length gs ≡ length list + 1
  pub detours : (i : ℕ) → i < length list → GoesOver r (entry_of list i).from (entry_of list i).to (leg_numbered gs (i + 1))
  pub sweep : 0 < length (stops_of r) → SweepsUp r (take (length list) gs) (leg_numbered gs (length list + 1))
