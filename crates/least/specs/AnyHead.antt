-- The least list of a run with a head anywhere: as in Least, over the lists that are well formed for that head and their walks from it.
use Rattle.std.specs.Prelude.{ℕ, ◌≤◌, ◌≡◌, ◌⊎◌, List}
use Rattle.runs.specs.Run.{Run, Stop, stops_of}
use Rattle.runs.specs.Lists.{Detour}
use Rattle.runs.specs.AnyHead.{WellFormedAny}
use Rattle.walk.specs.Walk.{head_at, sum_of}
use Rattle.walk.specs.AnyHead.{legs_any_of}
use Rattle.least.specs.Least.{ComesFirst}

-- The sum of the walk of a list from a head at m.
abbrev pub list_sum_any : ℕ → ℕ → List Stop → List Detour → ℕ
list_sum_any price m stops list = sum_of price (head_at m) (legs_any_of m stops list) stops

pub record LeastAnyFor (price m : ℕ) (stops : List Stop) (list : List Detour) : Type 0 where
  pub formed : WellFormedAny m stops list
  pub smallest : (other : List Detour) → WellFormedAny m stops other → list_sum_any price m stops list ≤ list_sum_any price m stops other
  pub first : (other : List Detour) → WellFormedAny m stops other → list_sum_any price m stops other ≡ list_sum_any price m stops list → (other ≡ list) ⊎ ComesFirst list other

abbrev pub LeastAny : Run → List Detour → Type 0
LeastAny r list = LeastAnyFor r.turn r.head (stops_of r) list
