-- A head anywhere: what the contracts call a well-formed list, the sum of a list and the least list, by the demands' own conditions: where 10 does not apply, the sum of the
-- walk of the list's legs, and least over all such walks (the other way round it is `LeastAnyMeans`).
use Rattle.std.specs.Prelude.{◌≡◌, ◌↔◌, List}
use Rattle.runs.specs.Run.{Run, stops_of}
use Rattle.runs.specs.Lists.{Detour}
use Rattle.runs.specs.AnyHead.{WellFormedAny}
use Rattle.walk.specs.declared.Leg.{Leg}
use Rattle.walk.specs.Walk.{head_at, sum_of}
use Rattle.least.specs.AnyHead.{LeastAny, list_sum_any}
use Rattle.demands.specs.AnyLegs.{AreLegsOf}
use Rattle.demands.specs.AnyHead.{NothingAppliesAny, IsFormedAny, IsLeastWalk}

abbrev pub FormedAnyMeans : Type 0
FormedAnyMeans = (r : Run) → NothingAppliesAny r → (list : List Detour) → WellFormedAny r.head (stops_of r) list ↔ IsFormedAny r list

abbrev pub SumAnyMeans : Type 0
SumAnyMeans =
    (r : Run)
    → NothingAppliesAny r
    → (list : List Detour)
    → IsFormedAny r list
    → (gs : List Leg)
    → AreLegsOf r list gs
    → list_sum_any r.turn r.head (stops_of r) list ≡ sum_of r.turn (head_at r.head) gs (stops_of r)

-- What is least is one of the well-formed lists.
abbrev pub LeastIsFormed : Type 0
LeastIsFormed = (r : Run) → NothingAppliesAny r → (list : List Detour) → LeastAny r list → IsFormedAny r list

abbrev pub LeastWalkIsLeast : Type 0
LeastWalkIsLeast = (r : Run) → NothingAppliesAny r → (list : List Detour) (gs : List Leg) → AreLegsOf r list gs → IsLeastWalk r list gs → LeastAny r list
