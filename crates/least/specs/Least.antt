-- The tie rule of document 01 and the least list, as properties of detour lists over the walk. Nothing here computes a plan.
use Rattle.std.specs.Prelude.{ℕ, ◌≤◌, ◌<◌, ◌≡◌, cond, ◌⊎◌, List, [], ◌∷◌, eqb}
use Rattle.runs.specs.Run.{Run, Stop, stops_of}
use Rattle.walk.specs.Walk.{head_at, sum_of}
use Rattle.runs.specs.Lists.{Detour, WellFormed}
use Rattle.walk.specs.Detours.{legs_of}

-- Where the detour that ends at a file starts; 0, which is no file, where none ends there.
unfoldable pub start_for : List Detour → ℕ → ℕ
start_for [] f = 0
start_for (d ∷ ds) f = cond (eqb d.to f) d.from (start_for ds f)

-- At one end, a start c comes before a start c' (0 is none): c is none and c' is not, or both are starts and c is further right.
abbrev pub Sooner : ℕ → ℕ → Type 0
Sooner c c' = ((c ≡ 0) × (0 < c')) ⊎ ((0 < c') × (c' < c))

-- The tie rule: at the rightmost file at which the two lists differ, the first comes first.
pub record ComesFirst (l l' : List Detour) : Type 0 where
  pub file : ℕ
  pub agree : (g : ℕ) → file < g → start_for l g ≡ start_for l' g
  pub sooner : Sooner (start_for l file) (start_for l' file)

-- The sum of the walk of a list, for a head place, a turn price and stops.
abbrev pub list_sum : ℕ → ℕ → List Stop → List Detour → ℕ
list_sum price m stops list = sum_of price (head_at m) (legs_of stops list) stops

-- The least list: well formed; no well-formed list has a smaller sum; it comes first among those with its sum.
pub record LeastFor (price m : ℕ) (stops : List Stop) (list : List Detour) : Type 0 where
  pub formed : WellFormed stops list
  pub smallest : (other : List Detour) → WellFormed stops other → list_sum price m stops list ≤ list_sum price m stops other
  pub first : (other : List Detour) → WellFormed stops other → list_sum price m stops other ≡ list_sum price m stops list → (other ≡ list) ⊎ ComesFirst list other

abbrev pub LeastForRun : Run → List Detour → Type 0
LeastForRun r list = LeastFor r.turn r.head (stops_of r) list
