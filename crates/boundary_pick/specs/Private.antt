-- For the function that answers where there are no words for the texts' lengths. No public contract cites this file.
use Rattle.std.specs.Prelude.{ℕ, ◌<◌, List, length}
use Rattle.boundary_pick.specs.Calls.{PickCalled}

-- The call on any rows of which the last is too short: they stay.
abbrev pub ShortPicked : ℕ → List ℕ → List ℕ → List ℕ → List ℕ → List ℕ → List ℕ → ℕ → Type 0
ShortPicked unit name label index list head turn code =
    (out names sizes : List ℕ) → length sizes < 2 → PickCalled unit name label index list head turn out names sizes code out names sizes
