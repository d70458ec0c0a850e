-- The legs of a detour list's walk.
use Rattle.std.specs.Prelude.{ℕ, cond, List, [], ◌∷◌, ◌++◌, map, eqb}
use Rattle.walk.specs.declared.Leg.{Leg}
use Rattle.runs.specs.Run.{Stop}
use Rattle.runs.specs.Judging.{right_end}
use Rattle.runs.specs.Lists.{Detour}
use Rattle.walk.specs.Walk.{served}

-- Where a wanted file starts and where it ends.
unfoldable pub start_of : List Stop → ℕ → ℕ
start_of [] f = 0
start_of (s ∷ ss) f = cond (eqb s.file f) s.start (start_of ss f)

unfoldable pub end_of : List Stop → ℕ → ℕ
end_of [] f = 0
end_of (s ∷ ss) f = cond (eqb s.file f) s.end (end_of ss f)

abbrev pub leg_of : List Stop → Detour → Leg
leg_of stops d = record { left = start_of stops d.from; right = end_of stops d.to }

-- The end of the last of several stops, left to right, that no leg of a movement has read; e where each of them has been read.
unfoldable pub unread_end : List Leg → List Stop → ℕ → ℕ
unread_end gs [] e = e
unread_end gs (s ∷ ss) e = unread_end gs ss (cond (served gs s) e s.end)

-- Where the last sweep ends, after these legs: at the end of the rightmost wanted file that none of them has read. Detours start right of
-- the leftmost wanted file, so that one is always left to read.
unfoldable pub sweep_end : List Leg → List Stop → ℕ
sweep_end gs [] = 0
sweep_end gs (s ∷ ss) = unread_end gs ss s.end

-- The last sweep: left to the start of the leftmost wanted file, right to the end of the rightmost wanted file that no detour has read.
-- None where nothing is wanted.
unfoldable pub last_sweep : List Stop → List Detour → List Leg
last_sweep [] list = []
last_sweep (s ∷ ss) list = record { left = s.start; right = sweep_end (map (leg_of (s ∷ ss)) list) (s ∷ ss) } ∷ []

-- The legs of a list: its detours in the order done, then the last sweep.
unfoldable pub legs_of : List Stop → List Detour → List Leg
legs_of stops list = map (leg_of stops) list ++ last_sweep stops list

-- A sweep that runs on to the rightmost wanted file, whether a detour has read it or not, and the legs of a list with that sweep. No answer
-- is made of them: that no time depends on it is a law.
unfoldable pub full_sweep : List Stop → List Leg
full_sweep [] = []
full_sweep (s ∷ ss) = record { left = s.start; right = right_end (s ∷ ss) } ∷ []

unfoldable pub full_legs_of : List Stop → List Detour → List Leg
full_legs_of stops list = map (leg_of stops) list ++ full_sweep stops
