-- The walk: the head as a small machine, legs, movements, the time at which a movement reads a file, and the leg that does.
-- Nothing here knows of detours, plans or tables; demand 3 speaks of these movements.
use Rattle.std.specs.Prelude.{ℕ, suc, ◌+◌, ◌-◌, ◌*◌, ◌≤◌, Bool, false, cond, ◌&&◌, ◌||◌, List, [], ◌∷◌, map, leb, T}
use Rattle.walk.specs.declared.Head.{Head}
use Rattle.walk.specs.declared.Leg.{Leg}
use Rattle.walk.specs.declared.Way.{Way}
use Rattle.walk.specs.declared.Way.TheVariants.{Leftward, Rightward}
use Rattle.runs.specs.Run.{Stop}

-- The head starts at m, clock 0, set to move left.
abbrev pub head_at : ℕ → Head
head_at m = record { place = m; clock = 0; way = Leftward }

abbrev pub other_way : Way → Way
other_way Leftward = Rightward
other_way Rightward = Leftward

-- Moving costs the distance.
abbrev pub run_left : Head → ℕ → Head
run_left h to = record { place = to; clock = h.clock + (h.place - to); way = h.way }

abbrev pub run_right : Head → ℕ → Head
run_right h to = record { place = to; clock = h.clock + (to - h.place); way = h.way }

-- A turn costs the turn price.
abbrev pub turned : Head → ℕ → Head
turned h price = record { place = h.place; clock = h.clock + price; way = other_way h.way }

-- Before each later leg the head turns again: at the start it is set to move left already.
abbrev pub faced : Way → Head → ℕ → Head
faced Leftward h price = h
faced Rightward h price = turned h price

abbrev pub ready : Head → ℕ → Head
ready h price = faced h.way h price

-- A leg goes left to a position, turns there, and goes right to a position. This is the head at its turn, about to run right.
abbrev pub set_off : ℕ → Head → Leg → Head
set_off price h g = turned (run_left (ready h price) g.left) price

abbrev pub after_leg : ℕ → Head → Leg → Head
after_leg price h g = run_right (set_off price h g) g.right

-- A movement from a place: each leg goes left to a position not right of the head, and right to one not left of that turn.
abbrev pub Moves : ℕ → List Leg → Type 0
Moves p [] = Unit {0}
Moves p (g ∷ gs) = (g.left ≤ p) × (g.left ≤ g.right) × Moves g.right gs

-- The head at the end of a movement.
unfoldable pub walked : ℕ → Head → List Leg → Head
walked price h [] = h
walked price h (g ∷ gs) = walked price (after_leg price h g) gs

-- A rightward run reads a file when it starts at or left of its start and ends at or right of its end.
abbrev pub reads : Leg → Stop → Bool
reads g s = leb g.left s.start && leb s.end g.right

-- Whether a movement reads a file at all, and whether it reads all of several.
unfoldable pub served : List Leg → Stop → Bool
served [] s = false
served (g ∷ gs) s = reads g s || served gs s

unfoldable pub ServesAll : List Leg → List Stop → Type 0
ServesAll gs [] = Unit {0}
ServesAll gs (s ∷ ss) = T (served gs s) × ServesAll gs ss

-- A file is read by the first such run; its time is the clock when the head reaches its end in that run. (0 where no run reads it.)
unfoldable pub time_of : ℕ → Head → List Leg → Stop → ℕ
time_of price h [] s = 0
time_of price h (g ∷ gs) s = cond (reads g s) (run_right (set_off price h g) s.end).clock (time_of price (after_leg price h g) gs s)

-- The number of the leg that reads a file first, the first of these legs having number n. (0 where none reads it.)
unfoldable pub leg_from : ℕ → List Leg → Stop → ℕ
leg_from n [] s = 0
leg_from n (g ∷ gs) s = cond (reads g s) n (leg_from (suc n) gs s)

-- Legs are counted from 1.
abbrev pub leg_for : List Leg → Stop → ℕ
leg_for gs s = leg_from 1 gs s

-- One time and one leg for each file.
unfoldable pub times_of : ℕ → Head → List Leg → List Stop → List ℕ
times_of price h gs ss = map (time_of price h gs) ss

unfoldable pub legs_for : List Leg → List Stop → List ℕ
legs_for gs ss = map (leg_for gs) ss

-- The sum of a run: the total of count times time.
unfoldable pub sum_of : ℕ → Head → List Leg → List Stop → ℕ
sum_of price h gs [] = 0
sum_of price h gs (s ∷ ss) = s.count * time_of price h gs s + sum_of price h gs ss
