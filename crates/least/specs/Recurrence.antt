-- The recurrence of a table engine, and the list that is read off its table. A tool, and not the meaning of "least": that is the property in
-- Least, which speaks of no table. The laws in proofs/ show that this list has it.
-- Stop i (from 0, left to right) starts at L i, ends at R i and is wanted C i times; U is the turn price.
use Rattle.std.specs.Prelude.{ℕ, zero, suc, ◌+◌, ◌-◌, ◌*◌, cond, List, [], ◌∷◌, ◌++◌, length, leb, ltb}
use Rattle.runs.specs.Run.{Stop}
use Rattle.runs.specs.Rows.{stop_at}
use Rattle.runs.specs.Lists.{Detour}

-- The sum of f over the numbers below n.
unfoldable pub W : (ℕ → ℕ) → ℕ → ℕ
W f zero = 0
W f (suc n) = W f n + f n

-- The lower of two numbers; the first where they are the same.
abbrev pub lower : ℕ → ℕ → ℕ
lower x y = cond (ltb y x) y x

-- A scan over the choices 0, c, c - 1, …, a + 1, f giving each choice its value: the lowest value, and the first choice that has it.
-- x is the lowest so far, and k the choice that has it.
unfoldable pub lowest : (ℕ → ℕ) → ℕ → ℕ → ℕ → ℕ
lowest f a zero x = x
lowest f a (suc d) x = cond (leb a d) (lowest f a d (lower x (f (suc d)))) x

unfoldable pub scan : (ℕ → ℕ) → ℕ → ℕ → ℕ → ℕ
scan f a zero k = k
scan f a (suc d) k = cond (leb a d) (scan f a d (cond (ltb (f (suc d)) (f k)) (suc d) k)) k

-- A table: from a, b and s to what stands there. It is filled column by column, b rising, each column from those before it.
abbrev pub CellsOf : Type 0 → Type 0
CellsOf A = ℕ → ℕ → ℕ → A

module _ {A : Type 0} (blank : A) (next : CellsOf A → CellsOf A) where
  -- The table with the columns up to f filled, and the whole.
  unfoldable pub filledTo : ℕ → CellsOf A
  filledTo zero = λ a b s. blank
  filledTo (suc f) = next (filledTo f)

  unfoldable pub filled : CellsOf A
  filled a b s = filledTo b a b s

-- A table of numbers, by a, b and s.
abbrev pub Cells : Type 0
Cells = CellsOf ℕ

-- What stop b pays when it is read by the leg from a and not by one of its own.
abbrev pub early : (ℕ → ℕ) → (ℕ → ℕ) → ℕ → ℕ → ℕ
early L C a b = 2 * (L b - L a) * C b

module _ (L R : ℕ → ℕ) (U : ℕ) where
  -- A detour from c to b delays all that is read later by this: twice its length and two turns.
  abbrev pub trip : ℕ → ℕ → ℕ
  trip c b = 2 * (U + (R b - L c))

module _ (L R C : ℕ → ℕ) (U : ℕ) where
  -- What the reads still waiting after the detour from c to b pay for it.
  abbrev pub wait : ℕ → ℕ → ℕ → ℕ
  wait c b s = trip L R U c b * (W C c + s)

  -- What a choice at stop suc b comes to, for the window (a, suc b] with s reads skipped right of it: 0 skips the stop, suc d starts a detour
  -- to it at suc d.
  unfoldable pub candidate : Cells → ℕ → ℕ → ℕ → ℕ → ℕ
  candidate E a b s zero = early L C a (suc b) + E a b (s + C (suc b))
  candidate E a b s (suc d) = wait (suc d) (suc b) s + early L C (suc d) (suc b) + E (suc d) b (s + C (suc b)) + E a d s

  unfoldable pub next : Cells → Cells
  next E a zero s = 0
  next E a (suc b) s = cond (leb a b) (lowest (candidate E a b s) a (suc b) (candidate E a b s 0)) 0

  -- The least that the window (a, b] can cost, with s reads skipped right of it: the lowest over the choices at its last stop.
  unfoldable pub value : Cells
  value = filled 0 next

  -- The choice made at stop suc b for the window (a, suc b]: the first, in the order 0, suc b, b, …, whose candidate is the window's value.
  unfoldable pub choice : ℕ → ℕ → ℕ → ℕ
  choice a b s = scan (candidate value a b s) a (suc b) 0

-- A plan over a window (a, b]: nothing; no detour ends at the last stop; or a detour from stop suc d to the last stop, what is done inside it
-- before, and the rest.
pub data Plan : Type 0 where
  empty : Plan
  skip : Plan → Plan
  detour : ℕ → Plan → Plan → Plan

-- The detours of a plan over (a, b] in the order done, F i being the file number of stop i.
unfoldable pub plan_detours : (ℕ → ℕ) → Plan → ℕ → List Detour
plan_detours F empty b = []
plan_detours F (skip p) zero = []
plan_detours F (skip p) (suc b) = plan_detours F p b
plan_detours F (detour d inner rest) zero = []
plan_detours F (detour d inner rest) (suc b) = plan_detours F inner b ++ record { from = F (suc d); to = F (suc b) } ∷ plan_detours F rest d

module _ (L R C : ℕ → ℕ) (U : ℕ) where
  -- The plan over (a, suc b] that makes the choice k at suc b, and the plan that makes every choice so.
  unfoldable pub built : CellsOf Plan → ℕ → ℕ → ℕ → ℕ → Plan
  built P a b s zero = skip (P a b (s + C (suc b)))
  built P a b s (suc d) = detour d (P (suc d) b (s + C (suc b))) (P a d s)

  unfoldable pub nextPlan : CellsOf Plan → CellsOf Plan
  nextPlan P a zero s = empty
  nextPlan P a (suc b) s = cond (leb a b) (built P a b s (choice L R C U a b s)) empty

  unfoldable pub best : CellsOf Plan
  best = filled empty nextPlan

-- The stops' file numbers, starts, ends and counts by index.
abbrev pub file_at : List Stop → ℕ → ℕ
file_at stops i = (stop_at stops i).file

abbrev pub left_at : List Stop → ℕ → ℕ
left_at stops i = (stop_at stops i).start

abbrev pub right_at : List Stop → ℕ → ℕ
right_at stops i = (stop_at stops i).end

abbrev pub count_at : List Stop → ℕ → ℕ
count_at stops i = (stop_at stops i).count

-- The plan of the table for stops 0 … n, the last leg starting at stop 0; and its list, which is the least of whatever head place.
abbrev pub best_plan : ℕ → List Stop → ℕ → Plan
best_plan price stops n = best (left_at stops) (right_at stops) (count_at stops) price 0 n 0

unfoldable pub least_list : ℕ → List Stop → List Detour
least_list price [] = []
least_list price (s ∷ ss) = plan_detours (file_at (s ∷ ss)) (best_plan price (s ∷ ss) (length ss)) (length ss)
