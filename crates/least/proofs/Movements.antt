-- What any movement obeys: the floor and pair laws for the times at which a movement reads two stops.
use Prim.Native.Nat.{ℕ, ◌+◌, ◌-◌, ◌*◌, ◌≤◌}
use mathlib.Core.Path.{◌≡◌, subst, sym, ◌∙◌}
use mathlib.Core.Bool.{true, false, ◌||◌, true≢false}
use mathlib.Core.Logic.{◌⊎◌, inl, inr, ⊎_elim, by_cases}
use mathlib.Core.List.{List, [], ◌∷◌}
use native.Mathlib.Omega.{arith}
use native.Mathlib.Decide.{dec_le}
use lib.Dec.{T}
use borrow.Author.Tests.{le-leb}
use Rattle.walk.specs.declared.Head.{Head}
use Rattle.walk.specs.declared.Way.{Way}
use Rattle.walk.specs.declared.Way.TheVariants.{Leftward, Rightward}
use Rattle.runs.specs.Run.{Stop}
use Rattle.walk.specs.declared.Leg.{Leg}
use Rattle.runs.proofs.Search.{true_or_false}
use Rattle.walk.proofs.Steps.{faced_place, lag_of, lag_after_leg, time_in_leg, read_inside}
use Rattle.walk.specs.Walk.{head_at, faced, ready, run_right, set_off, after_leg, Moves, reads, served, time_of}

pub faced_later : (w : Way) (h : Head) (U : ℕ) → h.clock ≤ (faced w h U).clock
faced_later Leftward h U = omega arith
faced_later Rightward h U = omega arith

pub after_clock : (U : ℕ) (h : Head) (g : Leg) → (after_leg U h g).clock ≡ (ready h U).clock + (h.place - g.left) + U + (g.right - g.left)
after_clock U h g = rw (faced_place h.way h U)

served_later : (g : Leg) (gs : List Leg) (s : Stop) → reads g s ≡ false → T (served (g ∷ gs) s) → T (served gs s)
unfolding served
served_later g gs s e t = subst (λ b. T (b || served gs s)) e t

module _ (U : ℕ) (h : Head) (g : Leg) (gs : List Leg) (s : Stop) where
  pub time_when_read : reads g s ≡ true → time_of U h (g ∷ gs) s ≡ (run_right (set_off U h g) s.end).clock
  unfolding time_of
  time_when_read e = rw e

  pub time_when_not : reads g s ≡ false → time_of U h (g ∷ gs) s ≡ time_of U (after_leg U h g) gs s
  unfolding time_of
  time_when_not e = rw e

  -- The first leg reads the stop, at a time that its lag gives.
  pub read_at : g.left ≤ h.place → s.start ≤ s.end → reads g s ≡ true → time_of U h (g ∷ gs) s + 2 * g.left ≡ lag_of U h + U + s.end
  read_at l o e =
      let i : (g.left ≤ s.start) × (s.end ≤ g.right) = read_inside g s e in
      rw (time_when_read e) (time_in_leg U h g s l (omega arith))

module _ (U : ℕ) (s : Stop) (o : s.start ≤ s.end) where
  -- No stop is read before the floor: the lag on arrival never falls.
  floor_from : (h : Head) (gs : List Leg) → Moves h.place gs → T (served gs s) → lag_of U h + U + s.end ≤ time_of U h gs s + 2 * s.start
  unfolding served
  floor_from h [] v t = absurd t
  floor_from h (g ∷ gs) v t =
      ⊎_elim
      (λ e. let i : (g.left ≤ s.start) × (s.end ≤ g.right) = read_inside g s e in omega (arith, read_at U h g gs s v.0 o e))
      (λ e. omega (arith, floor_from (after_leg U h g) gs v.2 (served_later g gs s e t), lag_after_leg U h g v.0 v.1, time_when_not U h g gs s e))
      (true_or_false (reads g s))

  -- Nor does the clock less the place, at each turn to the right.
  lead_from : (h : Head) (gs : List Leg) → Moves h.place gs → T (served gs s) → h.clock + s.end ≤ time_of U h gs s + h.place
  unfolding served
  lead_from h [] v t = absurd t
  lead_from h (g ∷ gs) v t =
      ⊎_elim
      (λ e. let i : (g.left ≤ s.start) × (s.end ≤ g.right) = read_inside g s e in omega (arith, read_at U h g gs s v.0 o e, faced_later h.way h U))
      (λ e. omega (arith, lead_from (after_leg U h g) gs v.2 (served_later g gs s e t), after_clock U h g, faced_later h.way h U, time_when_not U h g gs s e))
      (true_or_false (reads g s))

-- The pair law for a stop from l to r read at t and one that ends at r', read at t': the first was passed first, or the second was and the head came back.
abbrev pub PairLaw : ℕ → ℕ → ℕ → ℕ → ℕ → ℕ → Type 0
PairLaw U l r r' t t' = (t + r' ≤ t' + r) ⊎ (t' + 2 * U + r' + r ≤ t + 2 * l)

module _ (U : ℕ) (g f : Stop) (og : g.start ≤ g.end) (of : f.start ≤ f.end) where
  -- The first leg reads g, and f at the same time or later.
  pair_left_first : (h : Head) (x : Leg) (xs : List Leg) → Moves h.place (x ∷ xs) → T (served (x ∷ xs) f) → reads x g ≡ true → time_of U h (x ∷ xs) g + f.end ≤ time_of U h (x ∷ xs) f + g.end
  pair_left_first h x xs v t e =
      ⊎_elim
      (λ d. omega (arith, read_at U h x xs g v.0 og e, read_at U h x xs f v.0 of d))
      (λ d.
      let i : (x.left ≤ g.start) × (g.end ≤ x.right) = read_inside x g e in
      omega (arith, read_at U h x xs g v.0 og e, lead_from U f of (after_leg U h x) xs v.2 (served_later x xs f d t), after_clock U h x, time_when_not U h x xs f d))
      (true_or_false (reads x f))

  -- The first leg reads f and not g: the head has to come back.
  pair_right_first : (h : Head) (x : Leg) (xs : List Leg) → Moves h.place (x ∷ xs) → T (served (x ∷ xs) g) → reads x f ≡ true → reads x g ≡ false → time_of U h (x ∷ xs) f + 2 * U + f.end + g.end ≤ time_of U h (x ∷ xs) g + 2 * g.start
  pair_right_first h x xs v t e d =
      let i : (x.left ≤ f.start) × (f.end ≤ x.right) = read_inside x f e in
      omega (arith, read_at U h x xs f v.0 of e, floor_from U g og (after_leg U h x) xs v.2 (served_later x xs g d t), lag_after_leg U h x v.0 v.1, time_when_not U h x xs g d)

  pair_from : (h : Head) (xs : List Leg) → Moves h.place xs → T (served xs g) → T (served xs f) → PairLaw U g.start g.end f.end (time_of U h xs g) (time_of U h xs f)
  unfolding served
  pair_from h [] v tg tf = absurd tg
  pair_from h (x ∷ xs) v tg tf =
      ⊎_elim
      (λ e. inl (pair_left_first h x xs v tf e))
      (λ e.
      ⊎_elim
      (λ d. inr (pair_right_first h x xs v tg d e))
      (λ d.
      rw (time_when_not U h x xs g e, time_when_not U h x xs f d)
      (pair_from (after_leg U h x) xs v.2 (served_later x xs g e tg) (served_later x xs f d tf)))
      (true_or_false (reads x f)))
      (true_or_false (reads x g))

-- Where every leg that reads f reads g too, as long as g has not been read, g is passed first. So it is where g lies inside f, and where g is a
-- place that the head has yet to come to, left of f's end.
reads_both : (x : Leg) (g : Stop) → x.left ≤ g.start → g.end ≤ x.right → reads x g ≡ true
reads_both x g l r = rw (le-leb x.left g.start l, le-leb g.end x.right r)

pub served_inside : (g f : Stop) → f.start ≤ g.start → g.end ≤ f.end → (xs : List Leg) → T (served xs f) → T (served xs g)
unfolding served
served_inside g f l r [] t = absurd t
served_inside g f l r (x ∷ xs) t =
    ⊎_elim
    (λ e. rw e tt)
    (λ e.
    rw e
    (served_inside g f l r xs
    (served_later x xs f
    (⊎_elim (λ d. let i = read_inside x f d in absurd (true≢false (sym (reads_both x g (omega arith) (omega arith)) ∙ e))) (λ d. d) (true_or_false (reads x f)))
    t)))
    (true_or_false (reads x g))

module _ (U : ℕ) (g f : Stop) (og : g.start ≤ g.end) (of : f.start ≤ f.end) (within : g.end ≤ f.end) where
  abbrev Ahead : Head → Type 0
  Ahead h = (f.start ≤ g.start) ⊎ ((g.end ≤ g.start) × (h.place ≤ g.start))

  still_ahead : (h : Head) (x : Leg) → x.left ≤ h.place → Ahead h → reads x g ≡ false → Ahead (after_leg U h x)
  still_ahead h x l (inl a) e = inl a
  still_ahead h x l (inr a) e =
      inr (a.0, by_cases (dec_le g.end x.right) (λ r. absurd (true≢false (sym (reads_both x g (omega arith) r) ∙ e))) (λ r. omega arith))

  neither_reads : (h : Head) (x : Leg) → x.left ≤ h.place → Ahead h → reads x g ≡ false → reads x f ≡ false
  neither_reads h x l a e =
      ⊎_elim
      (λ d.
      let i = read_inside x f d in
      let low : x.left ≤ g.start = ⊎_elim (λ b. omega arith) (λ b. omega arith) a in
      absurd (true≢false (sym (reads_both x g low (omega arith)) ∙ e)))
      (λ d. d)
      (true_or_false (reads x f))

  pub passed_first : (h : Head) (xs : List Leg) → Moves h.place xs → T (served xs f) → Ahead h → time_of U h xs g + f.end ≤ time_of U h xs f + g.end
  unfolding served
  passed_first h [] v t a = absurd t
  passed_first h (x ∷ xs) v t a =
      ⊎_elim
      (λ e. pair_left_first U g f og of h x xs v t e)
      (λ e.
      let d : reads x f ≡ false = neither_reads h x v.0 a e in
      rw (time_when_not U h x xs g e, time_when_not U h x xs f d)
      (passed_first (after_leg U h x) xs v.2 (served_later x xs f d t) (still_ahead h x v.0 a e)))
      (true_or_false (reads x g))

-- From the head's own start, whose lag is its place.
module _ (U m : ℕ) (xs : List Leg) (v : Moves m xs) where
  pub floor_of_movement : (s : Stop) → s.start ≤ s.end → T (served xs s) → m + U + s.end ≤ time_of U (head_at m) xs s + 2 * s.start
  floor_of_movement s o t = omega (arith, floor_from U s o (head_at m) xs v t)

  pub pair_of_movement : (g f : Stop) → g.start ≤ g.end → f.start ≤ f.end → T (served xs g) → T (served xs f) → PairLaw U g.start g.end f.end (time_of U (head_at m) xs g) (time_of U (head_at m) xs f)
  pair_of_movement g f og of tg tf = pair_from U g f og of (head_at m) xs v tg tf

-- The head is set to move left, so that it must turn: from whatever place, no stop is read before the turn and the way to its end.
pub turn_of_movement : (U m : ℕ) (xs : List Leg) → Moves m xs → (s : Stop) → s.start ≤ s.end → T (served xs s) → U + s.end ≤ time_of U (head_at m) xs s + m
unfolding served
turn_of_movement U m [] v s o t = absurd t
turn_of_movement U m (x ∷ xs) v s o t =
    ⊎_elim
    (λ e. omega (arith, read_at U (head_at m) x xs s v.0 o e))
    (λ e.
    omega (
      arith,
      lead_from U s o (after_leg U (head_at m) x) xs v.2 (served_later x xs s e t),
      after_clock U (head_at m) x,
      time_when_not U (head_at m) x xs s e,
    ))
    (true_or_false (reads x s))
