-- The cost identity: what a plan's reads take in all is what they take at the very least, and the plan's cost.
-- It is shown over a window with the lag open, and then for a whole run.
use Prim.Native.Nat.{ℕ, zero, suc, ◌+◌, ◌-◌, ◌*◌, ◌≤◌, ◌<◌}
use native.Mathlib.Omega.{arith}
use native.Mathlib.Decide.{dec_le}
use native.Mathlib.Nat.{le_refl}
use mathlib.Core.Path.{◌≡◌, ap, ◌∙◌}
use mathlib.Core.Logic.{by_cases}
use Rattle.least.proofs.Plan.{Over, lagAfter, legTime, timeIn}
use Rattle.least.proofs.Sums.{W-zero, W-suc, win, win_none, win_step, win_split, win_first, win_same, win_shift, W-win, W-first}
use Rattle.least.proofs.Cost.{cost}
use Rattle.least.proofs.Times.{Spaced, starts_rise, leg_time_exact, planTime, lag_grows, time_in_inner, time_in_rest, unread_right, unread_left}
use Rattle.least.proofs.Ties.{over_none}
use Rattle.least.specs.Recurrence.{Plan, empty, skip, detour, trip, W, early}

-- The algebra, over numbers alone.
leg_shift : (c t t' y y' l u : ℕ) → t + l ≡ y + u → t' + l ≡ y' + u → c * t' + y * c ≡ c * t + y' * c
leg_shift c t t' y y' l u h h' = let e : t' + y ≡ t + y' = omega arith in omega (arith, ap (λ (x : ℕ). c * x) e)

skip_sum :
    (tot f w s c y y' d la lb u t t' v : ℕ) →
    t' + 2 * la ≡ y' + u →
    t + 2 * lb ≡ y + u →
    d + la ≡ lb →
    tot + (s + c + w) * y' ≡ f + (s + c + w) * y + v →
    tot + c * t' + (s + w) * y' ≡ f + c * t + (s + w) * y + (2 * d * c + v)
skip_sum tot f w s c y y' d la lb u t t' v e₁ e₂ e₃ ih =
    let e : t' + y ≡ t + y' + 2 * d = omega arith in
    omega (arith, ih, ap (λ (x : ℕ). c * x) e)

detour_sum :
    (tr fr fr' vr ti fi ve vi w n s c y y₁ y' x t t' : ℕ) →
    tr + (s + w) * y' ≡ fr' + (s + w) * (y₁ + x) + vr →
    fr' + y * n ≡ fr + (y₁ + x) * n →
    ti + (s + (w + n + c)) * y₁ ≡ fi + (s + (w + n + c)) * y + (ve + vi) →
    c * t' + y * c ≡ c * t + y₁ * c →
    tr + (c * t' + ti) + (s + w) * y' ≡ fr + (c * t + fi) + (s + w) * y + (x * (w + n + s) + ve + vi + vr)
detour_sum tr fr fr' vr ti fi ve vi w n s c y y₁ y' x t t' h₁ h₂ h₃ h₄ = omega arith

run_sum : (tot f v c y y' t t' : ℕ) → tot + (0 + (0 + c)) * y' ≡ f + (0 + (0 + c)) * y + v → c * t' + y * c ≡ c * t + y' * c → c * t' + tot ≡ c * t + f + v
run_sum tot f v c y y' t t' h e = omega arith

module _ (L R C : ℕ → ℕ) (U : ℕ) where
  -- Count times time over the window (a, b], and the same at the very least for the lag y.
  abbrev pub readSum : Plan → ℕ → ℕ → ℕ → ℕ
  readSum p a b y = win (λ i. C i * planTime L R U p a b y i) a b

  abbrev pub leastSum : ℕ → ℕ → ℕ → ℕ
  leastSum y a b = win (λ i. C i * legTime L R U y i i) a b

  -- Count times time over the stops 0 … n of a run, and the same at the very least, for a head at m.
  abbrev pub runSum : Plan → ℕ → ℕ → ℕ
  runSum p n m = W (λ i. C i * planTime L R U p 0 n m i) (suc n)

  abbrev pub floorSum : ℕ → ℕ → ℕ
  floorSum n m = W (λ i. C i * legTime L R U m i i) (suc n)

module _ (L R C : ℕ → ℕ) (U n : ℕ) (spaced : Spaced L R n) where
  -- The head is right of every start, or was and has a lag that says so.
  abbrev Reach : ℕ → Type 0
  Reach y = (i : ℕ) → i ≤ n → L i ≤ y

  -- What a read takes at the very least moves with the lag.
  read_shift : (y y' i : ℕ) → Reach y → y ≤ y' → i ≤ n → C i * legTime L R U y' i i + y * C i ≡ C i * legTime L R U y i i + y' * C i
  read_shift y y' i r h l =
      leg_shift (C i) (legTime L R U y i i) (legTime L R U y' i i) y y' (2 * L i) (U + R i)
      (leg_time_exact L R n spaced U y i i (r i l) (le_refl i) l)
      (leg_time_exact L R n spaced U y' i i (omega (arith, r i l)) (le_refl i) l)

  least_shift : (y y' a b : ℕ) → Reach y → y ≤ y' → b ≤ n → leastSum L R C U y' a b + y * win C a b ≡ leastSum L R C U y a b + y' * win C a b
  least_shift y y' a b r h l =
      win_shift (λ i. C i * legTime L R U y i i) (λ i. C i * legTime L R U y' i i) C y y' a b (λ i k j. read_shift y y' i r h (omega arith))

  -- The identity for a plan over (a, b], with s reads skipped right of b and the lag y on arrival.
  abbrev Balanced : Plan → ℕ → ℕ → ℕ → ℕ → Type 0
  Balanced p a b s y =
      readSum L R C U p a b y + (s + W C (suc a)) * lagAfter L R U p b y ≡ leastSum L R C U y a b + (s + W C (suc a)) * y + cost L R C U p a b s

  -- A plan over (a, b] where the stop suc b is left to the leg from a too.
  abbrev Widened : Plan → ℕ → ℕ → ℕ → ℕ → Type 0
  Widened p a b s y =
      win (λ i. C i * planTime L R U p a b y i) a (suc b) + (s + W C (suc a)) * lagAfter L R U p b y
      ≡ leastSum L R C U y a (suc b) + (s + W C (suc a)) * y + (early L C a (suc b) + cost L R C U p a b (s + C (suc b)))

  widen : (p : Plan) (a b s y : ℕ) → Over p a b → a ≤ b → suc b ≤ n → Reach y → Balanced p a b (s + C (suc b)) y → Widened p a b s y
  widen p a b s y o h l r ih =
      rw
      (win_step (λ i. C i * planTime L R U p a b y i) a b h, win_step (λ i. C i * legTime L R U y i i) a b h, unread_right L R U p a b y (suc b) (legTime L R U (lagAfter L R U p b y) a (suc b)) o (le_refl (suc b)))
      (skip_sum
      (readSum L R C U p a b y)
      (leastSum L R C U y a b)
      (W C (suc a))
      s
      (C (suc b))
      y
      (lagAfter L R U p b y)
      (L (suc b) - L a)
      (L a)
      (L (suc b))
      (U + R (suc b))
      (legTime L R U y (suc b) (suc b))
      (legTime L R U (lagAfter L R U p b y) a (suc b))
      (cost L R C U p a b (s + C (suc b)))
      (leg_time_exact L R n spaced U (lagAfter L R U p b y) a (suc b) (omega (arith, r a (omega arith), lag_grows L R U p b y)) (omega arith) l)
      (leg_time_exact L R n spaced U y (suc b) (suc b) (r (suc b) l) (le_refl (suc b)) l)
      (omega (arith, starts_rise L R n spaced a (suc b) (omega arith) l))
      ih)

  -- A detour from suc b to itself has nothing inside.
  widen_none : (b s y : ℕ) → Widened empty (suc b) b s y
  unfolding lagAfter timeIn cost
  widen_none b s y =
      let e : L (suc b) - L (suc b) ≡ 0 = omega arith in
      rw
      (win_none (λ i. C i * planTime L R U empty (suc b) b y i) (suc b) (suc b) (le_refl (suc b)), win_none (λ i. C i * legTime L R U y i i) (suc b) (suc b) (le_refl (suc b)), e)
      (omega arith)

  widen_inner : (p : Plan) (a b s y : ℕ) → Over p a b → a ≤ suc b → suc b ≤ n → Reach y → Balanced p a b (s + C (suc b)) y → Widened p a b s y
  widen_inner p a b s y o h l r ih =
      by_cases
      (dec_le a b)
      (λ m. widen p a b s y o m l r ih)
      (λ n. let e : a ≡ suc b = omega arith in rw (over_none p a b o (omega arith), e) (widen_none b s y))

  -- The reads of a detour plan: those of the rest, stop suc d, and those of the inner plan with stop suc b.
  module _ (d : ℕ) (p q : Plan) (a b y : ℕ) (o : Over (detour d p q) a (suc b)) where
    read : ℕ → ℕ
    read i = C i * planTime L R U (detour d p q) a (suc b) y i

    abbrev midLag : ℕ
    midLag = lagAfter L R U p b y

    read_rest : (i : ℕ) → i ≤ d → read i ≡ C i * planTime L R U q a d (midLag + trip L R U (suc d) (suc b)) i
    unfolding read lagAfter
    read_rest i h = rw (time_in_rest L R U d b y i (legTime L R U (lagAfter L R U (detour d p q) (suc b) y) a i) p q h)

    read_inner : (i : ℕ) → d < i → i ≤ suc b → read i ≡ C i * planTime L R U p (suc d) b y i
    unfolding read
    read_inner i h l = rw (time_in_inner L R U d b y i (legTime L R U (lagAfter L R U (detour d p q) (suc b) y) a i) p q h l)

    read_start : read (suc d) ≡ C (suc d) * legTime L R U midLag (suc d) (suc d)
    read_start = read_inner (suc d) (le_refl (suc d)) (omega arith) ∙ ap (λ (x : ℕ). C (suc d) * x) (unread_left L R U p (suc d) b y (suc d) (legTime L R U midLag (suc d) (suc d)) o.2 (le_refl (suc d)))

    read_split :
        readSum L R C U (detour d p q) a (suc b) y
        ≡ readSum L R C U q a d (midLag + trip L R U (suc d) (suc b)) + (C (suc d) * legTime L R U midLag (suc d) (suc d) + win (λ i. C i * planTime L R U p (suc d) b y i) (suc d) (suc b))
    unfolding read
    read_split =
        omega (
          arith,
          win_split read a d (suc b) o.0 (omega arith),
          win_first read d (suc b) (omega arith),
          win_same read (λ i. C i * planTime L R U q a d (midLag + trip L R U (suc d) (suc b)) i) a d (λ i h l. read_rest i l),
          read_start,
          win_same read (λ i. C i * planTime L R U p (suc d) b y i) (suc d) (suc b) (λ i h l. read_inner i (omega arith) l),
        )

  least_split : (d a b y : ℕ) → a ≤ d → d ≤ b → leastSum L R C U y a (suc b) ≡ leastSum L R C U y a d + (C (suc d) * legTime L R U y (suc d) (suc d) + leastSum L R C U y (suc d) (suc b))
  least_split d a b y h l = omega (arith, win_split (λ i. C i * legTime L R U y i i) a d (suc b) h (omega arith), win_first (λ i. C i * legTime L R U y i i) d (suc b) (omega arith))

  detour_balanced :
      (d : ℕ) (p q : Plan) (a b s y : ℕ) →
      Over (detour d p q) a (suc b) →
      suc b ≤ n →
      Reach y →
      Balanced p (suc d) b (s + C (suc b)) y →
      Balanced q a d s (lagAfter L R U p b y + trip L R U (suc d) (suc b)) →
      Balanced (detour d p q) a (suc b) s y
  unfolding lagAfter cost
  detour_balanced d p q a b s y o l r hp hq =
      let y₁ = lagAfter L R U p b y in
      let grows = lag_grows L R U p b y in
      rw
      (read_split d p q a b y o, least_split d a b y o.0 o.1, W-win C a d o.0)
      (detour_sum
      (readSum L R C U q a d (y₁ + trip L R U (suc d) (suc b)))
      (leastSum L R C U y a d)
      (leastSum L R C U (y₁ + trip L R U (suc d) (suc b)) a d)
      (cost L R C U q a d s)
      (win (λ i. C i * planTime L R U p (suc d) b y i) (suc d) (suc b))
      (leastSum L R C U y (suc d) (suc b))
      (early L C (suc d) (suc b))
      (cost L R C U p (suc d) b (s + C (suc b)))
      (W C (suc a))
      (win C a d)
      s
      (C (suc d))
      y
      y₁
      (lagAfter L R U q d (y₁ + trip L R U (suc d) (suc b)))
      (trip L R U (suc d) (suc b))
      (legTime L R U y (suc d) (suc d))
      (legTime L R U y₁ (suc d) (suc d))
      hq
      (least_shift y (y₁ + trip L R U (suc d) (suc b)) a d r (omega arith) (omega arith))
      (rw (W-suc C (suc d), W-win C a d o.0) at (widen_inner p (suc d) b s y o.2 (omega arith) l r hp))
      (read_shift y y₁ (suc d) r grows (omega arith)))

  balanced : (p : Plan) (a b s y : ℕ) → Over p a b → b ≤ n → Reach y → Balanced p a b s y
  unfolding lagAfter timeIn cost
  balanced empty a b s y o l r = rw (win_none (λ i. C i * planTime L R U empty a b y i) a b o, win_none (λ i. C i * legTime L R U y i i) a b o) (omega arith)
  balanced (skip p) a zero s y o l r = absurd o
  balanced (skip p) a (suc b) s y o l r = widen p a b s y o.1 o.0 l r (balanced p a b (s + C (suc b)) y o.1 (omega arith) r)
  balanced (detour d p q) a zero s y o l r = absurd o
  balanced (detour d p q) a (suc b) s y o l r =
      let grows = lag_grows L R U p b y in
      detour_balanced d p q a b s y o l r
      (balanced p (suc d) b (s + C (suc b)) y o.2 (omega arith) r)
      (balanced q a d s (lagAfter L R U p b y + trip L R U (suc d) (suc b)) o.3 (omega arith) (λ j x. omega (arith, r j x)))

  -- Least cost is least sum: the reads of a whole run, the last leg starting at stop 0, take the floor and the plan's cost.
  pub cost_identity : (p : Plan) (m : ℕ) → Over p 0 n → ((i : ℕ) → i ≤ n → L i ≤ m) → runSum L R C U p n m ≡ floorSum L R C U n m + cost L R C U p 0 n 0
  cost_identity p m o r =
      let y = lagAfter L R U p n m in
      rw
      (W-first (λ i. C i * planTime L R U p 0 n m i) n, W-first (λ i. C i * legTime L R U m i i) n, unread_left L R U p 0 n m 0 (legTime L R U y 0 0) o (omega arith))
      (run_sum
      (readSum L R C U p 0 n m) (leastSum L R C U m 0 n) (cost L R C U p 0 n 0) (C 0) m y (legTime L R U m 0 0) (legTime L R U y 0 0)
      (rw (W-suc C 0, W-zero C) at (balanced p 0 n 0 m o (le_refl n) r))
      (read_shift m y 0 r (lag_grows L R U p n m) (omega arith)))
