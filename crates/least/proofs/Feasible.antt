-- Times that any movement obeys: feasible times. A movement's own times are feasible; feasible times stay feasible for a head further left,
-- a lower price and fewer stops; and for any feasible times some plan reads every stop no later.
use Prim.Native.Nat.{ℕ, zero, suc, ◌+◌, ◌-◌, ◌*◌, ◌≤◌, ◌<◌}
use mathlib.Core.Path.{◌≡◌}
use mathlib.Core.Logic.{◌⊎◌, inl, inr, ⊎_elim, by_cases}
use mathlib.Core.List.{List}
use native.Mathlib.Omega.{arith}
use native.Mathlib.Decide.{dec_le, dec_lt}
use lib.Dec.{T}
use Rattle.runs.specs.Run.{Stop}
use Rattle.walk.specs.declared.Leg.{Leg}
use Rattle.walk.specs.Walk.{head_at, Moves, served, time_of}
use Rattle.least.proofs.Plan.{Over, lagAfter, legTime, timeIn}
use Rattle.least.proofs.Rising.{Rises}
use Rattle.least.proofs.Times.{Spaced, starts_rise, planTime, unread_outside, time_in_inner, time_in_rest}
use Rattle.least.proofs.Movements.{PairLaw, floor_of_movement, pair_of_movement}
use Rattle.least.specs.Recurrence.{Plan, empty, skip, detour, trip}

-- A time for each of the stops 0 … n that obeys the floor and pair laws.
pub record Feasible (m U : ℕ) (L R : ℕ → ℕ) (n : ℕ) (t : ℕ → ℕ) : Type 0 where
  pub floor : (i : ℕ) → i ≤ n → m + U + R i ≤ t i + 2 * L i
  pub pair : (i j : ℕ) → i < j → j ≤ n → PairLaw U (L i) (R i) (R j) (t i) (t j)

pub feasible_of_movement : (U m : ℕ) (xs : List Leg) → Moves m xs → (s : ℕ → Stop) (n : ℕ)
    → ((i : ℕ) → i ≤ n → (s i).start ≤ (s i).end)
    → ((i : ℕ) → i ≤ n → T (served xs (s i)))
    → Feasible m U (λ i. (s i).start) (λ i. (s i).end) n (λ i. time_of U (head_at m) xs (s i))
feasible_of_movement U m xs v s n o t =
    record {
      floor = λ i h. floor_of_movement U m xs v (s i) (o i h) (t i h);
      pair = λ i j l h. pair_of_movement U m xs v (s i) (s j) (o i (omega arith)) (o j h) (t i (omega arith)) (t j h);
    }

module _ (m U : ℕ) (L R : ℕ → ℕ) (n : ℕ) (t : ℕ → ℕ) (ok : Feasible m U L R n t) where
  pub feasible_below : (m' U' : ℕ) → m' ≤ m → U' ≤ U → Feasible m' U' L R n t
  feasible_below m' U' hm hU =
      record {
        floor = λ i h. omega (arith, ok.floor i h);
        pair = λ i j l h. ⊎_elim (λ e. inl e) (λ e. inr (omega arith)) (ok.pair i j l h);
      }

  -- A part of the stops, picked by a rising map.
  pub feasible_part : (L' R' φ : ℕ → ℕ) (n' : ℕ)
      → Rises φ n'
      → ((i : ℕ) → i ≤ n' → (φ i ≤ n) × (L (φ i) ≡ L' i) × (R (φ i) ≡ R' i))
      → Feasible m U L' R' n' (λ i. t (φ i))
  feasible_part L' R' φ n' rises part =
      record {
        floor = λ i h. omega (arith, part i h, ok.floor (φ i) (part i h).0);
        pair = λ i j l h.
            rw (← (part i (omega arith)).1, ← (part i (omega arith)).2, ← (part j h).2) (ok.pair (φ i) (φ j) (rises i j l h) (part j h).0);
      }

module _ (L R : ℕ → ℕ) (U n : ℕ) (t : ℕ → ℕ) (spaced : Spaced L R n) (kinds : (i j : ℕ) → i < j → j ≤ n → PairLaw U (L i) (R i) (R j) (t i) (t j)) where
  -- Every stop from a to d is of the second kind against hi.
  abbrev Seconds : ℕ → ℕ → ℕ → Type 0
  Seconds a d hi = (j : ℕ) → a ≤ j → j ≤ d → t hi + 2 * U + R hi + R j ≤ t j + 2 * L j

  -- Where the detour that ends at suc b starts: at suc d, the first stop right of a that is of the first kind against suc b, or suc b itself.
  record Start (a b : ℕ) : Type 0 where
    d : ℕ
    low : a ≤ d
    high : d ≤ b
    seconds : Seconds a d (suc b)
    first : t (suc d) + R (suc b) ≤ t (suc b) + R (suc d)

  find_start : (k a d b : ℕ) → d + k ≡ b → a ≤ d → suc b ≤ n → Seconds a d (suc b) → Start a b
  find_start zero a d b e l h s = record { d = d; low = l; high = omega arith; seconds = s; first = let q : d ≡ b = omega arith in rw q (omega arith) }
  find_start (suc k) a d b e l h s =
      ⊎_elim
      (λ f. record { d = d; low = l; high = omega arith; seconds = s; first = f })
      (λ f.
      find_start k a (suc d) b (omega arith) (omega arith) h
      (λ j g i. by_cases (dec_le j d) (s j g) (λ w. let q : suc d ≡ j = omega arith in rw q at f)))
      (kinds (suc d) (suc b) (omega arith) h)

  -- A head that arrives with lag y can still read stop j in time, in a leg that starts there.
  abbrev Reaches : ℕ → ℕ → Type 0
  Reaches y j = y + U + R j ≤ t j + 2 * L j

  -- A plan over (a, b] that reads no stop of it later than t, and leaves time for the leg that starts at a.
  record Built (a b y : ℕ) : Type 0 where
    plan : Plan
    over : Over plan a b
    start : Reaches (lagAfter L R U plan b y) a
    timely : (j : ℕ) → a < j → j ≤ b → planTime L R U plan a b y j ≤ t j

  -- A leg from a stop that is reached in time reads, in time, every stop of the first kind against it.
  leg_in_time : (y c j : ℕ) → Reaches y c → t c + R j ≤ t j + R c → legTime L R U y c j ≤ t j
  leg_in_time y c j r f = omega arith

  build_none : (a b y : ℕ) → b ≤ a → Reaches y a → Built a b y
  unfolding lagAfter
  build_none a b y h r = record { plan = empty; over = h; start = r; timely = λ j l i. absurd (omega arith) }

  -- The leg from a reads in time what stands outside the plan's window and is of the first kind against a, as a itself is.
  outside_timely : (a b y j : ℕ) (w : Built a b y) → (j ≤ a) ⊎ (b < j) → t a + R j ≤ t j + R a → planTime L R U w.plan a b y j ≤ t j
  outside_timely a b y j w out f =
      rw
      (unread_outside L R U w.plan a b y j (legTime L R U (lagAfter L R U w.plan b y) a j) w.over out)
      (leg_in_time (lagAfter L R U w.plan b y) a j w.start f)

  start_timely : (a b y j : ℕ) (w : Built a b y) → j ≡ a → planTime L R U w.plan a b y j ≤ t j
  start_timely a b y j w e = outside_timely a b y j w (inl (omega arith)) (rw e (omega arith))

  end_timely : (a b y j : ℕ) (w : Built a b y) → t a + R (suc b) ≤ t (suc b) + R a → j ≡ suc b → planTime L R U w.plan a b y j ≤ t j
  end_timely a b y j w f e = outside_timely a b y j w (inr (omega arith)) (rw e f)

  build_skip : (a b y : ℕ) → a ≤ b → t a + R (suc b) ≤ t (suc b) + R a → Built a b y → Built a (suc b) y
  unfolding lagAfter timeIn
  build_skip a b y h f w =
      record {
        plan = skip w.plan;
        over = (h, w.over);
        start = w.start;
        timely = λ j l i. by_cases (dec_le j b) (w.timely j l) (λ g. end_timely a b y j w f (omega arith));
      }

  -- A detour's own stops: its first, those its inner plan may read, and its last.
  inner_timely : (d b y j : ℕ) (w : Built (suc d) b y) → t (suc d) + R (suc b) ≤ t (suc b) + R (suc d) → d < j → j ≤ suc b
      → planTime L R U w.plan (suc d) b y j ≤ t j
  inner_timely d b y j w f l h =
      by_cases (dec_le j b)
      (λ i. by_cases (dec_lt (suc d) j) (λ g. w.timely j g i) (λ g. start_timely (suc d) b y j w (omega arith)))
      (λ i. end_timely (suc d) b y j w f (omega arith))

  -- The lag after a detour leaves time for every stop of the second kind against its end.
  second_reached : (y d b j : ℕ) → d ≤ b → suc b ≤ n → Reaches y (suc d) → t (suc d) + R (suc b) ≤ t (suc b) + R (suc d)
      → t (suc b) + 2 * U + R (suc b) + R j ≤ t j + 2 * L j → Reaches (y + trip L R U (suc d) (suc b)) j
  second_reached y d b j l h r f s = omega (arith, starts_rise L R n spaced (suc d) (suc b) (omega arith) h, spaced.extends (suc b) h)

  build_detour : (a b y : ℕ) (st : Start a b) (w : Built (suc st.d) b y)
      → Built a st.d (lagAfter L R U w.plan b y + trip L R U (suc st.d) (suc b)) → Built a (suc b) y
  unfolding lagAfter
  build_detour a b y st w v =
      record {
        plan = detour st.d w.plan v.plan;
        over = (st.low, st.high, w.over, v.over);
        start = v.start;
        timely = λ j l i.
            by_cases (dec_le j st.d)
            (λ g. rw (time_in_rest L R U st.d b y j (legTime L R U (lagAfter L R U v.plan st.d (lagAfter L R U w.plan b y + trip L R U (suc st.d) (suc b))) a j) w.plan v.plan g) (v.timely j l g))
            (λ g. rw (time_in_inner L R U st.d b y j (legTime L R U (lagAfter L R U v.plan st.d (lagAfter L R U w.plan b y + trip L R U (suc st.d) (suc b))) a j) w.plan v.plan (omega arith) i) (inner_timely st.d b y j w st.first (omega arith) i));
      }

  -- What the recursion carries: the leg that starts at a, and every stop of the window, can still be in time.
  abbrev Carries : ℕ → Type 0
  Carries k = (a b y : ℕ) → b ≤ k → b ≤ n → a ≤ n → Reaches y a → ((j : ℕ) → a < j → j ≤ b → Reaches y j) → Built a b y

  build_with_start : (k a b y : ℕ) → Carries k → b ≤ k → suc b ≤ n → a ≤ n → ((j : ℕ) → a < j → j ≤ suc b → Reaches y j) → Start a b → Built a (suc b) y
  build_with_start k a b y ih hk hn ha v st =
      let w : Built (suc st.d) b y = ih (suc st.d) b y hk (omega arith) (omega arith) (v (suc st.d) (omega arith) (omega arith)) (λ j l i. v j (omega arith) (omega arith)) in
      let back : (j : ℕ) → a ≤ j → j ≤ st.d → Reaches (lagAfter L R U w.plan b y + trip L R U (suc st.d) (suc b)) j
      = λ j l i. second_reached (lagAfter L R U w.plan b y) st.d b j st.high hn w.start st.first (st.seconds j l i) in
      build_detour a b y st w (ih a st.d _ (omega arith) (omega arith) ha (back a (omega arith) st.low) (λ j l i. back j (omega arith) i))

  build_step : (k a b y : ℕ) → Carries k → b ≤ suc k → b ≤ n → a ≤ n → Reaches y a → ((j : ℕ) → a < j → j ≤ b → Reaches y j) → Built a b y
  build_step k a zero y ih hk hn ha r v = build_none a zero y (omega arith) r
  build_step k a (suc b) y ih hk hn ha r v =
      by_cases (dec_le a b)
      (λ h.
      ⊎_elim
      (λ f. build_skip a b y h f (ih a b y (omega arith) (omega arith) ha r (λ j l i. v j l (omega arith))))
      (λ s.
      build_with_start k a b y ih (omega arith) hn ha v
      (find_start (b - a) a a b (omega arith) (omega arith) hn (λ j l i. let q : a ≡ j = omega arith in rw q at s)))
      (kinds a (suc b) (omega arith) hn))
      (λ h. build_none a (suc b) y (omega arith) r)

  build : (k : ℕ) → Carries k
  build zero a b y hk hn ha r v = build_none a b y (omega arith) r
  build (suc k) a b y hk hn ha r v = build_step k a b y (build k) hk hn ha r v

-- A plan for the whole row, no stop of which is read later than t.
pub record InTime (m U : ℕ) (L R : ℕ → ℕ) (n : ℕ) (t : ℕ → ℕ) : Type 0 where
  pub plan : Plan
  pub over : Over plan 0 n
  pub timely : (i : ℕ) → i ≤ n → planTime L R U plan 0 n m i ≤ t i

module _ (m U : ℕ) (L R : ℕ → ℕ) (n : ℕ) (t : ℕ → ℕ) (spaced : Spaced L R n) (ok : Feasible m U L R n t) where
  built : Built L R U n t spaced ok.pair 0 n m
  built = build L R U n t spaced ok.pair n 0 n m (omega arith) (omega arith) (omega arith) (ok.floor 0 (omega arith)) (λ j l i. ok.floor j i)

  -- For any feasible times there is a plan that reads every stop no later.
  pub plan_in_time : InTime m U L R n t
  plan_in_time =
      record {
        plan = built.plan;
        over = built.over;
        timely = λ i h. by_cases (dec_lt 0 i) (λ l. built.timely i l h) (λ g. start_timely L R U n t spaced ok.pair 0 n m i built (omega arith));
      }
