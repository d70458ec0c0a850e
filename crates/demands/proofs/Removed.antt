-- A plan without one of its detours: the plan whose list has that entry no longer, and its times beside those of the plan, stop by stop.
use Prim.Native.Nat.{ℕ, zero, suc, ◌+◌, ◌-◌, ◌*◌, ◌≤◌, ◌<◌}
use native.Mathlib.Omega.{arith}
use native.Mathlib.Decide.{dec_lt, dec_le}
use mathlib.Core.Path.{◌≡◌, refl, sym, ap, ◌∙◌}
use mathlib.Core.Bool.{cond}
use mathlib.Core.Logic.{by_cases}
use mathlib.Core.List.{List, [], ◌∷◌, ◌++◌, append_assoc}
use lib.ListN.{length, length-append}
use lib.Dec.{leb}
use borrow.Author.Tests.{le-leb, lt-leb}
use Rattle.figures.specs.Figures.{without}
use Rattle.least.specs.Recurrence.{Plan, empty, skip, detour, trip, plan_detours}
use Rattle.least.proofs.Plan.{Over, lagAfter, legTime, timeIn}
use Rattle.least.proofs.Times.{Spaced, starts_rise, leg_time_exact, planTime, lag_grows, time_in_inner, time_in_rest, unread_right, unread_left}

-- A list without an entry of its front, or of its back.
module _ {A : Type 0} where
  without_front : (xs ys : List A) (i : ℕ) → i < length xs → without i (xs ++ ys) ≡ without i xs ++ ys
  unfolding without
  without_front [] ys i l = absurd (omega arith)
  without_front (x ∷ xs) ys zero l = refl
  without_front (x ∷ xs) ys (suc i) l = ap (λ zs. x ∷ zs) (without_front xs ys i (omega arith))

  without_back : (xs ys : List A) (i k : ℕ) → k ≡ length xs + i → without k (xs ++ ys) ≡ xs ++ without i ys
  unfolding without
  without_back [] ys i k e = let same : k ≡ i = omega arith in rw same
  without_back (x ∷ xs) ys i zero e = absurd (omega arith)
  without_back (x ∷ xs) ys i (suc k) e = ap (λ zs. x ∷ zs) (without_back xs ys i k (omega arith))

-- What a plan over (suc d, b] does and then a plan over (a, d], with nothing that starts or ends at suc d.
unfoldable graft : ℕ → Plan → Plan → ℕ → Plan
graft d rest empty b = cond (leb b d) rest (skip rest)
graft d rest (skip p) zero = rest
graft d rest (skip p) (suc b) = skip (graft d rest p b)
graft d rest (detour c inner p) zero = rest
graft d rest (detour c inner p) (suc b) = detour c inner (graft d rest p c)

-- Where the first has nothing left, it ends at suc d, or had not even that.
module _ (d : ℕ) (rest : Plan) where
  graft_ended : (b : ℕ) → b ≤ d → graft d rest empty b ≡ rest
  unfolding graft
  graft_ended b l = rw (le-leb b d l)

  graft_skipped : (b : ℕ) → d < b → graft d rest empty b ≡ skip rest
  unfolding graft
  graft_skipped b l = rw (lt-leb b d l)

  graft_over : (a : ℕ) (p : Plan) (b : ℕ) → a ≤ d → d ≤ b → Over p (suc d) b → Over rest a d → Over (graft d rest p b) a b
  unfolding graft
  graft_over a empty b low l o r =
      by_cases (dec_le b d)
      (λ h. let e : b ≡ d = omega arith in rw (graft_ended b h, e) r)
      (λ h. let e : b ≡ suc d = omega arith in rw (graft_skipped b (omega arith), e) (low, r))
  graft_over a (skip p) zero low l o r = absurd o
  graft_over a (skip p) (suc b) low l o r = (omega (arith, o.0), graft_over a p b low (omega (arith, o.0)) o.1 r)
  graft_over a (detour c inner p) zero low l o r = absurd o
  graft_over a (detour c inner p) (suc b) low l o r = (omega (arith, o.0), o.1, o.2, graft_over a p c low (omega (arith, o.0)) o.3 r)

  graft_list : (F : ℕ → ℕ) (p : Plan) (b : ℕ) → d ≤ b → Over p (suc d) b → plan_detours F (graft d rest p b) b ≡ plan_detours F p b ++ plan_detours F rest d
  unfolding graft plan_detours
  graft_list F empty b l o =
      by_cases (dec_le b d)
      (λ h. let e : b ≡ d = omega arith in rw (graft_ended b h, e))
      (λ h. let e : b ≡ suc d = omega arith in rw (graft_skipped b (omega arith), e))
  graft_list F (skip p) zero l o = absurd o
  graft_list F (skip p) (suc b) l o = graft_list F p b (omega (arith, o.0)) o.1
  graft_list F (detour c inner p) zero l o = absurd o
  graft_list F (detour c inner p) (suc b) l o =
      ap (λ xs. plan_detours F inner b ++ record { from = F (suc c); to = F (suc b) } ∷ xs) (graft_list F p c (omega (arith, o.0)) o.3)
      ∙ sym (append_assoc (plan_detours F inner b) (record { from = F (suc c); to = F (suc b) } ∷ plan_detours F p c) (plan_detours F rest d))

module _ (L R : ℕ → ℕ) (U : ℕ) where
  -- A head that comes later by t leaves later by t.
  lag_shift : (p : Plan) (b y t : ℕ) → lagAfter L R U p b (y + t) ≡ lagAfter L R U p b y + t
  unfolding lagAfter
  lag_shift empty b y t = refl
  lag_shift (skip p) zero y t = refl
  lag_shift (skip p) (suc b) y t = lag_shift p b y t
  lag_shift (detour d inner rest) zero y t = refl
  lag_shift (detour d inner rest) (suc b) y t =
      let on : lagAfter L R U inner b (y + t) + trip L R U (suc d) (suc b) ≡ lagAfter L R U inner b y + trip L R U (suc d) (suc b) + t = omega (arith, lag_shift inner b y t) in
      rw on (lag_shift rest d (lagAfter L R U inner b y + trip L R U (suc d) (suc b)) t)

  graft_lag : (d : ℕ) (rest p : Plan) (b y : ℕ) → d ≤ b → Over p (suc d) b → lagAfter L R U (graft d rest p b) b y ≡ lagAfter L R U rest d (lagAfter L R U p b y)
  unfolding graft lagAfter
  graft_lag d rest empty b y l o =
      by_cases (dec_le b d)
      (λ h. let e : b ≡ d = omega arith in rw (graft_ended d rest b h, e))
      (λ h. let e : b ≡ suc d = omega arith in rw (graft_skipped d rest b (omega arith), e))
  graft_lag d rest (skip p) zero y l o = absurd o
  graft_lag d rest (skip p) (suc b) y l o = graft_lag d rest p b y (omega (arith, o.0)) o.1
  graft_lag d rest (detour c inner p) zero y l o = absurd o
  graft_lag d rest (detour c inner p) (suc b) y l o = graft_lag d rest p c _ (omega (arith, o.0)) o.3

  -- Left of suc d the grafted plan reads as its second part does, right of it as its first.
  graft_low : (d : ℕ) (rest p : Plan) (b y j e : ℕ) → d ≤ b → Over p (suc d) b → j ≤ d
      → timeIn L R U (graft d rest p b) b y j e ≡ timeIn L R U rest d (lagAfter L R U p b y) j e
  unfolding graft lagAfter timeIn
  graft_low d rest empty b y j e l o h =
      by_cases (dec_le b d)
      (λ k. let q : b ≡ d = omega arith in rw (graft_ended d rest b k, q))
      (λ k. let q : b ≡ suc d = omega arith in rw (graft_skipped d rest b (omega arith), q))
  graft_low d rest (skip p) zero y j e l o h = absurd o
  graft_low d rest (skip p) (suc b) y j e l o h = graft_low d rest p b y j e (omega (arith, o.0)) o.1 h
  graft_low d rest (detour c inner p) zero y j e l o h = absurd o
  graft_low d rest (detour c inner p) (suc b) y j e l o h =
      rw (le-leb j c (omega (arith, o.0))) (graft_low d rest p c _ j e (omega (arith, o.0)) o.3 h)

  graft_high : (a d : ℕ) (rest p : Plan) (b y j e : ℕ) → d ≤ b → Over p (suc d) b → Over rest a d → d < j
      → timeIn L R U (graft d rest p b) b y j e ≡ timeIn L R U p b y j e
  unfolding graft timeIn
  graft_high a d rest empty b y j e l o r h =
      by_cases (dec_le b d)
      (λ k. let q : b ≡ d = omega arith in rw (graft_ended d rest b k, q) (unread_right L R U rest a d y j e r h))
      (λ k. let q : b ≡ suc d = omega arith in rw (graft_skipped d rest b (omega arith), q) (unread_right L R U rest a d y j e r h))
  graft_high a d rest (skip p) zero y j e l o r h = absurd o
  graft_high a d rest (skip p) (suc b) y j e l o r h = graft_high a d rest p b y j e (omega (arith, o.0)) o.1 r h
  graft_high a d rest (detour c inner p) zero y j e l o r h = absurd o
  graft_high a d rest (detour c inner p) (suc b) y j e l o r h =
      by_cases (dec_le j c)
      (λ k. rw (le-leb j c k) (graft_high a d rest p c _ j e (omega (arith, o.0)) o.3 r h))
      (λ k. rw (lt-leb j c (omega arith)))

  -- A later time for what the plan leaves makes no time later by more.
  time_from : (p : Plan) (a b y j e e' x : ℕ) → Over p a b → e' ≤ e + x → timeIn L R U p b y j e' ≤ timeIn L R U p b y j e + x
  unfolding timeIn
  time_from empty a b y j e e' x o l = l
  time_from (skip p) a zero y j e e' x o l = absurd o
  time_from (skip p) a (suc b) y j e e' x o l = time_from p a b y j e e' x o.1 l
  time_from (detour d inner rest) a zero y j e e' x o l = absurd o
  time_from (detour d inner rest) a (suc b) y j e e' x o l =
      by_cases (dec_le j d)
      (λ h. rw (le-leb j d h) (time_from rest a d _ j e e' x o.3 l))
      (λ h.
      by_cases (dec_le j (suc b))
      (λ k. rw (lt-leb j d (omega arith), le-leb j (suc b) k) (omega arith))
      (λ k. rw (lt-leb j d (omega arith), lt-leb j (suc b) (omega arith)) l))

  module _ (n : ℕ) (spaced : Spaced L R n) where
    leg_shift_here : (y t a j : ℕ) → R j ≤ y → a ≤ j → j ≤ n → legTime L R U (y + t) a j ≡ legTime L R U y a j + t
    leg_shift_here y t a j r l h =
        let reach : L a ≤ y = omega (arith, starts_rise L R n spaced a j l h, spaced.extends j h) in
        omega (arith, leg_time_exact L R n spaced U y a j reach l h, leg_time_exact L R n spaced U (y + t) a j (omega arith) l h)

    -- A head that comes later by t reads everything later by t.
    time_shift : (p : Plan) (a b y t j e : ℕ) → Over p a b → j ≤ n → R j ≤ y → timeIn L R U p b (y + t) j (e + t) ≡ timeIn L R U p b y j e + t
    unfolding timeIn
    time_shift empty a b y t j e o h r = refl
    time_shift (skip p) a zero y t j e o h r = absurd o
    time_shift (skip p) a (suc b) y t j e o h r = time_shift p a b y t j e o.1 h r
    time_shift (detour d inner rest) a zero y t j e o h r = absurd o
    time_shift (detour d inner rest) a (suc b) y t j e o h r =
        let grown = lag_grows L R U inner b y in
        let on : lagAfter L R U inner b (y + t) + trip L R U (suc d) (suc b) ≡ lagAfter L R U inner b y + trip L R U (suc d) (suc b) + t = omega (arith, lag_shift inner b y t) in
        by_cases (dec_le j d)
        (λ k. rw (le-leb j d k, on) (time_shift rest a d (lagAfter L R U inner b y + trip L R U (suc d) (suc b)) t j e o.3 h (omega arith)))
        (λ k.
        by_cases (dec_le j (suc b))
        (λ q.
        rw (lt-leb j d (omega arith), le-leb j (suc b) q, lag_shift inner b y t, leg_shift_here (lagAfter L R U inner b y) t (suc d) j (omega arith) (omega arith) h)
        (time_shift inner (suc d) b y t j (legTime L R U (lagAfter L R U inner b y) (suc d) j) o.2 h r))
        (λ q. rw (lt-leb j d (omega arith), lt-leb j (suc b) (omega arith)) refl))

    plan_shift : (p : Plan) (a b y t j : ℕ) → Over p a b → a ≤ j → j ≤ n → R j ≤ y → planTime L R U p a b (y + t) j ≡ planTime L R U p a b y j + t
    plan_shift p a b y t j o l h r =
        let grown = lag_grows L R U p b y in
        rw (lag_shift p b y t, leg_shift_here (lagAfter L R U p b y) t a j (omega arith) l h) (time_shift p a b y t j (legTime L R U (lagAfter L R U p b y) a j) o h r)

    -- A plan over (a, b] without the detour at index i, from stop suc d to stop t. It lies inside a leg from stop p, and `rest` is done between the two.
    pub record Removed (F : ℕ → ℕ) (p : Plan) (a b i : ℕ) : Type 0 where
      pub plan : Plan
      pub over : Over plan a b
      pub lists : plan_detours F plan b ≡ without i (plan_detours F p b)
      pub d : ℕ
      pub t : ℕ
      pub parent : ℕ
      pub rest : Plan
      pub within : Over rest parent d
      pub low : a ≤ parent
      pub inside : parent ≤ d
      pub onward : d < t
      pub high : t ≤ b
      pub lag : (y : ℕ) → lagAfter L R U p b y ≡ lagAfter L R U plan b y + trip L R U (suc d) t
      pub later : (y j : ℕ) → a ≤ j → j ≤ d → j ≤ n → R j ≤ y → planTime L R U p a b y j ≡ planTime L R U plan a b y j + trip L R U (suc d) t
      pub sooner : (y j : ℕ) → d < j → j ≤ t → j ≤ n → R j ≤ y
          → planTime L R U plan a b y j ≤ planTime L R U p a b y j + (2 * (L (suc d) - L parent) + lagAfter L R U rest d 0)
      pub start : (y : ℕ) → suc d ≤ n → R (suc d) ≤ y → planTime L R U p a b y (suc d) + 2 * (L (suc d) - L parent) ≤ planTime L R U plan a b y (suc d)
      pub beyond : (y j : ℕ) → t < j → j ≤ n → R j ≤ y → planTime L R U plan a b y j ≤ planTime L R U p a b y j
      pub most : (y j : ℕ) → d < j → j ≤ n → R j ≤ y → planTime L R U p a b y j ≤ planTime L R U plan a b y j + trip L R U (suc d) t

    -- The detour itself goes: what is inside it and what comes after it are done one after the other, and the leg that follows reads what it has read.
    module _ (F : ℕ → ℕ) (inner after : Plan) (a d b : ℕ) (low : a ≤ d) (onward : d ≤ b) (o : Over inner (suc d) b) (q : Over after a d) where
      whole : Plan
      whole = detour d inner after

      grafted : Plan
      grafted = skip (graft d after inner b)

      -- The lag when the detour would begin.
      lag_before : ℕ → ℕ
      lag_before y = lagAfter L R U inner b y

      whole_lag : (y : ℕ) → lagAfter L R U whole (suc b) y ≡ lagAfter L R U after d (lag_before y) + trip L R U (suc d) (suc b)
      unfolding whole lag_before lagAfter
      whole_lag y = lag_shift after d (lagAfter L R U inner b y) (trip L R U (suc d) (suc b))

      grafted_lag : (y : ℕ) → lagAfter L R U grafted (suc b) y ≡ lagAfter L R U after d (lag_before y)
      unfolding grafted lag_before lagAfter
      grafted_lag y = graft_lag d after inner b y onward o

      grafted_list : plan_detours F grafted (suc b) ≡ plan_detours F inner b ++ plan_detours F after d
      unfolding grafted plan_detours
      grafted_list = graft_list d after F inner b onward o

      grafted_over : Over grafted a (suc b)
      unfolding grafted
      grafted_over = (omega arith, graft_over d after a inner b low onward o q)

      whole_on : (y : ℕ) → lagAfter L R U (detour d inner after) (suc b) y ≡ lagAfter L R U after d (lagAfter L R U inner b y + trip L R U (suc d) (suc b))
      unfolding lagAfter
      whole_on y = refl

      -- Stop by stop: left of the detour, in it, and right of it.
      whole_left : (y j : ℕ) → j ≤ d → planTime L R U whole a (suc b) y j ≡ planTime L R U after a d (lag_before y + trip L R U (suc d) (suc b)) j
      unfolding whole lag_before
      whole_left y j h =
          time_in_rest L R U d b y j _ inner after h
          ∙ ap (λ x. timeIn L R U after d (lagAfter L R U inner b y + trip L R U (suc d) (suc b)) j (legTime L R U x a j)) (whole_on y)

      whole_in : (y j : ℕ) → d < j → j ≤ suc b → planTime L R U whole a (suc b) y j ≡ timeIn L R U inner b y j (legTime L R U (lag_before y) (suc d) j)
      unfolding whole lag_before
      whole_in y j h k = time_in_inner L R U d b y j _ inner after h k

      grafted_left : (y j : ℕ) → j ≤ d → planTime L R U grafted a (suc b) y j ≡ planTime L R U after a d (lag_before y) j
      unfolding grafted lag_before timeIn lagAfter
      grafted_left y j h =
          graft_low d after inner b y j _ onward o h
          ∙ ap (λ x. timeIn L R U after d (lagAfter L R U inner b y) j (legTime L R U x a j)) (graft_lag d after inner b y onward o)

      grafted_right : (y j : ℕ) → d < j → planTime L R U grafted a (suc b) y j ≡ timeIn L R U inner b y j (legTime L R U (lagAfter L R U after d (lag_before y)) a j)
      unfolding grafted lag_before timeIn lagAfter
      grafted_right y j h =
          graft_high a d after inner b y j _ onward o q h
          ∙ ap (λ x. timeIn L R U inner b y j (legTime L R U x a j)) (graft_lag d after inner b y onward o)

      -- The leg that reads a stop instead of the detour comes later by so much.
      after_lag_here : (y : ℕ) → lagAfter L R U after d (lag_before y) ≡ lag_before y + lagAfter L R U after d 0
      after_lag_here y = let e : lag_before y ≡ 0 + lag_before y = omega arith in rw e (omega (arith, lag_shift after d 0 (lag_before y)))

      leg_later : (y j : ℕ) → d < j → j ≤ n → R j ≤ y
          → legTime L R U (lagAfter L R U after d (lag_before y)) a j ≡ legTime L R U (lag_before y) (suc d) j + (2 * (L (suc d) - L a) + lagAfter L R U after d 0)
      unfolding lag_before
      leg_later y j h k r =
          let grown = lag_grows L R U inner b y in
          let more = after_lag_here y in
          let reach : L (suc d) ≤ y = omega (arith, starts_rise L R n spaced (suc d) j h k, spaced.extends j k) in
          let left : L a ≤ L (suc d) = starts_rise L R n spaced a (suc d) (omega arith) (omega arith) in
          omega (
            arith,
            leg_time_exact L R n spaced U (lagAfter L R U after d (lagAfter L R U inner b y)) a j (omega arith) (omega arith) k,
            leg_time_exact L R n spaced U (lagAfter L R U inner b y) (suc d) j (omega arith) h k,
          )

      own_list : without (length (plan_detours F inner b)) (plan_detours F inner b ++ record { from = F (suc d); to = F (suc b) } ∷ plan_detours F after d) ≡ plan_detours F inner b ++ plan_detours F after d
      unfolding without
      own_list = without_back (plan_detours F inner b) (record { from = F (suc d); to = F (suc b) } ∷ plan_detours F after d) 0 (length (plan_detours F inner b)) (omega arith)

      grown : (y j : ℕ) → R j ≤ y → R j ≤ lag_before y
      unfolding lag_before
      grown y j r = omega (arith, lag_grows L R U inner b y)

      -- Right of the detour the leg from a reads, sooner by the trip.
      past : (y j : ℕ) → suc b < j → j ≤ n → R j ≤ y → planTime L R U whole a (suc b) y j ≡ planTime L R U grafted a (suc b) y j + trip L R U (suc d) (suc b)
      unfolding whole
      past y j h k r =
          unread_right L R U whole a (suc b) y j _ (low, onward, o, q) h
          ∙ ap (λ x. legTime L R U x a j) (whole_lag y)
          ∙ leg_shift_here (lagAfter L R U after d (lag_before y)) (trip L R U (suc d) (suc b)) a j (omega (arith, grown y j r, lag_grows L R U after d (lag_before y))) (omega arith) k
          ∙ ap (λ x. x + trip L R U (suc d) (suc b)) (sym (unread_right L R U grafted a (suc b) y j _ grafted_over h ∙ ap (λ x. legTime L R U x a j) (grafted_lag y)))

      inside_most : (y j : ℕ) → d < j → j ≤ suc b → j ≤ n → R j ≤ y
          → planTime L R U whole a (suc b) y j ≤ planTime L R U grafted a (suc b) y j + trip L R U (suc d) (suc b)
      inside_most y j h l k r =
          rw (whole_in y j h l, grafted_right y j h)
          (time_from inner (suc d) b y j _ _ _ o (omega (arith, leg_later y j h k r)))

      own : Removed F whole a (suc b) (length (plan_detours F inner b))
      unfolding plan_detours whole
      own =
          record {
            plan = grafted;
            over = grafted_over;
            lists = grafted_list ∙ sym own_list;
            d = d;
            t = suc b;
            parent = a;
            rest = after;
            within = q;
            low = omega arith;
            inside = low;
            onward = omega arith;
            high = omega arith;
            lag = λ y. whole_lag y ∙ ap (λ x. x + trip L R U (suc d) (suc b)) (sym (grafted_lag y));
            later = λ y j l h k r.
                whole_left y j h
                ∙ plan_shift after a d (lag_before y) (trip L R U (suc d) (suc b)) j q l k (grown y j r)
                ∙ ap (λ x. x + trip L R U (suc d) (suc b)) (sym (grafted_left y j h));
            sooner = λ y j h l k r.
                rw (whole_in y j h l, grafted_right y j h)
                (time_from inner (suc d) b y j _ _ _ o (omega (arith, leg_later y j h k r)));
            start = λ y k r.
                rw (whole_in y (suc d) (omega arith) (omega arith), grafted_right y (suc d) (omega arith))
                (rw (unread_left L R U inner (suc d) b y (suc d) _ o (omega arith), unread_left L R U inner (suc d) b y (suc d) (legTime L R U (lagAfter L R U after d (lag_before y)) a (suc d)) o (omega arith))
                (omega (arith, leg_later y (suc d) (omega arith) k r)));
            beyond = λ y j h k r.
                omega (arith, past y j h k r);
            most = λ y j h k r. by_cases (dec_le j (suc b)) (λ l. inside_most y j h l k r) (λ l. omega (arith, past y j (omega arith) k r));
          }

    -- Inside a detour, or after it.
    module _ (F : ℕ → ℕ) (inner after : Plan) (a d b : ℕ) (low : a ≤ d) (onward : d ≤ b) (o : Over inner (suc d) b) (q : Over after a d) (i : ℕ) where
      abbrev both : Plan → Plan → Plan
      both p p' = detour d p p'

      over_both : (p p' : Plan) → Over p (suc d) b → Over p' a d → Over (both p p') a (suc b)
      over_both p p' v w = (low, onward, v, w)

      -- The times of a detour's plan: of the stops left of it, of those in it, of those right of it.
      left_time : (p p' : Plan) (y j : ℕ) → j ≤ d → planTime L R U (both p p') a (suc b) y j ≡ planTime L R U p' a d (lagAfter L R U p b y + trip L R U (suc d) (suc b)) j
      unfolding lagAfter
      left_time p p' y j h = time_in_rest L R U d b y j _ p p' h

      in_time_here : (p p' : Plan) (y j : ℕ) → d < j → j ≤ suc b → planTime L R U (both p p') a (suc b) y j ≡ planTime L R U p (suc d) b y j
      in_time_here p p' y j h k = time_in_inner L R U d b y j _ p p' h k

      right_time : (p p' : Plan) (y j : ℕ) → Over p (suc d) b → Over p' a d → suc b < j → planTime L R U (both p p') a (suc b) y j ≡ legTime L R U (lagAfter L R U (both p p') (suc b) y) a j
      right_time p p' y j v w h = unread_right L R U (both p p') a (suc b) y j _ (over_both p p' v w) h

      both_lag : (p p' : Plan) (y : ℕ) → lagAfter L R U (both p p') (suc b) y ≡ lagAfter L R U p' d (lagAfter L R U p b y + trip L R U (suc d) (suc b))
      unfolding lagAfter
      both_lag p p' y = refl

      both_list : (p p' : Plan) → plan_detours F (both p p') (suc b) ≡ plan_detours F p b ++ record { from = F (suc d); to = F (suc b) } ∷ plan_detours F p' d
      unfolding plan_detours
      both_list p p' = refl

      both_grown : (p p' : Plan) (y : ℕ) → y ≤ lagAfter L R U (both p p') (suc b) y
      both_grown p p' y = lag_grows L R U (both p p') (suc b) y

      -- Two such plans of which the first leaves later by t: right of the detour it reads later by t.
      right_later : (p p' r r' : Plan) (y t j : ℕ) → Over p (suc d) b → Over p' a d → Over r (suc d) b → Over r' a d
          → lagAfter L R U (both p p') (suc b) y ≡ lagAfter L R U (both r r') (suc b) y + t → suc b < j → j ≤ n → R j ≤ y
          → planTime L R U (both p p') a (suc b) y j ≡ planTime L R U (both r r') a (suc b) y j + t
      right_later p p' r r' y t j v v' w w' e h k g =
          right_time p p' y j v v' h
          ∙ ap (λ x. legTime L R U x a j) e
          ∙ leg_shift_here (lagAfter L R U (both r r') (suc b) y) t a j (omega (arith, both_grown r r' y)) (omega arith) k
          ∙ ap (λ x. x + t) (sym (right_time r r' y j w w' h))

      module _ (found : Removed F inner (suc d) b i) (l : i < length (plan_detours F inner b)) where
        abbrev τ : ℕ
        τ = trip L R U (suc found.d) found.t

        in_lag : (y : ℕ) → lagAfter L R U (both inner after) (suc b) y ≡ lagAfter L R U (both found.plan after) (suc b) y + τ
        in_lag y =
            let on : lagAfter L R U inner b y + trip L R U (suc d) (suc b) ≡ lagAfter L R U found.plan b y + trip L R U (suc d) (suc b) + τ = omega (arith, found.lag y) in
            both_lag inner after y ∙ ap (lagAfter L R U after d) on ∙ lag_shift after d _ τ ∙ ap (λ x. x + τ) (sym (both_lag found.plan after y))

        in_left : (y j : ℕ) → a ≤ j → j ≤ d → j ≤ n → R j ≤ y → planTime L R U (both inner after) a (suc b) y j ≡ planTime L R U (both found.plan after) a (suc b) y j + τ
        in_left y j x h k g =
            let on : lagAfter L R U inner b y + trip L R U (suc d) (suc b) ≡ lagAfter L R U found.plan b y + trip L R U (suc d) (suc b) + τ = omega (arith, found.lag y) in
            left_time inner after y j h
            ∙ ap (λ z. planTime L R U after a d z j) on
            ∙ plan_shift after a d _ τ j q x k (omega (arith, lag_grows L R U found.plan b y))
            ∙ ap (λ z. z + τ) (sym (left_time found.plan after y j h))

        in_right : (y j : ℕ) → suc b < j → j ≤ n → R j ≤ y → planTime L R U (both inner after) a (suc b) y j ≡ planTime L R U (both found.plan after) a (suc b) y j + τ
        in_right y j h k g = right_later inner after found.plan after y τ j o q found.over q (in_lag y) h k g

        in_inner : Removed F (both inner after) a (suc b) i
        in_inner =
            record {
              plan = both found.plan after;
              over = over_both found.plan after found.over q;
              lists =
                  both_list found.plan after
                  ∙ ap (λ xs. xs ++ record { from = F (suc d); to = F (suc b) } ∷ plan_detours F after d) found.lists
                  ∙ sym (without_front (plan_detours F inner b) (record { from = F (suc d); to = F (suc b) } ∷ plan_detours F after d) i l)
                  ∙ ap (without i) (sym (both_list inner after));
              d = found.d;
              t = found.t;
              parent = found.parent;
              rest = found.rest;
              within = found.within;
              low = omega (arith, found.low);
              inside = found.inside;
              onward = found.onward;
              high = omega (arith, found.high);
              lag = in_lag;
              later = λ y j x h k g.
                  by_cases (dec_le j d)
                  (λ w. in_left y j x w k g)
                  (λ w.
                  let z : j ≤ suc b = omega (arith, found.onward, found.high) in
                  rw (in_time_here inner after y j (omega arith) z, in_time_here found.plan after y j (omega arith) z) (found.later y j (omega arith) h k g));
              sooner = λ y j h z k g.
                  let u : d < j = omega (arith, found.low, found.inside) in
                  let v : j ≤ suc b = omega (arith, found.high) in
                  rw (in_time_here inner after y j u v, in_time_here found.plan after y j u v) (found.sooner y j h z k g);
              start = λ y k g.
                  let u : d < suc found.d = omega (arith, found.low, found.inside) in
                  let v : suc found.d ≤ suc b = omega (arith, found.onward, found.high) in
                  rw (in_time_here inner after y (suc found.d) u v, in_time_here found.plan after y (suc found.d) u v) (found.start y k g);
              beyond = λ y j h k g.
                  let u : d < j = omega (arith, found.low, found.inside, found.onward) in
                  by_cases (dec_le j (suc b))
                  (λ v. rw (in_time_here inner after y j u v, in_time_here found.plan after y j u v) (found.beyond y j h k g))
                  (λ v. omega (arith, in_right y j (omega arith) k g));
              most = λ y j h k g.
                  let u : d < j = omega (arith, found.low, found.inside) in
                  by_cases (dec_le j (suc b))
                  (λ v. rw (in_time_here inner after y j u v, in_time_here found.plan after y j u v) (found.most y j h k g))
                  (λ v. omega (arith, in_right y j (omega arith) k g));
            }

      module _ (found : Removed F after a d i) where
        abbrev σ : ℕ
        σ = trip L R U (suc found.d) found.t

        abbrev lag-there : ℕ → ℕ
        lag-there y = lagAfter L R U inner b y + trip L R U (suc d) (suc b)

        there : (y j : ℕ) → R j ≤ y → R j ≤ lag-there y
        there y j g = omega (arith, lag_grows L R U inner b y)

        after_on : (y : ℕ) → lagAfter L R U (both inner after) (suc b) y ≡ lagAfter L R U (both inner found.plan) (suc b) y + σ
        after_on y = both_lag inner after y ∙ found.lag (lag-there y) ∙ ap (λ x. x + σ) (sym (both_lag inner found.plan y))

        after_in : (y j : ℕ) → d < j → j ≤ suc b → planTime L R U (both inner after) a (suc b) y j ≡ planTime L R U (both inner found.plan) a (suc b) y j
        after_in y j h k = in_time_here inner after y j h k ∙ sym (in_time_here inner found.plan y j h k)

        after_right : (y j : ℕ) → suc b < j → j ≤ n → R j ≤ y → planTime L R U (both inner after) a (suc b) y j ≡ planTime L R U (both inner found.plan) a (suc b) y j + σ
        after_right y j h k g = right_later inner after inner found.plan y σ j o q o found.over (after_on y) h k g

        in_after : (k : ℕ) → k ≡ length (plan_detours F inner b) + suc i → Removed F (both inner after) a (suc b) k
        unfolding without
        in_after k e =
            record {
              plan = both inner found.plan;
              over = over_both inner found.plan o found.over;
              lists =
                  both_list inner found.plan
                  ∙ ap (λ xs. plan_detours F inner b ++ record { from = F (suc d); to = F (suc b) } ∷ xs) found.lists
                  ∙ sym (without_back (plan_detours F inner b) (record { from = F (suc d); to = F (suc b) } ∷ plan_detours F after d) (suc i) k e)
                  ∙ ap (without k) (sym (both_list inner after));
              d = found.d;
              t = found.t;
              parent = found.parent;
              rest = found.rest;
              within = found.within;
              low = found.low;
              inside = found.inside;
              onward = found.onward;
              high = omega (arith, found.high);
              lag = after_on;
              later = λ y j x h k g.
                  let w : j ≤ d = omega (arith, found.onward, found.high) in
                  rw (left_time inner after y j w, left_time inner found.plan y j w) (found.later (lag-there y) j x h k (there y j g));
              sooner = λ y j h z k g.
                  let w : j ≤ d = omega (arith, found.high) in
                  rw (left_time inner after y j w, left_time inner found.plan y j w) (found.sooner (lag-there y) j h z k (there y j g));
              start = λ y k g.
                  let w : suc found.d ≤ d = omega (arith, found.onward, found.high) in
                  rw (left_time inner after y (suc found.d) w, left_time inner found.plan y (suc found.d) w) (found.start (lag-there y) k (there y (suc found.d) g));
              beyond = λ y j h k g.
                  by_cases (dec_le j d)
                  (λ w. rw (left_time inner after y j w, left_time inner found.plan y j w) (found.beyond (lag-there y) j h k (there y j g)))
                  (λ w.
                  by_cases (dec_le j (suc b))
                  (λ z. omega (arith, after_in y j (omega arith) z))
                  (λ z. omega (arith, after_right y j (omega arith) k g)));
              most = λ y j h k g.
                  by_cases (dec_le j d)
                  (λ w. rw (left_time inner after y j w, left_time inner found.plan y j w) (found.most (lag-there y) j h k (there y j g)))
                  (λ w.
                  by_cases (dec_le j (suc b))
                  (λ z. omega (arith, after_in y j (omega arith) z))
                  (λ z. omega (arith, after_right y j (omega arith) k g)));
            }

    -- Past a stop that the plan leaves.
    past_skip : (F : ℕ → ℕ) (p : Plan) (a b i : ℕ) → a ≤ b → Removed F p a b i → Removed F (skip p) a (suc b) i
    unfolding plan_detours timeIn lagAfter
    past_skip F p a b i l found =
        record {
          plan = skip found.plan;
          over = (l, found.over);
          lists = found.lists;
          d = found.d;
          t = found.t;
          parent = found.parent;
          rest = found.rest;
          within = found.within;
          low = found.low;
          inside = found.inside;
          onward = found.onward;
          high = omega (arith, found.high);
          lag = found.lag;
          later = found.later;
          sooner = found.sooner;
          start = found.start;
          beyond = found.beyond;
          most = found.most;
        }

    -- Every detour of a plan can be taken out.
    pub removed : (F : ℕ → ℕ) (p : Plan) (a b : ℕ) → Over p a b → b ≤ n → (i : ℕ) → i < length (plan_detours F p b) → Removed F p a b i
    unfolding plan_detours whole
    removed F empty a b o top i l = absurd (omega arith)
    removed F (skip p) a zero o top i l = absurd o
    removed F (skip p) a (suc b) o top i l = past_skip F p a b i o.0 (removed F p a b o.1 (omega arith) i l)
    removed F (detour d inner after) a zero o top i l = absurd o
    removed F (detour d inner after) a (suc b) o top i l =
        let before = length (plan_detours F inner b) in
        let size = length-append (plan_detours F inner b) (record { from = F (suc d); to = F (suc b) } ∷ plan_detours F after d) in
        by_cases (dec_lt i before)
        (λ h. in_inner F inner after a d b o.0 o.1 o.2 o.3 i (removed F inner (suc d) b o.2 (omega arith) i h) h)
        (λ h.
        by_cases (dec_lt before i)
        (λ k.
        in_after F inner after a d b o.0 o.1 o.2 o.3 (i - before - 1)
        (removed F after a d o.3 (omega (arith, o.1)) (i - before - 1) (omega (arith, size))) i (omega arith))
        (λ k. let e : i ≡ before = omega arith in rw e (own F inner after a d b o.0 o.1 o.2 o.3)))
