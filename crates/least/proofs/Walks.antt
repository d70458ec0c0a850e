-- The walk of a plan's list has the plan's times: its legs form a movement that reads each stop when the plan says.
-- And a run's sum is a sum over the indices of its stops.
use Prim.Native.Nat.{ℕ, zero, suc, ◌+◌, ◌-◌, ◌*◌, ◌≤◌, ◌<◌}
use mathlib.Core.Path.{◌≡◌, refl, sym, ap, ◌∙◌}
use mathlib.Core.Bool.{true, false, cond}
use mathlib.Core.Logic.{⊎_elim, by_cases}
use mathlib.Core.List.{List, [], ◌∷◌, ◌++◌, map, append_assoc, map-append}
use native.Mathlib.Omega.{arith}
use native.Mathlib.Decide.{dec_le}
use native.Mathlib.Nat.{zero-add}
use lib.Dec.{T, eqb}
use lib.ListN.{length}
use borrow.Author.Tests.{le-leb, lt-leb, eq-eqb, ne_eqb}
use Rattle.walk.specs.declared.Head.{Head}
use Rattle.runs.specs.Run.{Stop}
use Rattle.runs.specs.Judging.{right_end}
use Rattle.runs.specs.Rows.{stop_at}
use Rattle.walk.specs.declared.Leg.{Leg}
use Rattle.walk.specs.Walk.{head_at, after_leg, Moves, reads, served, ServesAll, time_of, sum_of}
use Rattle.runs.specs.Lists.{Detour}
use Rattle.walk.specs.Detours.{start_of, end_of, leg_of, legs_of, full_sweep, full_legs_of}
use Rattle.runs.proofs.Search.{true_or_false}
use Rattle.runs.proofs.Sound.{Sound, SoundAny, sound_any}
use Rattle.least.specs.Wants.{reads_of}
use Rattle.least.proofs.Plan.{Over, Owned, owned_all, lagAfter, timeIn}
use Rattle.least.proofs.Identity.{runSum}
use Rattle.walk.proofs.Steps.{lag_of, read_inside, lag_after_leg, time_in_leg}
use Rattle.least.proofs.Movements.{time_when_read, time_when_not}
use Rattle.least.proofs.Rising.{rises_by_steps, rises_not_strictly}
use Rattle.least.proofs.Sums.{W-front, W-same}
use Rattle.least.proofs.Sweeps.{times_stay_any}
use Rattle.least.proofs.Times.{Spaced, starts_rise, ends_rise, planTime, unread_left, unread_right, time_in_inner, time_in_rest}
use Rattle.least.specs.Recurrence.{Plan, empty, skip, detour, plan_detours, trip, W, file_at, left_at, right_at, count_at}

pub any_spaced : (stops : List Stop) (m n : ℕ) → SoundAny stops m → length stops ≡ suc n → Spaced (left_at stops) (right_at stops) n
any_spaced stops m n ok e =
    record {
      extends = λ i h. ok.extends i (omega arith);
      starts = λ i h. ok.starts i (omega arith);
      ends = λ i h. ok.ends i (omega arith);
    }

pub sound_spaced : (stops : List Stop) (m n : ℕ) → Sound stops m → length stops ≡ suc n → Spaced (left_at stops) (right_at stops) n
sound_spaced stops m n ok e = any_spaced stops m n (sound_any stops m ok) e

-- Stops that do not overlap start one right of the other.
pub sound_owned : (stops : List Stop) (m n : ℕ) → Sound stops m → length stops ≡ suc n → (p : Plan) → Over p 0 n → Owned (left_at stops) p
sound_owned stops m n ok e p o =
    owned_all (left_at stops) n (λ i h. omega (arith, ok.extends i (omega arith), ok.apart i (omega arith))) p 0 n o (omega arith)

-- The time at which a movement reads a stop, by the lag alone.
unfoldable time_by : ℕ → ℕ → List Leg → Stop → ℕ
time_by U y [] s = 0
time_by U y (g ∷ gs) s = cond (reads g s) (y + U + s.end - 2 * g.left) (time_by U (y + 2 * (U + (g.right - g.left))) gs s)

module _ (U y : ℕ) (g : Leg) (gs : List Leg) (s : Stop) where
  by_lag_read : reads g s ≡ true → time_by U y (g ∷ gs) s ≡ y + U + s.end - 2 * g.left
  unfolding time_by
  by_lag_read e = rw e

  by_lag_not : reads g s ≡ false → time_by U y (g ∷ gs) s ≡ time_by U (y + 2 * (U + (g.right - g.left))) gs s
  unfolding time_by
  by_lag_not e = rw e

time_by_lag : (U : ℕ) (s : Stop) → s.start ≤ s.end → (h : Head) (gs : List Leg) → Moves h.place gs → time_of U h gs s ≡ time_by U (lag_of U h) gs s
unfolding time_of time_by
time_by_lag U s o h [] v = refl
time_by_lag U s o h (g ∷ gs) v =
    ⊎_elim
    (λ e.
    let i : (g.left ≤ s.start) × (s.end ≤ g.right) = read_inside g s e in
    omega (arith, time_when_read U h g gs s e, by_lag_read U (lag_of U h) g gs s e, time_in_leg U h g s v.0 (omega arith)))
    (λ e.
    time_when_not U h g gs s e
    ∙ time_by_lag U s o (after_leg U h g) gs v.2
    ∙ ap (λ y. time_by U y gs s) (lag_after_leg U h g v.0 v.1)
    ∙ sym (by_lag_not U (lag_of U h) g gs s e))
    (true_or_false (reads g s))

-- The legs of a plan's detours, by index.
unfoldable pub legs_in : (ℕ → ℕ) → (ℕ → ℕ) → Plan → ℕ → List Leg
legs_in L R empty b = []
legs_in L R (skip p) zero = []
legs_in L R (skip p) (suc b) = legs_in L R p b
legs_in L R (detour d inner rest) zero = []
legs_in L R (detour d inner rest) (suc b) = legs_in L R inner b ++ record { left = L (suc d); right = R (suc b) } ∷ legs_in L R rest d

module _ (L R : ℕ → ℕ) (n : ℕ) (spaced : Spaced L R n) where
  -- The legs of a plan are a movement, from any place not left of its window, and leave the head there.
  moves_of_plan : (p : Plan) (a b P : ℕ) (gs : List Leg) → Over p a b → b ≤ n → L a ≤ P → L b ≤ P
      → ((P' : ℕ) → L a ≤ P' → Moves P' gs) → Moves P (legs_in L R p b ++ gs)
  unfolding legs_in
  moves_of_plan empty a b P gs o hn ha hb next = next P ha
  moves_of_plan (skip p) a zero P gs o hn ha hb next = absurd o
  moves_of_plan (skip p) a (suc b) P gs o hn ha hb next =
      moves_of_plan p a b P gs o.1 (omega arith) ha (omega (arith, starts_rise L R n spaced b (suc b) (omega arith) hn)) next
  moves_of_plan (detour d inner rest) a zero P gs o hn ha hb next = absurd o
  moves_of_plan (detour d inner rest) a (suc b) P gs o hn ha hb next =
      let low : L (suc d) ≤ L (suc b) = starts_rise L R n spaced (suc d) (suc b) (omega arith) hn in
      let lows : (L a ≤ L (suc b)) × (L d ≤ L (suc b)) × (L b ≤ L (suc b))
      = (starts_rise L R n spaced a (suc b) (omega arith) hn, starts_rise L R n spaced d (suc b) (omega arith) hn, starts_rise L R n spaced b (suc b) (omega arith) hn) in
      let long : L (suc b) < R (suc b) = spaced.extends (suc b) hn in
      rw (append_assoc (legs_in L R inner b) (record { left = L (suc d); right = R (suc b) } ∷ legs_in L R rest d) gs)
      (moves_of_plan inner (suc d) b P (record { left = L (suc d); right = R (suc b) } ∷ (legs_in L R rest d ++ gs)) o.2 (omega arith) (omega arith) (omega arith)
      (λ P' h. (h, omega arith, moves_of_plan rest a d (R (suc b)) gs o.3 (omega arith) (omega arith) (omega arith) next)))

module _ (U : ℕ) (L R : ℕ → ℕ) (n : ℕ) (spaced : Spaced L R n) (s : Stop) (j : ℕ) (hj : j ≤ n) (l : s.start ≡ L j) (r : s.end ≡ R j) where
  end_inside : (b : ℕ) → j ≤ b → b ≤ n → s.end ≤ R b
  end_inside b hb hn = omega (arith, rises_not_strictly R n (ends_rise L R n spaced) j b hb hn)

  -- A leg from stop c to stop b reads the stops c … b and none right of them; and none left of them where the stop before c starts left of c.
  leg_reads : (c b : ℕ) → c ≤ j → j ≤ b → b ≤ n → reads (record { left = L c; right = R b }) s ≡ true
  leg_reads c b hc hb hn = rw (le-leb (L c) s.start (omega (arith, starts_rise L R n spaced c j hc hj)), le-leb s.end (R b) (end_inside b hb hn))

  leg_passes_left : (d b : ℕ) → j ≤ d → suc d ≤ n → L d < L (suc d) → reads (record { left = L (suc d); right = R b }) s ≡ false
  leg_passes_left d b h hn own = rw (lt-leb (L (suc d)) s.start (omega (arith, starts_rise L R n spaced j d h (omega arith))))

  leg_passes_right : (c b : ℕ) → c ≤ j → b < j → reads (record { left = L c; right = R b }) s ≡ false
  leg_passes_right c b hc h =
      rw (le-leb (L c) s.start (omega (arith, starts_rise L R n spaced c j hc hj)), lt-leb s.end (R b) (omega (arith, ends_rise L R n spaced b j h hj)))

  -- A detour's leg and what follows it, E being when what follows the plan reads the stop.
  detour_time : (d b y a E : ℕ) (inner rest : Plan) (gs : List Leg) → Over (detour d inner rest) a (suc b) → suc b ≤ n → L d < L (suc d)
      → time_by U (lagAfter L R U inner b y + trip L R U (suc d) (suc b)) gs s ≡ timeIn L R U rest d (lagAfter L R U inner b y + trip L R U (suc d) (suc b)) j E
      → timeIn L R U inner b y j (time_by U (lagAfter L R U inner b y) (record { left = L (suc d); right = R (suc b) } ∷ gs) s)
      ≡ timeIn L R U (detour d inner rest) (suc b) y j E
  detour_time d b y a E inner rest gs o hn own ih =
      by_cases (dec_le j d)
      (λ h.
      unread_left L R U inner (suc d) b y j _ o.2 (omega arith)
      ∙ by_lag_not U _ _ gs s (leg_passes_left d (suc b) h (omega arith) own)
      ∙ ih
      ∙ sym (time_in_rest L R U d b y j E inner rest h))
      (λ h.
      by_cases (dec_le j (suc b))
      (λ i.
      ap (λ x. timeIn L R U inner b y j x) (by_lag_read U _ _ gs s (leg_reads (suc d) (suc b) (omega arith) i hn) ∙ ap (λ x. lagAfter L R U inner b y + U + x - 2 * L (suc d)) r)
      ∙ sym (time_in_inner L R U d b y j E inner rest (omega arith) i))
      (λ i.
      unread_right L R U inner (suc d) b y j _ o.2 (omega arith)
      ∙ by_lag_not U _ _ gs s (leg_passes_right (suc d) (suc b) (omega arith) (omega arith))
      ∙ ih
      ∙ unread_right L R U rest a d _ j E o.3 (omega arith)
      ∙ sym (unread_right L R U (detour d inner rest) a (suc b) y j E o (omega arith))))

  -- The legs of a plan, then any others, read the stop when the plan says, or else when the others do.
  time_of_plan : (p : Plan) (a b y : ℕ) (gs : List Leg) → Over p a b → b ≤ n → Owned L p
      → time_by U y (legs_in L R p b ++ gs) s ≡ timeIn L R U p b y j (time_by U (lagAfter L R U p b y) gs s)
  unfolding legs_in timeIn lagAfter
  time_of_plan empty a b y gs o hn own = refl
  time_of_plan (skip p) a zero y gs o hn own = absurd o
  time_of_plan (skip p) a (suc b) y gs o hn own = time_of_plan p a b y gs o.1 (omega arith) own
  time_of_plan (detour d inner rest) a zero y gs o hn own = absurd o
  time_of_plan (detour d inner rest) a (suc b) y gs o hn own =
      ap (λ gs'. time_by U y gs' s) (append_assoc (legs_in L R inner b) (record { left = L (suc d); right = R (suc b) } ∷ legs_in L R rest d) gs)
      ∙ time_of_plan inner (suc d) b y (record { left = L (suc d); right = R (suc b) } ∷ (legs_in L R rest d ++ gs)) o.2 (omega arith) own.1
      ∙ detour_time d b y a (time_by U (lagAfter L R U (detour d inner rest) (suc b) y) gs s) inner rest (legs_in L R rest d ++ gs) o hn own.0
      (time_of_plan rest a d (lagAfter L R U inner b y + trip L R U (suc d) (suc b)) gs o.3 (omega arith) own.2)

-- File numbers rise with the index.
abbrev pub Ascends : List Stop → Type 0
Ascends stops = (i : ℕ) → suc i < length stops → file_at stops i < file_at stops (suc i)

pub files_rise : (stops : List Stop) → Ascends stops → (i j : ℕ) → i < j → j < length stops → file_at stops i < file_at stops j
files_rise stops up i j h l = rises_by_steps (file_at stops) j (λ k m. up k (omega arith)) i j h (omega arith)

tail_ascends : (s : Stop) (ss : List Stop) → Ascends (s ∷ ss) → Ascends ss
tail_ascends s ss up i h = up (suc i) (omega arith)

-- A file's number leads back to its stop.
pub record ByFile (stops : List Stop) (i : ℕ) : Type 0 where
  pub start : start_of stops (file_at stops i) ≡ left_at stops i
  pub end : end_of stops (file_at stops i) ≡ right_at stops i
  pub reads : reads_of stops (file_at stops i) ≡ count_at stops i

pub by_file : (stops : List Stop) → Ascends stops → (i : ℕ) → i < length stops → ByFile stops i
unfolding start_of end_of reads_of
by_file [] up i h = absurd (omega arith)
by_file (s ∷ ss) up zero h =
    let here : eqb s.file s.file ≡ true = eq-eqb s.file s.file refl in
    record { start = rw here; end = rw here; reads = rw here }
by_file (s ∷ ss) up (suc i) h =
    let past : eqb s.file (file_at ss i) ≡ false = ne_eqb s.file (file_at ss i) (λ e. omega (arith, files_rise (s ∷ ss) up 0 (suc i) (omega arith) h)) in
    let later : ByFile ss i = by_file ss (tail_ascends s ss up) i (omega arith) in
    record { start = rw past later.start; end = rw past later.end; reads = rw past later.reads }

right_end_at : (s : Stop) (ss : List Stop) → right_end (s ∷ ss) ≡ right_at (s ∷ ss) (length ss)
unfolding right_end
right_end_at s [] = refl
right_end_at s (t ∷ ts) = right_end_at t ts

full_sweep_at : (stops : List Stop) (n : ℕ) → length stops ≡ suc n → full_sweep stops ≡ record { left = left_at stops 0; right = right_at stops n } ∷ []
unfolding full_sweep
full_sweep_at [] n e = absurd (omega arith)
full_sweep_at (s ∷ ss) n e =
    let q : length ss ≡ n = omega arith in
    rw (right_end_at s ss, q)

-- The legs of a plan's list, with the full sweep, are the plan's legs.
module _ (stops : List Stop) (up : Ascends stops) where
  detours_legs : (p : Plan) (a b : ℕ) → Over p a b → b < length stops → map (leg_of stops) (plan_detours (file_at stops) p b) ≡ legs_in (left_at stops) (right_at stops) p b
  unfolding plan_detours legs_in
  detours_legs empty a b o h = refl
  detours_legs (skip p) a zero o h = absurd o
  detours_legs (skip p) a (suc b) o h = detours_legs p a b o.1 (omega arith)
  detours_legs (detour d inner rest) a zero o h = absurd o
  detours_legs (detour d inner rest) a (suc b) o h =
      map-append (leg_of stops) (plan_detours (file_at stops) inner b) _
      ∙ rw (detours_legs inner (suc d) b o.2 (omega arith), detours_legs rest a d o.3 (omega arith), (by_file stops up (suc d) (omega arith)).start, (by_file stops up (suc b) h).end)

  pub legs_of_plan : (p : Plan) (n : ℕ) → Over p 0 n → length stops ≡ suc n
      → full_legs_of stops (plan_detours (file_at stops) p n) ≡ legs_in (left_at stops) (right_at stops) p n ++ record { left = left_at stops 0; right = right_at stops n } ∷ []
  unfolding full_legs_of
  legs_of_plan p n o e = rw (detours_legs p 0 n o (omega arith), full_sweep_at stops n e)

module _ (m n : ℕ) (stops : List Stop) (ok : SoundAny stops m) (size : length stops ≡ suc n) where
  spaced : Spaced (left_at stops) (right_at stops) n
  spaced = any_spaced stops m n ok size

  sweep : Leg
  sweep = record { left = left_at stops 0; right = right_at stops n }

  -- The full sweep reads every stop.
  sweep_reads : (i : ℕ) → i ≤ n → reads sweep (stop_at stops i) ≡ true
  unfolding sweep
  sweep_reads i h = leg_reads 0 (left_at stops) (right_at stops) n spaced (stop_at stops i) i h refl refl 0 n (omega arith) h (omega arith)

  module _ (p : Plan) (over : Over p 0 n) where
    legs : full_legs_of stops (plan_detours (file_at stops) p n) ≡ legs_in (left_at stops) (right_at stops) p n ++ sweep ∷ []
    unfolding sweep
    legs = legs_of_plan stops ok.ascends p n over size

    walk_moves_here : Moves m (full_legs_of stops (plan_detours (file_at stops) p n))
    unfolding sweep
    walk_moves_here =
        let top : left_at stops n < right_at stops n = ok.extends n (omega arith) in
        let low : left_at stops 0 ≤ left_at stops n = starts_rise (left_at stops) (right_at stops) n spaced 0 n (omega arith) (omega arith) in
        let reach : left_at stops n ≤ m = ok.within n (omega arith) in
        rw legs (moves_of_plan (left_at stops) (right_at stops) n spaced p 0 n m (sweep ∷ []) over (omega arith) (omega arith) (omega arith) (λ P' h. (h, omega arith, tt)))

    -- The walk reads each stop when the plan says; the stops that the plan leaves are read by the last sweep, wherever it ends.
    pub walk_times : Owned (left_at stops) p → (U i : ℕ) → i ≤ n
        → time_of U (head_at m) (legs_of stops (plan_detours (file_at stops) p n)) (stop_at stops i)
        ≡ planTime (left_at stops) (right_at stops) U p 0 n m i
    unfolding sweep
    walk_times own U i h =
        let o : left_at stops i < right_at stops i = ok.extends i (omega arith) in
        times_stay_any stops m ok (plan_detours (file_at stops) p n) U (head_at m) i (omega arith)
        ∙ time_by_lag U (stop_at stops i) (omega arith) (head_at m) (full_legs_of stops (plan_detours (file_at stops) p n)) walk_moves_here
        ∙ rw (zero-add m, legs)
        (time_of_plan U (left_at stops) (right_at stops) n spaced (stop_at stops i) i h refl refl p 0 n m (sweep ∷ []) over (omega arith) own
        ∙ ap (λ e. timeIn (left_at stops) (right_at stops) U p n m i e) (by_lag_read U _ sweep [] (stop_at stops i) (sweep_reads i h)))

pub sum_by_index : (U : ℕ) (h : Head) (gs : List Leg) (stops : List Stop) → sum_of U h gs stops ≡ W (λ i. count_at stops i * time_of U h gs (stop_at stops i)) (length stops)
unfolding sum_of W
sum_by_index U h gs [] = refl
sum_by_index U h gs (s ∷ ss) = omega (arith, sum_by_index U h gs ss, W-front (λ i. count_at (s ∷ ss) i * time_of U h gs (stop_at (s ∷ ss) i)) (length ss))

-- A movement that serves all of several stops serves each.
pub serves_each : (gs : List Leg) (stops : List Stop) → ServesAll gs stops → (i : ℕ) → i < length stops → T (served gs (stop_at stops i))
unfolding ServesAll
serves_each gs [] v i h = absurd (omega arith)
serves_each gs (s ∷ ss) v zero h = v.0
serves_each gs (s ∷ ss) v (suc i) h = serves_each gs ss v.1 i (omega arith)

module _ (m n : ℕ) (stops : List Stop) (ok : SoundAny stops m) (size : length stops ≡ suc n) (p : Plan) (over : Over p 0 n) (own : Owned (left_at stops) p) where
  -- The sum of the walk of a plan's list, by the plan's times.
  pub walk_sum : (U : ℕ)
      → sum_of U (head_at m) (legs_of stops (plan_detours (file_at stops) p n)) stops ≡ runSum (left_at stops) (right_at stops) (count_at stops) U p n m
  walk_sum U =
      let gs : List Leg = legs_of stops (plan_detours (file_at stops) p n) in
      sum_by_index U (head_at m) gs stops
      ∙ ap (W (λ i. count_at stops i * time_of U (head_at m) gs (stop_at stops i))) size
      ∙ W-same _ _ (suc n) (λ i h. ap (λ t. count_at stops i * t) (walk_times m n stops ok size p over own U i (omega arith)))
