-- The last sweep ends where nothing is left to read. It still reads every stop that no detour has read, so that no time depends on where it
-- ends; and the walk of a well-formed list ends with a read. Which leg reads a stop, and what that says of its time.
use Prim.Native.Nat.{ℕ, zero, suc, ◌+◌, ◌-◌, ◌*◌, ◌≤◌, ◌<◌}
use mathlib.Core.Path.{◌≡◌, refl, sym, ap, ◌∙◌}
use mathlib.Core.Bool.{true, false, or-true, true≢false}
use mathlib.Core.Logic.{⊎_elim}
use mathlib.Core.List.{List, [], ◌∷◌, ◌++◌, map}
use native.Mathlib.Omega.{arith}
use lib.Dec.{eqb}
use lib.ListN.{length, length-append, length-map}
use borrow.Author.Tests.{le-leb, lt-leb, leb-false, eqb-true, not-false}
use Rattle.walk.specs.declared.Head.{Head}
use Rattle.walk.specs.declared.Leg.{Leg}
use Rattle.runs.specs.Run.{Stop}
use Rattle.runs.specs.Judging.{right_end}
use Rattle.runs.specs.Rows.{stop_at}
use Rattle.runs.specs.Lists.{Detour, wanted, bad_alone, bad_entry, entry_of, WellFormed, first_bad_entry}
use Rattle.walk.specs.Walk.{head_at, set_off, after_leg, run_right, walked, reads, served, ServesAll, time_of, leg_from, leg_for}
use Rattle.walk.specs.Detours.{start_of, leg_of, unread_end, sweep_end, last_sweep, legs_of, full_sweep, full_legs_of}
use Rattle.runs.proofs.Search.{true_or_false, or_false_both, first_zero}
use Rattle.runs.proofs.Sound.{Sound, SoundAny, sound_any}
use Rattle.walk.proofs.Steps.{read_inside}
use Rattle.walk.proofs.Sweeps.{Unread, unread_or_none, passed, kept}
use Rattle.least.proofs.Movements.{faced_later, after_clock, time_when_read, time_when_not, read_at}
use Rattle.least.proofs.Rising.{rises_by_steps}

-- Stops further right end further right.
abbrev EndsRise : List Stop → Type 0
EndsRise ss = (i j : ℕ) → i < j → j < length ss → (stop_at ss i).end ≤ (stop_at ss j).end

ends_rise : (stops : List Stop) (m : ℕ) → SoundAny stops m → EndsRise stops
ends_rise stops m ok i j l h =
    let up = rises_by_steps (λ k. (stop_at stops k).end) j (λ k b. ok.ends k (omega arith)) i j l (omega arith) in
    omega (arith, up)

tail_rises : (s : Stop) (ss : List Stop) → EndsRise (s ∷ ss) → EndsRise ss
tail_rises s ss up i j l h = up (suc i) (suc j) (omega arith) (omega arith)

-- The search for the last unread stop never goes back, and so passes the end of none that is unread.
module _ (gs : List Leg) where
  no_sooner_here : (ss : List Stop) (e : ℕ) → EndsRise ss → ((i : ℕ) → i < length ss → e ≤ (stop_at ss i).end) → e ≤ unread_end gs ss e
  unfolding unread_end
  no_sooner_here [] e up low = omega arith
  no_sooner_here (s ∷ ss) e up low =
      ⊎_elim
      (λ t. rw (passed gs s ss e t) (no_sooner_here ss e (tail_rises s ss up) (λ i l. low (suc i) (omega arith))))
      (λ f. let rest = no_sooner_here ss s.end (tail_rises s ss up) (λ i l. up 0 (suc i) (omega arith) (omega arith)) in omega (arith, kept gs s ss e f, rest, low 0 (omega arith)))
      (true_or_false (served gs s))

  reaches : (ss : List Stop) (e : ℕ) → EndsRise ss → (i : ℕ) → i < length ss → served gs (stop_at ss i) ≡ false → (stop_at ss i).end ≤ unread_end gs ss e
  unfolding unread_end
  reaches [] e up i l f = absurd (omega arith)
  reaches (s ∷ ss) e up zero l f = rw (kept gs s ss e f) (no_sooner_here ss s.end (tail_rises s ss up) (λ i b. up 0 (suc i) (omega arith) (omega arith)))
  reaches (s ∷ ss) e up (suc i) l f = reaches ss _ (tail_rises s ss up) i (omega arith) f

  sweep_reaches : (s : Stop) (ss : List Stop) → EndsRise (s ∷ ss) → (i : ℕ) → i < length (s ∷ ss) → served gs (stop_at (s ∷ ss) i) ≡ false
      → (stop_at (s ∷ ss) i).end ≤ sweep_end gs (s ∷ ss)
  unfolding sweep_end
  sweep_reaches s ss up zero l f = no_sooner_here ss s.end (tail_rises s ss up) (λ i b. up 0 (suc i) (omega arith) (omega arith))
  sweep_reaches s ss up (suc i) l f = reaches ss s.end (tail_rises s ss up) i (omega arith) f

-- A sweep from the leftmost stop.
module _ (first : Stop) (later : List Stop) (m : ℕ) (ok : SoundAny (first ∷ later) m) where
  starts_right : (i : ℕ) → i < length (first ∷ later) → first.start ≤ (stop_at (first ∷ later) i).start
  starts_right zero l = omega arith
  starts_right (suc i) l =
      let before = starts_right i (omega arith) in
      omega (arith, before, ok.starts i l)

rightmost : (s : Stop) (ss : List Stop) → EndsRise (s ∷ ss) → (i : ℕ) → i < length (s ∷ ss) → (stop_at (s ∷ ss) i).end ≤ right_end (s ∷ ss)
unfolding right_end
rightmost s [] up zero l = omega arith
rightmost s [] up (suc i) l = absurd (omega arith)
rightmost s (t ∷ ts) up zero l =
    let rest = rightmost t ts (tail_rises s (t ∷ ts) up) 0 (omega arith) in
    omega (arith, rest, up 0 1 (omega arith) (omega arith))
rightmost s (t ∷ ts) up (suc i) l = rightmost t ts (tail_rises s (t ∷ ts) up) i (omega arith)

module _ (s : Stop) (ss : List Stop) (m : ℕ) (ok : SoundAny (s ∷ ss) m) (list : List Detour) (i : ℕ) (l : i < length (s ∷ ss)) where
  detours : List Leg
  detours = map (leg_of (s ∷ ss)) list

  -- The last sweep reads what no detour has; the full one reads everything.
  sweep_reads : served detours (stop_at (s ∷ ss) i) ≡ false → reads (record { left = s.start; right = sweep_end detours (s ∷ ss) }) (stop_at (s ∷ ss) i) ≡ true
  sweep_reads f =
      rw (
        le-leb s.start (stop_at (s ∷ ss) i).start (starts_right s ss m ok i l),
        le-leb (stop_at (s ∷ ss) i).end (sweep_end detours (s ∷ ss)) (sweep_reaches detours s ss (ends_rise (s ∷ ss) m ok) i l f),
      )

  full_reads : reads (record { left = s.start; right = right_end (s ∷ ss) }) (stop_at (s ∷ ss) i) ≡ true
  full_reads = rw (le-leb s.start (stop_at (s ∷ ss) i).start (starts_right s ss m ok i l), le-leb (stop_at (s ∷ ss) i).end (right_end (s ∷ ss)) (rightmost s ss (ends_rise (s ∷ ss) m ok) i l))

-- The time of a stop is the same with either of two last legs from the same start that both read it, or where it has been read before.
last_alike : (U : ℕ) (gs : List Leg) (a b : Leg) (s : Stop) → a.left ≡ b.left → (served gs s ≡ false → reads a s ≡ reads b s)
    → (h : Head) → time_of U h (gs ++ a ∷ []) s ≡ time_of U h (gs ++ b ∷ []) s
unfolding served time_of
last_alike U [] a b s e alike h = rw (alike refl, e)
last_alike U (g ∷ gs) a b s e alike h =
    ⊎_elim
    (λ t. rw t)
    (λ f. rw f (last_alike U gs a b s e (λ n. alike (rw (f, n))) (after_leg U h g)))
    (true_or_false (reads g s))

-- No time depends on where the last sweep ends.
pub times_stay_any : (stops : List Stop) (m : ℕ) → SoundAny stops m → (list : List Detour) (U : ℕ) (h : Head) (i : ℕ) → i < length stops
    → time_of U h (legs_of stops list) (stop_at stops i) ≡ time_of U h (full_legs_of stops list) (stop_at stops i)
unfolding legs_of last_sweep full_legs_of full_sweep detours
times_stay_any [] m ok list U h i l = absurd (omega arith)
times_stay_any (s ∷ ss) m ok list U h i l =
    last_alike U (map (leg_of (s ∷ ss)) list) _ _ (stop_at (s ∷ ss) i) refl (λ f. sweep_reads s ss m ok list i l f ∙ sym (full_reads s ss m ok list i l)) h

pub times_stay : (stops : List Stop) (m : ℕ) → Sound stops m → (list : List Detour) (U : ℕ) (h : Head) (i : ℕ) → i < length stops
    → time_of U h (legs_of stops list) (stop_at stops i) ≡ time_of U h (full_legs_of stops list) (stop_at stops i)
times_stay stops m ok = times_stay_any stops m (sound_any stops m ok)

-- With no detour the sweep reads every stop.
pub swept_time : (s : Stop) (ss : List Stop) (m : ℕ) → SoundAny (s ∷ ss) m → (U i : ℕ) → i < length (s ∷ ss)
    → time_of U (head_at m) (legs_of (s ∷ ss) []) (stop_at (s ∷ ss) i) + 2 * s.start ≡ m + U + (stop_at (s ∷ ss) i).end
unfolding legs_of last_sweep served detours
swept_time s ss m ok U i l =
    let sweep : Leg = record { left = s.start; right = sweep_end [] (s ∷ ss) } in
    let long : (stop_at (s ∷ ss) i).start < (stop_at (s ∷ ss) i).end = ok.extends i l in
    omega (arith, read_at U (head_at m) sweep [] (stop_at (s ∷ ss) i) (ok.within 0 (omega arith)) (omega arith) (sweep_reads s ss m ok [] i l refl))

-- What is served by some legs is served by more.
served_after : (gs hs : List Leg) (s : Stop) → served hs s ≡ true → served (gs ++ hs) s ≡ true
unfolding served
served_after [] hs s e = e
served_after (g ∷ gs) hs s e = rw (served_after gs hs s e, or-true)

served_before : (gs hs : List Leg) (s : Stop) → served gs s ≡ true → served (gs ++ hs) s ≡ true
unfolding served
served_before [] hs s e = absurd (true≢false (sym e))
served_before (g ∷ gs) hs s e =
    ⊎_elim (λ t. rw t) (λ f. rw f (served_before gs hs s (rw f at e))) (true_or_false (reads g s))

pub serves_each : (gs : List Leg) (ss : List Stop) → ((i : ℕ) → i < length ss → served gs (stop_at ss i) ≡ true) → ServesAll gs ss
unfolding ServesAll
serves_each gs [] h = tt
serves_each gs (s ∷ ss) h = (rw (h 0 (omega arith)) tt, serves_each gs ss (λ i l. h (suc i) (omega arith)))

-- The walk of a list reads every stop: what no detour reads, the last sweep does.
pub each_served_any : (stops : List Stop) (m : ℕ) → SoundAny stops m → (list : List Detour) (i : ℕ) → i < length stops → served (legs_of stops list) (stop_at stops i) ≡ true
unfolding legs_of last_sweep served detours
each_served_any [] m ok list i l = absurd (omega arith)
each_served_any (s ∷ ss) m ok list i l =
    ⊎_elim
    (λ t. served_before (map (leg_of (s ∷ ss)) list) (last_sweep (s ∷ ss) list) (stop_at (s ∷ ss) i) t)
    (λ f. served_after (map (leg_of (s ∷ ss)) list) (last_sweep (s ∷ ss) list) (stop_at (s ∷ ss) i) (rw (sweep_reads s ss m ok list i l f)))
    (true_or_false (served (map (leg_of (s ∷ ss)) list) (stop_at (s ∷ ss) i)))

pub each_served : (stops : List Stop) (m : ℕ) → Sound stops m → (list : List Detour) (i : ℕ) → i < length stops → served (legs_of stops list) (stop_at stops i) ≡ true
each_served stops m ok = each_served_any stops m (sound_any stops m ok)

pub all_served : (stops : List Stop) (m : ℕ) → Sound stops m → (list : List Detour) → ServesAll (legs_of stops list) stops
all_served stops m ok list = serves_each (legs_of stops list) stops (each_served stops m ok list)

-- The clock never falls, so that no read comes after the walk's end.
pub clock_grows : (U : ℕ) (h : Head) (gs : List Leg) → h.clock ≤ (walked U h gs).clock
unfolding walked
clock_grows U h [] = omega arith
clock_grows U h (g ∷ gs) = omega (arith, clock_grows U (after_leg U h g) gs, after_clock U h g, faced_later h.way h U)

pub time_by_end : (U : ℕ) (h : Head) (gs : List Leg) (s : Stop) → time_of U h gs s ≤ (walked U h gs).clock
unfolding time_of walked
time_by_end U h [] s = omega arith
time_by_end U h (g ∷ gs) s =
    ⊎_elim
    (λ t. rw t (omega (arith, clock_grows U (after_leg U h g) gs, (read_inside g s t).1)))
    (λ f. rw f (time_by_end U (after_leg U h g) gs s))
    (true_or_false (reads g s))

-- The last leg, after the others.
module _ (U : ℕ) (a : Leg) where
  walked_last : (h : Head) (gs : List Leg) → walked U h (gs ++ a ∷ []) ≡ after_leg U (walked U h gs) a
  unfolding walked
  walked_last h [] = refl
  walked_last h (g ∷ gs) = walked_last (after_leg U h g) gs

  time_last : (h : Head) (gs : List Leg) (s : Stop) → served gs s ≡ false → reads a s ≡ true
      → time_of U h (gs ++ a ∷ []) s ≡ (run_right (set_off U (walked U h gs) a) s.end).clock
  unfolding time_of walked served
  time_last h [] s f t = time_when_read U h a [] s t
  time_last h (g ∷ gs) s f t =
      let n = or_false_both _ _ f in
      time_when_not U h g (gs ++ a ∷ []) s n.0 ∙ time_last (after_leg U h g) gs s n.1 t

-- A file right of a place starts right of it; a well-formed list's detours start right of the leftmost stop, so none of them reads it.
starts_past : (a : ℕ) (ss : List Stop) (f : ℕ) → ((i : ℕ) → i < length ss → a < (stop_at ss i).start) → wanted ss f ≡ true → a < start_of ss f
unfolding wanted start_of
starts_past a [] f low w = absurd (true≢false (sym w))
starts_past a (s ∷ ss) f low w =
    ⊎_elim
    (λ here. rw here (low 0 (omega arith)))
    (λ away. rw away (starts_past a ss f (λ i l. low (suc i) (omega arith)) (rw away at w)))
    (true_or_false (eqb s.file f))

pub none_reads_first : (s : Stop) (ss : List Stop) (ds : List Detour) → ((i : ℕ) → i < length ds → s.start < start_of (s ∷ ss) (entry_of ds i).from)
    → served (map (leg_of (s ∷ ss)) ds) s ≡ false
unfolding served
none_reads_first s ss [] each = refl
none_reads_first s ss (d ∷ ds) each =
    rw (lt-leb (start_of (s ∷ ss) d.from) s.start (each 0 (omega arith))) (none_reads_first s ss ds (λ i l. each (suc i) (omega arith)))

module _ (s : Stop) (ss : List Stop) (m : ℕ) (ok : Sound (s ∷ ss) m) where
  past_first : (i : ℕ) → i < length ss → s.start < (stop_at ss i).start
  past_first i l = omega (arith, ok.extends 0 (omega arith), ok.apart 0 (omega arith), starts_right_of i l)
    where
      starts_right_of : (i : ℕ) → i < length ss → s.end ≤ (stop_at ss i).start
      starts_right_of zero l = ok.apart 0 (omega arith)
      starts_right_of (suc i) l = omega (arith, starts_right_of i (omega arith), ok.extends (suc i) (omega arith), ok.apart (suc i) (omega arith))

  pub detour_past_first : (d : Detour) → bad_alone (s ∷ ss) d ≡ false → s.start < start_of (s ∷ ss) d.from
  unfolding wanted start_of
  detour_past_first d b =
      let four = or_false_both _ _ b in
      let two = or_false_both _ _ (or_false_both _ _ four.0).0 in
      let asked : wanted (s ∷ ss) d.from ≡ true = not-false _ two.0 in
      let right : s.file < d.from = leb-false d.from s.file four.1 in
      ⊎_elim
      (λ here. let e = eqb-true s.file d.from here in absurd (omega arith))
      (λ away. rw away (starts_past s.start ss d.from past_first (rw away at asked)))
      (true_or_false (eqb s.file d.from))

-- The last event of a walk is a read: its clock is the largest of the stops' times, and its place the end of the stop that has it.
pub record LastRead (U : ℕ) (h : Head) (gs : List Leg) (stops : List Stop) : Type 0 where
  pub index : ℕ
  pub within : index < length stops
  pub clock : (walked U h gs).clock ≡ time_of U h gs (stop_at stops index)
  pub place : (walked U h gs).place ≡ (stop_at stops index).end
  pub latest : (i : ℕ) → i < length stops → time_of U h gs (stop_at stops i) ≤ (walked U h gs).clock

first_unread : (s : Stop) (ss : List Stop) (m : ℕ) → Sound (s ∷ ss) m → (list : List Detour) → WellFormed (s ∷ ss) list → served (map (leg_of (s ∷ ss)) list) s ≡ false
unfolding first_bad_entry
first_unread s ss m ok list formed =
    none_reads_first s ss list
    (λ i l. detour_past_first s ss m ok (entry_of list i) (or_false_both _ _ (first_zero (bad_entry (s ∷ ss) list) (length list) formed i l)).0)

module _ (s : Stop) (ss : List Stop) (m : ℕ) (ok : SoundAny (s ∷ ss) m) (list : List Detour) (unread : served (map (leg_of (s ∷ ss)) list) s ≡ false) (U : ℕ) where
  gs : List Leg
  gs = map (leg_of (s ∷ ss)) list

  read_last : (i : ℕ) → i < length (s ∷ ss) → served gs (stop_at (s ∷ ss) i) ≡ false → sweep_end gs (s ∷ ss) ≡ (stop_at (s ∷ ss) i).end
      → LastRead U (head_at m) (legs_of (s ∷ ss) list) (s ∷ ss)
  unfolding legs_of last_sweep gs detours
  read_last i l f e =
      let sweep : Leg = record { left = s.start; right = sweep_end gs (s ∷ ss) } in
      let ends = walked_last U sweep (head_at m) gs in
      record {
        index = i;
        within = l;
        clock = ap (λ h. h.clock) ends ∙ ap (λ x. (run_right (set_off U (walked U (head_at m) gs) sweep) x).clock) e ∙ sym (time_last U sweep (head_at m) gs (stop_at (s ∷ ss) i) f (sweep_reads s ss m ok list i l f));
        place = ap (λ h. h.place) ends ∙ e;
        latest = λ j b. time_by_end U (head_at m) (legs_of (s ∷ ss) list) (stop_at (s ∷ ss) j);
      }

  pub ends_with_a_read : LastRead U (head_at m) (legs_of (s ∷ ss) list) (s ∷ ss)
  unfolding sweep_end gs
  ends_with_a_read =
      ⊎_elim
      (λ q. read_last 0 (omega arith) unread q)
      (λ u. read_last (suc u.index) (omega (arith, u.within)) u.unread u.is)
      (unread_or_none gs ss s.end)

pub last_read : (stops : List Stop) (m : ℕ) → Sound stops m → 0 < length stops → (list : List Detour) → WellFormed stops list → (U : ℕ)
    → LastRead U (head_at m) (legs_of stops list) stops
last_read [] m ok some list formed U = absurd (omega arith)
last_read (s ∷ ss) m ok some list formed U = ends_with_a_read s ss m (sound_any (s ∷ ss) m ok) list (first_unread s ss m ok list formed) U

-- The leftmost stop is read by the last leg.
leg_last : (gs : List Leg) (a : Leg) (s : Stop) (n : ℕ) → served gs s ≡ false → reads a s ≡ true → leg_from n (gs ++ a ∷ []) s ≡ n + length gs
unfolding served leg_from
leg_last [] a s n f t = rw t (omega arith)
leg_last (g ∷ gs) a s n f t =
    let none = or_false_both (reads g s) (served gs s) f in
    rw none.0 (omega (arith, leg_last gs a s (suc n) none.1 t))

pub leftmost_last_any : (s : Stop) (ss : List Stop) (m : ℕ) → SoundAny (s ∷ ss) m → (list : List Detour) → served (map (leg_of (s ∷ ss)) list) s ≡ false
    → leg_for (legs_of (s ∷ ss) list) s ≡ length list + 1
unfolding legs_of last_sweep detours
leftmost_last_any s ss m ok list f =
    let last = leg_last (map (leg_of (s ∷ ss)) list) (record { left = s.start; right = sweep_end (map (leg_of (s ∷ ss)) list) (s ∷ ss) }) s 1 f (sweep_reads s ss m ok list 0 (omega arith) f) in
    omega (arith, last, length-map list (leg_of (s ∷ ss)))

pub leftmost_last : (s : Stop) (ss : List Stop) (m : ℕ) → Sound (s ∷ ss) m → (list : List Detour) → WellFormed (s ∷ ss) list
    → leg_for (legs_of (s ∷ ss) list) s ≡ length list + 1
leftmost_last s ss m ok list formed = leftmost_last_any s ss m (sound_any (s ∷ ss) m ok) list (first_unread s ss m ok list formed)

-- How many legs there are: the detours and the sweep.
pub legs_count : (s : Stop) (ss : List Stop) (list : List Detour) → length (legs_of (s ∷ ss) list) ≡ length list + 1
unfolding legs_of last_sweep
legs_count s ss list = rw (length-append, length-map list (leg_of (s ∷ ss)))

-- A stop that is read is read after the movement's start; so stops that are read in different legs have different times.
read_later : (U : ℕ) (h : Head) (gs : List Leg) (s : Stop) → s.start < s.end → served gs s ≡ true → h.clock < time_of U h gs s
unfolding served time_of
read_later U h [] s o t = absurd (true≢false (sym t))
read_later U h (g ∷ gs) s o t =
    ⊎_elim
    (λ e. rw e (omega (arith, (read_inside g s e).0, faced_later h.way h U)))
    (λ e. rw e (omega (arith, read_later U (after_leg U h g) gs s o (rw e at t), after_clock U h g, faced_later h.way h U)))
    (true_or_false (reads g s))

numbered_from : (n : ℕ) (gs : List Leg) (s : Stop) → served gs s ≡ true → n ≤ leg_from n gs s
unfolding served leg_from
numbered_from n [] s t = absurd (true≢false (sym t))
numbered_from n (g ∷ gs) s t =
    ⊎_elim (λ e. rw e (omega arith)) (λ e. rw e (omega (arith, numbered_from (suc n) gs s (rw e at t)))) (true_or_false (reads g s))

pub earlier_leg : (U : ℕ) (s t : Stop) → t.start < t.end → (h : Head) (n : ℕ) (gs : List Leg) → served gs s ≡ true → served gs t ≡ true
    → leg_from n gs s < leg_from n gs t → time_of U h gs s < time_of U h gs t
unfolding served leg_from
earlier_leg U s t o h n [] a b l = absurd (true≢false (sym a))
earlier_leg U s t o h n (g ∷ gs) a b l =
    ⊎_elim
    (λ e. ⊎_elim (λ f. absurd (both e f)) (λ f. first e f) (true_or_false (reads g t)))
    (λ e. ⊎_elim (λ f. absurd (second e f)) (λ f. omega (arith, time_when_not U h g gs s e, time_when_not U h g gs t f, earlier_leg U s t o (after_leg U h g) (suc n) gs (rw e at a) (rw f at b) (neither e f))) (true_or_false (reads g t)))
    (true_or_false (reads g s))
  where
    both : reads g s ≡ true → reads g t ≡ true → ⊥
    both e f = let no : n < n = rw (e, f) at l in omega arith

    second : reads g s ≡ false → reads g t ≡ true → ⊥
    second e f =
        let no : leg_from (suc n) gs s < n = rw (e, f) at l in
        let from = numbered_from (suc n) gs s (rw e at a) in
        omega arith

    neither : reads g s ≡ false → reads g t ≡ false → leg_from (suc n) gs s < leg_from (suc n) gs t
    neither e f = let half : leg_from (suc n) gs s < leg_from n (g ∷ gs) t = rw e at l in rw f at half

    first : reads g s ≡ true → reads g t ≡ false → time_of U h (g ∷ gs) s < time_of U h (g ∷ gs) t
    first e f =
        omega (arith, time_when_read U h g gs s e, time_when_not U h g gs t f, read_later U (after_leg U h g) gs t o (rw f at b), (read_inside g s e).1)
