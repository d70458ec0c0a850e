-- A head anywhere: no movement from there beats the least list from there, for at least as many reads by stop and a turn price no lower.
use Prim.Native.Nat.{ℕ, suc, ◌+◌, ◌-◌, ◌*◌, ◌≤◌, ◌<◌}
use mathlib.Core.Path.{◌≡◌, refl, sym, ap, ◌∙◌}
use mathlib.Core.Bool.{cond}
use mathlib.Core.Logic.{inl, inr, by_cases}
use mathlib.Core.List.{List, [], ◌∷◌}
use native.Mathlib.Omega.{arith}
use native.Mathlib.Decide.{dec_lt}
use native.Mathlib.Nat.{le_refl, mul-le-mul_left}
use lib.Dec.{T, leb}
use lib.ListN.{length}
use borrow.Author.Tests.{le-leb, lt-leb}
use Rattle.runs.specs.Run.{Stop}
use Rattle.runs.specs.Rows.{stop_at}
use Rattle.runs.specs.Lists.{Detour}
use Rattle.runs.specs.AnyHead.{smaller, pulled}
use Rattle.runs.proofs.Sound.{Sound}
use Rattle.runs.proofs.AnyHead.{smaller_is, pulled_length}
use Rattle.walk.specs.declared.Leg.{Leg}
use Rattle.walk.specs.Walk.{head_at, Moves, served, ServesAll, time_of, sum_of}
use Rattle.walk.proofs.Pulled.{list_sum_pulled}
use Rattle.least.specs.Recurrence.{W, left_at, right_at, count_at, least_list}
use Rattle.least.specs.AnyHead.{list_sum_any, LeastAnyFor}
use Rattle.least.proofs.Rising.{rises_not_strictly}
use Rattle.least.proofs.Sums.{W-below}
use Rattle.least.proofs.Times.{starts_rise, ends_rise}
use Rattle.least.proofs.Movements.{PairLaw, served_inside, passed_first, floor_of_movement, pair_of_movement, turn_of_movement}
use Rattle.least.proofs.Feasible.{Feasible}
use Rattle.least.proofs.Walks.{sound_spaced, sum_by_index, serves_each}
use Rattle.least.proofs.LeastAny.{pulled_file, pulled_left, pulled_right, pulled_count, pulled_sound, least_any}
use Rattle.least.proofs.Unbeaten.{Covers, covered_sum}

-- What a movement from m must do for a stop: read it, or where it starts at or right of the head only come to its end.
abbrev passing : ℕ → Stop → Stop
passing m s = record { file = s.file; start = cond (leb m s.start) s.end s.start; end = s.end; count = s.count }

-- It lies inside the stop; where that starts left of the head it starts there, and elsewhere it is the stop's end.
record Passing (m : ℕ) (s : Stop) : Type 0 where
  inside : s.start ≤ (passing m s).start
  short : (passing m s).start ≤ s.end
  left : s.start < m → (passing m s).start ≡ s.start
  right : m ≤ s.start → (passing m s).start ≡ s.end

passing_is : (m : ℕ) (s : Stop) → s.start ≤ s.end → Passing m s
passing_is m s o =
    by_cases
    (dec_lt s.start m)
    (λ h.
    let e : (passing m s).start ≡ s.start = rw (lt-leb m s.start h) in
    record { inside = omega arith; short = omega arith; left = λ l. e; right = λ l. absurd (omega arith) })
    (λ h.
    let e : (passing m s).start ≡ s.end = rw (le-leb m s.start (omega arith)) in
    record { inside = omega arith; short = omega arith; left = λ l. absurd (omega arith); right = λ l. e })

-- The times at which a movement passes: no later than it reads, and feasible for the stops as the head meets them.
module _ (U m : ℕ) (gs : List Leg) (moves : Moves m gs) where
  pass : Stop → ℕ
  pass s = time_of U (head_at m) gs (passing m s)

  module _ (s : Stop) (o : s.start ≤ s.end) (t : T (served gs s)) where
    pass_served : T (served gs (passing m s))
    pass_served = served_inside (passing m s) s (passing_is m s o).inside (le_refl s.end) gs t

    pass_no_later : pass s ≤ time_of U (head_at m) gs s
    unfolding pass
    pass_no_later =
        omega (arith, passed_first U (passing m s) s (passing_is m s o).short o (le_refl s.end) (head_at m) gs moves t (inl (passing_is m s o).inside))

    pass_floor : m + U + s.end ≤ pass s + 2 * smaller s.start m
    unfolding pass
    pass_floor =
        let is = passing_is m s o in
        by_cases
        (dec_lt s.start m)
        (λ h. omega (arith, floor_of_movement U m gs moves (passing m s) is.short pass_served, is.left h, (smaller_is s.start m).same (omega arith)))
        (λ h. omega (arith, turn_of_movement U m gs moves (passing m s) is.short pass_served, (smaller_is s.start m).other (omega arith)))

  -- Of two stops that start at or right of the head the left one is passed first.
  pass_pair : (g f : Stop) → g.start ≤ g.end → f.start ≤ f.end → T (served gs g) → T (served gs f) → g.start ≤ f.start → g.end ≤ f.end
      → PairLaw U (smaller g.start m) g.end f.end (pass g) (pass f)
  unfolding pass
  pass_pair g f og of tg tf starts ends =
      let is = passing_is m g og in
      let far = passing_is m f of in
      by_cases
      (dec_lt g.start m)
      (λ h.
      let e : smaller g.start m ≡ (passing m g).start = (smaller_is g.start m).same (omega arith) ∙ sym (is.left h) in
      rw e (pair_of_movement U m gs moves (passing m g) (passing m f) is.short far.short (pass_served g og tg) (pass_served f of tf)))
      (λ h.
      inl (passed_first U (passing m g) (passing m f) is.short far.short ends (head_at m) gs moves (pass_served f of tf)
      (inr (omega (arith, is.right (omega arith)), omega (arith, is.right (omega arith))))))

module _ (U m M n : ℕ) (stops : List Stop) (ok : Sound stops M) (size : length stops ≡ suc n) (gs : List Leg) (moves : Moves m gs) (serves : ServesAll gs stops) where
  long : (i : ℕ) → i ≤ n → (stop_at stops i).start ≤ (stop_at stops i).end
  long i h = omega (arith, ok.extends i (omega arith))

  all : (i : ℕ) → i ≤ n → T (served gs (stop_at stops i))
  all i h = serves_each gs stops serves i (omega arith)

  passes : ℕ → ℕ
  passes i = pass U m gs moves (stop_at stops i)

  passes_feasible : Feasible m U (left_at (pulled m stops)) (right_at (pulled m stops)) n passes
  unfolding passes
  passes_feasible =
      record {
        floor = λ i h.
            rw (pulled_left m stops i (omega arith), pulled_right m stops i (omega arith)) (pass_floor U m gs moves (stop_at stops i) (long i h) (all i h));
        pair = λ i j l h.
            rw (pulled_left m stops i (omega arith), pulled_right m stops i (omega arith), pulled_right m stops j (omega arith))
            (pass_pair U m gs moves (stop_at stops i) (stop_at stops j) (long i (omega arith)) (long j h) (all i (omega arith)) (all j h)
            (starts_rise (left_at stops) (right_at stops) n (sound_spaced stops M n ok size) i j (omega arith) h)
            (rises_not_strictly (right_at stops) n (ends_rise (left_at stops) (right_at stops) n (sound_spaced stops M n ok size)) i j (omega arith) h));
      }

  -- They make no larger a sum than the movement's.
  passes_sum : W (λ i. count_at (pulled m stops) i * passes i) (length (pulled m stops)) ≤ sum_of U (head_at m) gs stops
  unfolding passes
  passes_sum =
      rw (pulled_length m stops)
      (omega (
        arith,
        W-below
            (λ i. count_at (pulled m stops) i * passes i)
            (λ i. count_at stops i * time_of U (head_at m) gs (stop_at stops i))
            (length stops)
            (λ i h. rw (pulled_count m stops i h) (mul-le-mul_left (count_at stops i) (pass_no_later U m gs moves (stop_at stops i) (long i (omega arith)) (all i (omega arith))))),
        sum_by_index U (head_at m) gs stops,
      ))

-- What covers as it lies covers as the head meets it.
pulled_covers : (m : ℕ) (stops stops' : List Stop) → Covers stops stops' → Covers (pulled m stops) (pulled m stops')
pulled_covers m stops stops' c =
    record {
      index = c.index;
      within = λ i l. omega (arith, c.within i (fits i l), pulled_length m stops);
      files = λ i l. pulled_file m stops (c.index i) (c.within i (fits i l)) ∙ c.files i (fits i l) ∙ sym (pulled_file m stops' i (fits i l));
      starts = λ i l.
          pulled_left m stops (c.index i) (c.within i (fits i l)) ∙ ap (λ x. smaller x m) (c.starts i (fits i l)) ∙ sym (pulled_left m stops' i (fits i l));
      ends = λ i l. pulled_right m stops (c.index i) (c.within i (fits i l)) ∙ c.ends i (fits i l) ∙ sym (pulled_right m stops' i (fits i l));
      counts = λ i l.
          omega (arith, pulled_count m stops (c.index i) (c.within i (fits i l)), c.counts i (fits i l), pulled_count m stops' i (fits i l));
    }
  where
    fits : (i : ℕ) → i < length (pulled m stops') → i < length stops'
    fits i l = omega (arith, pulled_length m stops')

none_unbeaten_any : (U m : ℕ) (list : List Detour) → list_sum_any U m [] list ≡ 0
unfolding sum_of
none_unbeaten_any U m list = refl

some_unbeaten_any : (U U' m M M' n n' : ℕ) (stops stops' : List Stop) → Sound stops M → Sound stops' M' → length stops ≡ suc n → length stops' ≡ suc n' → U' ≤ U → Covers stops stops'
    → (gs : List Leg) → Moves m gs → ServesAll gs stops → (list : List Detour) → LeastAnyFor U' m stops' list → list_sum_any U' m stops' list ≤ sum_of U (head_at m) gs stops
some_unbeaten_any U U' m M M' n n' stops stops' ok ok' size size' hU covers gs moves serves list least =
    omega (
      arith,
      least.smallest (least_list U' (pulled m stops')) (least_any U' m M' stops' ok').formed,
      list_sum_pulled m U' (head_at m) stops' (least_list U' (pulled m stops')),
      covered_sum U m U' m n n' (pulled m stops) (pulled m stops') (pulled_sound m M stops ok) (pulled_sound m M' stops' ok')
          (pulled_length m stops ∙ size) (pulled_length m stops' ∙ size') (pulled_covers m stops stops' covers)
          (passes U m M n stops ok size gs moves serves) (passes_feasible U m M n stops ok size gs moves serves) (le_refl m) hU,
      passes_sum U m M n stops ok size gs moves serves,
    )

pub no_movement_beats_any :
    (U U' m M M' : ℕ) (stops stops' : List Stop) →
    Sound stops M →
    Sound stops' M' →
    U' ≤ U →
    Covers stops stops' →
    (gs : List Leg) →
    Moves m gs →
    ServesAll gs stops →
    (list : List Detour) →
    LeastAnyFor U' m stops' list →
    list_sum_any U' m stops' list ≤ sum_of U (head_at m) gs stops
no_movement_beats_any U U' m M M' stops [] ok ok' hU covers gs moves serves list least = omega (arith, none_unbeaten_any U' m list)
no_movement_beats_any U U' m M M' stops (s ∷ ss) ok ok' hU covers gs moves serves list least =
    some_unbeaten_any U U' m M M' (length stops - 1) (length ss) stops (s ∷ ss) ok ok' (omega (arith, covers.within 0 (omega arith))) refl hU covers gs moves serves list least

-- Nor does any read a stop before one turn and the way to its end.
pub no_read_before : (U U' m : ℕ) (s : Stop) → s.start ≤ s.end → U' ≤ U → (gs : List Leg) → Moves m gs → T (served gs s) → U' + s.end ≤ time_of U (head_at m) gs s + m
no_read_before U U' m s o hU gs moves t = omega (arith, turn_of_movement U m gs moves s o t)
