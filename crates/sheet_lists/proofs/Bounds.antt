-- Every number on the plan sheet of an accepted run and a well-formed list is below 2 to the 64.
use Prim.Native.Nat.{ℕ, zero, suc, ◌+◌, ◌^◌, ◌≤◌, ◌<◌}
use mathlib.Core.Path.{◌≡◌}
use mathlib.Core.Bool.{false}
use mathlib.Core.List.{List, [], ◌∷◌, map}
use mathlib.Core.Logic.{⊎_elim}
use native.Mathlib.Omega.{arith}
use lib.ListN.{length, get_or}
use Rattle.refusals.proofs.Verdicts.{refuses}
use Rattle.runs.specs.Run.{Run, Stop, stops_of, want_stops_of, last_place}
use Rattle.runs.specs.Judging.{judge_of}
use Rattle.runs.specs.Lists.{list_of, list_verdict}
use Rattle.runs.proofs.Search.{true_or_false}
use Rattle.runs.proofs.Judged.{accepted_run}
use Rattle.walk.specs.declared.Head.{Head}
use Rattle.walk.specs.declared.Leg.{Leg}
use Rattle.walk.specs.Walk.{head_at, after_leg, walked, reads, leg_from, times_of, legs_for}
use Rattle.walk.specs.Detours.{legs_of}
use Rattle.walk.specs.Price.{priced_answer, priced_times, priced_legs}
use Rattle.walk.proofs.Walks.{accepted_list, run_walkable}
use Rattle.walk.proofs.Laws.{time_below}

-- The head ends where the last leg does, or where it started.
pub end_near : (turn most : ℕ) (gs : List Leg) (h : Head) → h.place ≤ most → ((i : ℕ) → i < length gs → (get_or gs i (record { left = 0; right = 0 })).right ≤ most) → (walked turn h gs).place ≤ most
unfolding walked
end_near turn most [] h near on = near
end_near turn most (g ∷ gs) h near on = end_near turn most gs (after_leg turn h g) (on 0 (omega arith)) (λ i l. on (suc i) (omega arith))

-- No leg's number passes that of the last.
pub leg_within : (gs : List Leg) (n : ℕ) (s : Stop) → leg_from n gs s ≤ n + length gs
unfolding leg_from
leg_within [] n s = omega arith
leg_within (g ∷ gs) n s =
    ⊎_elim
    (λ e. rw e (omega arith))
    (λ e. rw e (omega (arith, leg_within gs (suc n) s)))
    (true_or_false (reads g s))

-- Of a number for each stop every one is below what all are below.
pub each_below : (f : Stop → ℕ) (most : ℕ) → 0 < most → ((s : Stop) → f s < most) → (ss : List Stop) (i : ℕ) → get_or (map f ss) i 0 < most
each_below f most some small [] i = some
each_below f most some small (s ∷ ss) zero = small s
each_below f most some small (s ∷ ss) (suc i) = each_below f most some small ss i

module _ (r : Run) (froms tos : List ℕ) (run : refuses (judge_of r) ≡ false) (list : refuses (list_verdict (stops_of r) froms tos) ≡ false) where
  pub end_below : (priced_answer r (list_of froms tos)).end < 2 ^ 64
  unfolding priced_answer
  end_below =
      let w = run_walkable r (accepted_run r run) froms tos (accepted_list (stops_of r) froms tos list) in
      omega (arith, end_near r.turn last_place (legs_of (stops_of r) (list_of froms tos)) (head_at r.head) w.near w.on_tape)

  pub times_below : (i : ℕ) → get_or (priced_times r (list_of froms tos)) i 0 < 2 ^ 64
  unfolding priced_times times_of
  times_below i = each_below _ (2 ^ 64) (omega arith) (λ s. omega (arith, time_below r froms tos run list s)) (want_stops_of r) i

  pub legs_below : (i : ℕ) → get_or (priced_legs r (list_of froms tos)) i 0 < 2 ^ 64
  unfolding priced_legs legs_for
  legs_below i =
      let w = run_walkable r (accepted_run r run) froms tos (accepted_list (stops_of r) froms tos list) in
      each_below _ (2 ^ 64) (omega arith) (λ s. omega (arith, leg_within (legs_of (stops_of r) (list_of froms tos)) 1 s, w.few)) (want_stops_of r) i
