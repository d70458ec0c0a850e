-- Laws for the crates above: a file read by the first leg from its own start has 01's time, and for an accepted run and list every time and
-- sum is far below what a word holds.
use Prim.Native.Nat.{ℕ, ◌+◌, ◌-◌, ◌*◌, ◌≤◌, ◌<◌, ◌^◌}
use mathlib.Core.Path.{◌≡◌}
use mathlib.Core.Bool.{false}
use mathlib.Core.List.{List, [], ◌∷◌}
use native.Mathlib.Omega.{arith}
use native.Mathlib.Nat.{mul-le-mul_left}
use borrow.Author.Tests.{le-leb}
use Rattle.walk.specs.declared.Leg.{Leg}
use Rattle.runs.specs.Run.{Run, Stop, stops_of}
use Rattle.runs.specs.Judging.{judge_of}
use Rattle.walk.specs.Walk.{head_at, time_of, sum_of}
use Rattle.runs.specs.Lists.{list_of, list_verdict}
use Rattle.runs.specs.AnyHead.{judge_any_of, list_verdict_any, lifted}
use Rattle.walk.specs.Detours.{legs_of}
use Rattle.walk.specs.Price.{priced_answer}
use Rattle.walk.specs.AnyHead.{run_legs, priced_any_answer}
use Rattle.walk.specs.Private.{Walkable}
use Rattle.refusals.proofs.Verdicts.{refuses}
use Rattle.runs.proofs.Judged.{accepted_run}
use Rattle.runs.proofs.Joined.{reads_of}
use Rattle.runs.proofs.Stops.{stops_reads}
use Rattle.runs.proofs.AnyHead.{GoodAnyRun, accepted_any}
use Rattle.walk.proofs.Walks.{accepted_list, run_walkable, any_walkable}
use Rattle.walk.proofs.AnyHead.{any_good}
use Rattle.walk.proofs.Filling.{time_most, time_bound, end_bound}

-- A file read by the first leg from its own start has time m − l + U + s.
pub first_leg_time : (U m : ℕ) (g : Leg) (gs : List Leg) (s : Stop) → g.left ≡ s.start → s.end ≤ g.right
    → time_of U (head_at m) (g ∷ gs) s ≡ (m - s.start) + U + (s.end - s.start)
unfolding time_of
first_leg_time U m g gs s a b = rw (le-leb g.left s.start (omega arith), le-leb s.end g.right b) (omega arith)

-- No sum wraps: below 2 to the 58 for an accepted run and a well-formed list, and so is every time and the finish.
pub sum_within : (turn head : ℕ) (gs : List Leg) → Walkable gs head turn → (ss : List Stop) → sum_of turn (head_at head) gs ss ≤ time_most * reads_of ss
unfolding sum_of reads_of
sum_within turn head gs w [] = omega arith
sum_within turn head gs w (s ∷ ss) = omega (arith, sum_within turn head gs w ss, mul-le-mul_left s.count (time_bound gs head turn w s))

module _ (r : Run) (froms tos : List ℕ) (run : refuses (judge_of r) ≡ false) (list : refuses (list_verdict (stops_of r) froms tos) ≡ false) where
  within : Walkable (legs_of (stops_of r) (list_of froms tos)) r.head r.turn
  within = run_walkable r (accepted_run r run) froms tos (accepted_list (stops_of r) froms tos list)

  pub sum_below_lem : (priced_answer r (list_of froms tos)).sum < 2 ^ 58
  unfolding priced_answer
  sum_below_lem = omega (arith, sum_within r.turn r.head _ within (stops_of r), stops_reads r (accepted_run r run), (accepted_run r run).wants.reads)

  pub finish_below : (priced_answer r (list_of froms tos)).finish < 2 ^ 58
  unfolding priced_answer
  finish_below = omega (arith, end_bound _ r.head r.turn within)

  pub time_below : (s : Stop) → time_of r.turn (head_at r.head) (legs_of (stops_of r) (list_of froms tos)) s < 2 ^ 58
  time_below s = omega (arith, time_bound _ r.head r.turn within s)

-- So it is with the head anywhere.
module _ (r : Run) (froms tos : List ℕ) (run : refuses (judge_any_of r) ≡ false) (list : refuses (list_verdict_any r.head (stops_of r) froms tos) ≡ false) where
  good : GoodAnyRun r
  good = accepted_any r run

  within_any : Walkable (run_legs r (list_of froms tos)) r.head r.turn
  within_any = any_walkable (lifted r) good.run froms tos (any_good r.head (stops_of r) froms tos list) r.head good.near

  pub sum_any_below : (priced_any_answer r (list_of froms tos)).sum < 2 ^ 58
  unfolding priced_any_answer
  sum_any_below = omega (arith, sum_within r.turn r.head _ within_any (stops_of r), stops_reads (lifted r) good.run, good.run.wants.reads)
