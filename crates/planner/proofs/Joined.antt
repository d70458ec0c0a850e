-- The joining in rows of 64, which are enough: with the head at the end of the tape it refuses what the judging of a head anywhere refuses, and
-- otherwise the rows hold the run's stops.
use Prim.Native.Nat.{◌≤◌}
use mathlib.Core.Path.{◌≡◌, refl}
use mathlib.Core.Bool.{false}
use native.Mathlib.Omega.{arith}
use lib.ListN.{length, take}
use Rattle.std.specs.Prelude.{ℕ, List, Ok, Err}
use Rattle.refusals.specs.declared.Verdict.{Verdict}
use Rattle.refusals.proofs.Verdicts.{refuses}
use Rattle.refusals.proofs.Checked.{Refuses}
use Rattle.runs.specs.Run.{Run, run_of, stops_of}
use Rattle.runs.specs.Judging.{judge_of}
use Rattle.runs.specs.AnyHead.{judge_any_of, lifted_head, lifted}
use Rattle.runs.proofs.AnyHead.{judge_any_lem, accepted_any}
use Rattle.runs.proofs.Stops.{stops_few}
use Rattle.engine_stops.specs.Joining.{JoinRows, join_answer, join_rows_of}
use Rattle.engine_stops.proofs.Held.{fresh_rows, Front}
use Rattle.engine_stops.proofs.Held as held
use Rattle.planner.specs.Private.{RunInRows}

-- An accepted run has at most 64 stops.
pub few_stops : (r : Run) → refuses (judge_any_of r) ≡ false → length (stops_of r) ≤ 64
few_stops r e = let good = (accepted_any r e).run in omega (arith, stops_few (lifted r) good, good.wants.few)

few_lifted : (r : Run) → refuses (judge_of (lifted r)) ≡ false → length (stops_of (lifted r)) ≤ 64
few_lifted r e = few_stops r (rw (judge_any_lem r) e)

module _ (r : Run) where
  pub join_stopped : (e : Verdict) → Err e ≡ join_answer (lifted r) (fresh_rows 64) → Refuses (judge_any_of r) e
  join_stopped e said = rw (judge_any_lem r) (held.join_stopped (lifted r) 64 (few_lifted r) e said)

  module _ (k : ℕ) (said : Ok k ≡ join_answer (lifted r) (fresh_rows 64)) where
    pub join_passed : refuses (judge_any_of r) ≡ false
    join_passed = rw (judge_any_lem r) (held.join_passed (lifted r) 64 (few_lifted r) k said)

    module _ (after : JoinRows) (after_is : after ≡ join_rows_of (lifted r) (fresh_rows 64)) where
      pub join_front : Front k after (stops_of r)
      join_front = held.join_front (lifted r) 64 (few_lifted r) k said after after_is

      pub join_holds : RunInRows r (take k after.firsts) (take k after.lefts) (take k after.spans) (take k after.reads) r.head r.turn
      join_holds =
          record {
            accepts = join_passed;
            first_files = join_front.firsts.1;
            starts = join_front.lefts.1;
            lengths = join_front.spans.1;
            counts = join_front.reads.1;
            at_head = refl;
            at_price = refl;
          }

-- The same of a run whose head was lifted for the joining.
module _ (starts lengths aggregates numbers counts : List ℕ) (head turn m k : ℕ) (after : JoinRows) (lifts : m ≡ lifted_head head)
    (said : Ok k ≡ join_answer (run_of starts lengths aggregates numbers counts m turn) (fresh_rows 64))
    (fills : after ≡ join_rows_of (run_of starts lengths aggregates numbers counts m turn) (fresh_rows 64)) where
  abbrev lent : Run
  lent = run_of starts lengths aggregates numbers counts head turn

  pub lifted_passed : refuses (judge_any_of lent) ≡ false
  lifted_passed = join_passed lent k (rw lifts at said)

  pub lifted_front : Front k after (stops_of lent)
  lifted_front = join_front lent k (rw lifts at said) after (rw lifts at fills)

  pub lifted_holds : RunInRows lent (take k after.firsts) (take k after.lefts) (take k after.spans) (take k after.reads) head turn
  lifted_holds = join_holds lent k (rw lifts at said) after (rw lifts at fills)
