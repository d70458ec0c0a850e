-- For every input some answer and rows fit the planner's contract, that of the planner for a head anywhere, and the plain engine's: the refusal and the rows as they were, or the numbers of the least list.
-- So nothing that is proved of all that fits is proved of nothing.
use mathlib.Core.Bool.{cond}
use mathlib.Core.List.{List}
use Rattle.walk.specs.declared.Answer.{Answer}
use Rattle.runs.specs.Run.{Run, stops_of}
use Rattle.runs.specs.Lists.{Detour}
use Rattle.runs.specs.AnyHead.{pulled, lifted}
use Rattle.walk.specs.Price.{refusal_answer, priced_answer}
use Rattle.walk.specs.AnyHead.{priced_any_answer}
use Rattle.refusals.proofs.Verdicts.{refuses}
use Rattle.runs.proofs.Stops.{accepted_sound, run_sound}
use Rattle.runs.proofs.AnyHead.{accepted_any}
use Rattle.least.proofs.LeastList.{least_list_lem}
use Rattle.least.proofs.LeastAny.{least_any}
use Rattle.planner.specs.Plan.{rows_with, Plans, plan_verdict}
use Rattle.planner.specs.AnyHead.{PlansAny, plan_any_verdict, rows_any_with}
use Rattle.planner.specs.Rows.{Rows}
use Rattle.engine_plain.specs.Plain.{PlainRows, plain_rows_with, PlainPlans, plain_verdict}
use Rattle.demands.proofs.Planned.{verdict_accepts_run}
use Rattle.demands.proofs.Plain.{plain_accepts_run}
use Rattle.demands.proofs.AnyHead.{run_passed}
use Rattle.least.specs.Recurrence.{least_list}

abbrev plan_list : Run → List Detour
plan_list r = least_list r.turn (stops_of r)

unfoldable pub plan_answer : Run → Rows → Answer
plan_answer r before = cond (refuses (plan_verdict r before)) (refusal_answer (plan_verdict r before)) (priced_answer r (plan_list r))

unfoldable pub plan_rows : Run → Rows → Rows
plan_rows r before = cond (refuses (plan_verdict r before)) before (rows_with r (plan_list r) before)

pub plans_for_every_input : (r : Run) (before : Rows) → Plans r before (plan_answer r before) (plan_rows r before)
unfolding plan_answer plan_rows
plans_for_every_input r before =
    record {
      refused = λ e. record { says = rw e; kept = rw e };
      planned = λ e. record { list = plan_list r; least = least_list_lem r.turn r.head (stops_of r) (accepted_sound r (verdict_accepts_run r before e)); says = rw e; rows = rw e };
    }

abbrev plan_any_list : Run → List Detour
plan_any_list r = least_list r.turn (pulled r.head (stops_of r))

unfoldable pub plan_any_answer : Run → Rows → Answer
plan_any_answer r before = cond (refuses (plan_any_verdict r before)) (refusal_answer (plan_any_verdict r before)) (priced_any_answer r (plan_any_list r))

unfoldable pub plan_any_rows : Run → Rows → Rows
plan_any_rows r before = cond (refuses (plan_any_verdict r before)) before (rows_any_with r (plan_any_list r) before)

pub plans_any_for_every_input : (r : Run) (before : Rows) → PlansAny r before (plan_any_answer r before) (plan_any_rows r before)
unfolding plan_any_answer plan_any_rows
plans_any_for_every_input r before =
    record {
      refused = λ e. record { says = rw e; kept = rw e };
      planned = λ e.
          record {
            list = plan_any_list r;
            least = least_any r.turn r.head (lifted r).head (stops_of r) (run_sound (lifted r) (accepted_any r (run_passed r before e)).run);
            says = rw e;
            rows = rw e;
          };
    }

unfoldable pub plain_answer : Run → PlainRows → Answer
plain_answer r before = cond (refuses (plain_verdict r before)) (refusal_answer (plain_verdict r before)) (priced_answer r (plan_list r))

unfoldable pub plain_after : Run → PlainRows → PlainRows
plain_after r before = cond (refuses (plain_verdict r before)) before (plain_rows_with r (plan_list r) before)

pub plain_for_every_input : (r : Run) (before : PlainRows) → PlainPlans r before (plain_answer r before) (plain_after r before)
unfolding plain_answer plain_after
plain_for_every_input r before =
    record {
      refused = λ e. record { says = rw e; kept = rw e };
      planned = λ e. record { list = plan_list r; least = least_list_lem r.turn r.head (stops_of r) (accepted_sound r (plain_accepts_run r before e)); says = rw e; rows = rw e };
    }
