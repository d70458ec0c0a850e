-- `answer_outcome::timed_plan` meets its contract: what the planner leaves in rows that suffice.
-- Assumes nothing.
use borrow.Author.Rules.{rules}
use Rattle.answer_outcome.proofs.Plans.{timed_plan_lem}
use Rattle.answer_outcome.proofs.timed_plan.Statement.{statement}
use Rattle.answer_outcome.proofs.timed_plan.Tie as tie

-- src/lib.rt:142:9
slice-aggregate-plan : tie.Need-slice_bounds-plan-end
slice-aggregate-plan c = search rules

-- src/lib.rt:143:9
slice-aggregate-plan-2 : tie.Need-slice_bounds-plan-end-2
slice-aggregate-plan-2 c = search rules

-- src/lib.rt:144:9
slice-aggregate-plan-3 : tie.Need-slice_bounds-plan-end-3
slice-aggregate-plan-3 c = search rules

-- src/lib.rt:145:9
slice-aggregate-plan-4 : tie.Need-slice_bounds-plan-end-4
slice-aggregate-plan-4 c = search rules

-- src/lib.rt:146:9
slice-aggregate-plan-5 : tie.Need-slice_bounds-plan-end-5
slice-aggregate-plan-5 c = search rules

-- src/lib.rt:134:9
plan-requires : tie.Need-plan-plan-requires
plan-requires c κs = search rules

-- src/lib.rt:118:1
returns : tie.Need-returns
returns c = timed_plan_lem _ _ (record { froms = search rules; tos = search rules; times = search rules; legs = search rules; room = search rules }) _ _ c.plan-plan.ensures

pub timed_plan_spec : {M : Type 1} → statement M
timed_plan_spec =
    tie.close
    (tie.spec
    slice-aggregate-plan
    slice-aggregate-plan-2
    slice-aggregate-plan-3
    slice-aggregate-plan-4
    slice-aggregate-plan-5
    plan-requires
    returns)
