-- The planner's answer, and what it leaves in the rows for the list.
use Rattle.std.proofs.Common.{rules}
use mathlib.Core.Path.{refl}
use Rattle.answer_plan.proofs.Planned.{rows_planned}
use Rattle.answer_plan.proofs.plan_rows.Goals as goal

pub returns : goal.returns
returns c =
    rows_planned _ _ (record { froms = search rules; tos = search rules; times = search rules; legs = search rules; room = search rules }) refl refl c.plan-plan.result _ c.plan-plan.ensures
