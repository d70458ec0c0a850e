-- `answer_field::plan_rows` meets its contract: the engine's answer, and what it leaves in the rows for the list.
-- Assumes nothing.
use mathlib.Core.Path.{refl}
use Rattle.answer_field.proofs.Planned.{rows_fielded}
use borrow.Author.Rules.{rules}
use Rattle.answer_field.proofs.plan_rows.Statement.{statement}
use Rattle.answer_field.proofs.plan_rows.Tie as tie

slice-aggregate-plan : tie.Need-slice_bounds-plan-end
slice-aggregate-plan c = search rules

slice-aggregate-plan-2 : tie.Need-slice_bounds-plan-end-2
slice-aggregate-plan-2 c = search rules

slice-aggregate-plan-3 : tie.Need-slice_bounds-plan-end-3
slice-aggregate-plan-3 c = search rules

slice-aggregate-plan-4 : tie.Need-slice_bounds-plan-end-4
slice-aggregate-plan-4 c = search rules

plan-requires : tie.Need-plan-plan-requires
plan-requires c κs = search rules

-- From the last step back to the plan.
abbrev planning : tie.After-legs-2-1 → tie.After-plan-plan
planning c = c.before.before.before.before

returns : tie.Need-returns
returns c =
    rows_fielded _ _ (record { froms = search rules; tos = search rules; times = search rules; legs = search rules }) refl refl
    (planning c).plan-plan.result _ (planning c).plan-plan.ensures

pub plan_rows_spec : {M : Type 1} → statement M
plan_rows_spec =
    tie.close
    (tie.spec
    slice-aggregate-plan
    slice-aggregate-plan-2
    slice-aggregate-plan-3
    slice-aggregate-plan-4
    plan-requires
    returns)
