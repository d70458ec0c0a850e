-- No list on the run's own refusal, else the plan of the run that the rows hold.
use mathlib.Core.Path.{refl, sym, ap, ◌∙◌}
use mathlib.Core.Bool.{true, false}
use mathlib.Core.List.{[]}
use Rattle.refusals.proofs.Checked.{passed, stopped}
use Rattle.sheet_runs.proofs.Runs.{held_by}
use Rattle.answer_plan.specs.PlannedLists.{in_list}
use Rattle.answer_any.proofs.Planned.{any_unlisted, any_listed}
use Rattle.answer_any.proofs.list_any.Goals as goal

pub returns-in-Err : goal.returns-in-Err
returns-in-Err c =
    let s = stopped _ _ c.in-Err.ensures in
    any_unlisted c.args.run c.args.room.now true (sym s.so) refl _ (ap (λ v. in_list v []) (sym s.is))

pub returns : goal.returns
returns c =
    any_listed c.args.run c.args.room.now false (sym (passed _ _ (sym c.in_default.is ∙ c.told.ensures))) refl _
    (held_by c.args.run c.entries.ensures.result_value c.entries-2.ensures.result_value c.entries-3.ensures.result_value c.entries-4.ensures.result_value c.entries-5.ensures.result_value)
    _ _ c.plan_rows.ensures
