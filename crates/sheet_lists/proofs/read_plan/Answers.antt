-- 12, or the answer to the form that was found.
use mathlib.Core.Path.{sym, ◌∙◌}
use Rattle.sheet_lists.specs.Reading.{plan_form}
use Rattle.sheet_lists.proofs.Answers.{form_within, read_long, read_formed}
use Rattle.sheet_lists.proofs.read_plan.Goals as goal

pub read_as-requires : goal.read_as-requires
read_as-requires c = form_within _ _ _ _ c.args.froms.now c.args.tos.now _ c.judge_plan.ensures

pub returns-in-Err : goal.returns-in-Err
unfolding plan_form
returns-in-Err c = read_long _ _ _ _ _ _ _ c.in-Err.ensures

pub returns : goal.returns
unfolding plan_form
returns c = read_formed _ _ _ _ _ _ (sym c.in_default.is ∙ c.when.ensures) _ c.judge_plan.ensures _ _ _ c.read_as.ensures
