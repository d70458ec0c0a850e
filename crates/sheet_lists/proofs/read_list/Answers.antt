-- 12, or the answer to the form that was found.
use mathlib.Core.Path.{sym, ◌∙◌}
use Rattle.sheet_lists.specs.Reading.{list_form}
use Rattle.sheet_lists.proofs.Answers.{form_within, read_long, read_formed}
use Rattle.sheet_lists.proofs.read_list.Goals as goal

pub read_as-requires : goal.read_as-requires
read_as-requires c = form_within _ _ _ _ c.args.froms.now c.args.tos.now _ c.judge_list.ensures

pub returns-in-Err : goal.returns-in-Err
unfolding list_form
returns-in-Err c = read_long _ _ _ _ _ _ _ c.in-Err.ensures

pub returns : goal.returns
unfolding list_form
returns c = read_formed _ _ _ _ _ _ (sym c.in_default.is ∙ c.when.ensures) _ c.judge_list.ensures _ _ _ c.read_as.ensures
