-- 20, 44, then the list's own.
use mathlib.Core.Bool.{not}
use mathlib.Core.Path.{◌∙◌, ap}
use Rattle.answer_pick.proofs.Judging.{input_bad, input_other, input_list}
use Rattle.answer_pick.proofs.texts.judge_input.Goals as goal

pub returns-then-not-good : goal.returns-then-not-good
returns-then-not-good c =
    input_bad c.args.good c.args.other c.args.list.now (ap not c.if-not-good.true) _ (c.refused_if.ensures ∙ rw c.number.ensures)

pub returns-then-other : goal.returns-then-other
returns-then-other c =
    input_other c.args.good c.args.other c.args.list.now (ap not c.if-not-good.false) c.if-other.true _ (c.refused_if-then-other.ensures ∙ rw c.own_number.ensures)

pub returns : goal.returns
returns c =
    input_list c.args.good c.args.other c.args.list.now (ap not c.if-not-good.false) c.if-other.false _ c.judge_paths.ensures
