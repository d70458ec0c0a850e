use Rattle.std.proofs.Common.{get_or, arith}
use Rattle.answer_month.proofs.Pages.{one_few, kinds_turn, kinds_done}
use Rattle.answer_month.proofs.page.count_kinds.Goals as goal

pub loop-refused-preserved : goal.loop-refused-preserved
loop-refused-preserved c =
    let turn = kinds_turn c.args.runs.now c.loop-refused.refused-index c.loop-refused-test.true in
    let few = one_few (get_or c.args.runs.now c.loop-refused.refused-index 0) in
    record { all = omega arith; few = omega arith }

pub returns : goal.returns
returns c = omega (arith, kinds_done c.args.runs.now c.loop-refused.refused-index c.loop-refused-test.false)
