use Rattle.std.proofs.Common.{arith}
use Rattle.sheet_lists.proofs.Counting.{up_to_is, part_up_to}
use Rattle.sheet_lists.proofs.Passing.{to_end_bad, to_end_more, to_end_good}
use Rattle.sheet_lists.proofs.bad_time.Goals as goal

pub overflow_add-result : goal.overflow_add-result
overflow_add-result c = omega (arith, up_to_is _ _ _ c.lines_up_to-times.ensures)

pub returns-in-Err : goal.returns-in-Err
returns-in-Err c = to_end_bad _ _ _ _ _ (part_up_to _ c.args.plan.now c.args.at _ c.lines_up_to-times.ensures) _ c.in-Err.ensures

pub returns-in-Ok : goal.returns-in-Ok
returns-in-Ok c = to_end_more _ _ _ _ _ (part_up_to _ c.args.plan.now c.args.at _ c.lines_up_to-times.ensures) _ c.in-Ok.ensures c.if-next-plan.true

pub returns-in-Ok-2 : goal.returns-in-Ok-2
returns-in-Ok-2 c = to_end_good _ _ _ _ _ (part_up_to _ c.args.plan.now c.args.at _ c.lines_up_to-times.ensures) _ c.in-Ok.ensures c.if-next-plan.false
