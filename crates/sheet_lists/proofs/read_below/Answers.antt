use Rattle.std.proofs.Common.{arith}
use Rattle.sheet_lists.proofs.Passing.{to_end_small, below_bad, below_good, below_time}
use Rattle.sheet_lists.proofs.read_below.Goals as goal

pub overflow_add-result-then-line-ne0-2 : goal.overflow_add-result-then-line-ne0-2
overflow_add-result-then-line-ne0-2 c = omega (arith, c.requires.few, to_end_small _ _ _ _ c.bad_time-line.ensures)

pub returns-in-Err : goal.returns-in-Err
returns-in-Err c = below_bad _ _ _ c.requires _ c.in-Err.ensures

pub returns-then-line-ne0 : goal.returns-then-line-ne0
returns-then-line-ne0 c = below_time _ _ _ c.requires _ c.in-Ok.ensures _ c.bad_time-line.ensures c.if-line-ne0.true

pub returns-else-line-ne0 : goal.returns-else-line-ne0
returns-else-line-ne0 c = below_good _ _ _ c.requires _ c.in-Ok.ensures _ c.bad_time-line.ensures c.if-line-ne0.false
