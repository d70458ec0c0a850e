use Rattle.std.proofs.Common.{arith}
use Rattle.std.proofs.lemmas.Result.{err_from_is_err_and}
use Rattle.sheet_lists.proofs.Counting.{up_to_is}
use Rattle.sheet_lists.proofs.Passing.{bare_bad, bare_more, bare_good}
use Rattle.sheet_lists.proofs.judge_bare.Goals as goal

pub returns-in_err-next : goal.returns-in_err-next
returns-in_err-next c = let p = err_from_is_err_and c.from_residual.result c.from_residual.ensures.1 in rw (p.1, p.2) (bare_bad _ _ c.lines_up_to-detours.ensures _ c.in_err-next.ensures)

pub returns-then-next-list : goal.returns-then-next-list
returns-then-next-list c = bare_more _ _ c.lines_up_to-detours.ensures _ c.in_ok-next.ensures c.if-next-list.true

pub returns : goal.returns
returns c = bare_good _ _ c.lines_up_to-detours.ensures _ c.in_ok-next.ensures c.if-next-list.false

pub overflow_add-result : goal.overflow_add-result
overflow_add-result c = omega (arith, up_to_is _ _ _ c.lines_up_to-detours.ensures)
