use Rattle.std.proofs.lemmas.Result.{err_from_is_err_and}
use Rattle.sheet_lists.proofs.Passing.{top_bad, below_starts, plan_found}
use Rattle.sheet_lists.proofs.judge_plan.Goals as goal

pub returns-in_err-top : goal.returns-in_err-top
returns-in_err-top c = let p = err_from_is_err_and c.from_residual.result c.from_residual.ensures.1 in rw (p.1, p.2) (top_bad _ _ c.in_err-top.ensures)

pub read_below-requires : goal.read_below-requires
read_below-requires c = below_starts _ _ _ c.in_ok-top.ensures

pub returns : goal.returns
returns c = plan_found _ _ _ c.in_ok-top.ensures _ c.read_below.ensures
