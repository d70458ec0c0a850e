-- A plan sheet, or lines of detours alone.
use Rattle.sheet_lists.proofs.Passing.{listed_plan, listed_bare}
use Rattle.sheet_lists.proofs.judge_list.Goals as goal

pub returns-then-starts : goal.returns-then-starts
returns-then-starts c = listed_plan _ _ c.starts.ensures c.judge_plan.result c.if-starts.true c.judge_plan.ensures

pub returns : goal.returns
returns c = listed_bare _ _ c.starts.ensures c.judge_bare.result c.if-starts.false c.judge_bare.ensures
