-- Nothing, or two lines.
use Rattle.std.proofs.Common.{arith}
use Rattle.answer_check.proofs.Pages.{no_difference, difference_is, kind_put, both_put}
use Rattle.answer_check.proofs.verdict.put_difference.Goals as goal

pub returns-then-is_walk : goal.returns-then-is_walk
returns-then-is_walk c = kind_put _ _ _ _ _ _ _ _ (no_difference _ _ _ c.is_walk.ensures c.if-is_walk.true) (omega arith) c.requires c.put.ensures

pub returns : goal.returns
returns c = both_put _ _ _ _ _ _ _ _ _ _ _ (difference_is _ _ _ c.is_walk.ensures c.if-is_walk.false _ c.difference-first.ensures) c.put_line_at-next.ensures c.put_line_at.ensures
