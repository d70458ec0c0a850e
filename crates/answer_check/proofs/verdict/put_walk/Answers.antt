-- One line or the other.
use Rattle.std.proofs.Common.{arith}
use Rattle.answer_check.proofs.Pages.{walk_is, walk_not, kind_put}
use Rattle.answer_check.proofs.verdict.put_walk.Goals as goal

pub returns-then-is_walk : goal.returns-then-is_walk
returns-then-is_walk c = kind_put _ _ _ _ _ _ _ _ (walk_is _ _ _ c.is_walk.ensures c.if-is_walk.true) (omega arith) c.requires c.put.ensures

pub returns : goal.returns
returns c = kind_put _ _ _ _ _ _ _ _ (walk_not _ _ _ c.is_walk.ensures c.if-is_walk.false _ c.difference-first.ensures) (omega arith) c.requires c.put_number_line.ensures
