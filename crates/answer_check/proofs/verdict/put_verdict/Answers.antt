-- Four texts one behind the other.
use Rattle.answer_check.proofs.Pages.{verdict_put}
use Rattle.answer_check.proofs.verdict.put_verdict.Goals as goal

pub returns : goal.returns
returns c = verdict_put _ _ c.args.least c.args.by _ _ _ _ _ _ _ _ _ c.requires c.put-walk_at.ensures c.put_walk-least_at.ensures c.put_least-next.ensures c.put_difference.ensures
