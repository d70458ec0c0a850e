-- What the reader leaves in its rows.
use Rattle.std.proofs.Common.{rules}
use Rattle.answer_check.proofs.Formed.{plan_handed}
use Rattle.answer_check.proofs.checking.read_plan.Goals as goal

pub returns : goal.returns
returns c = plan_handed c.args.plan.now _ _ (search rules) (search rules) c.read_plan-read.result _ _ c.read_plan-read.ensures
