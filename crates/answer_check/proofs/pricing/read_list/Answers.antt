-- What the reader leaves in its rows.
use Rattle.std.proofs.Common.{rules}
use Rattle.answer_check.proofs.Formed.{list_handed}
use Rattle.answer_check.proofs.pricing.read_list.Goals as goal

pub returns : goal.returns
returns c = list_handed c.args.list.now _ _ (search rules) (search rules) c.read_list-read.result _ _ c.read_list-read.ensures
