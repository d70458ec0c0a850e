use Rattle.std.proofs.Common.{◌∙◌}
use Rattle.text_bytes.proofs.Bytes.{begins}
use Rattle.text_bytes.proofs.starts.Goals as goal

pub returns : goal.returns
returns c = c.starts_with.ensures.value ∙ begins c.args.key.now c.args.text.now
