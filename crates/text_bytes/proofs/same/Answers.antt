use Rattle.std.proofs.Common.{◌∙◌}
use Rattle.text_bytes.proofs.Bytes.{is_same}
use Rattle.text_bytes.proofs.same.Goals as goal

pub returns : goal.returns
returns c = c.eq.ensures ∙ is_same _ _
