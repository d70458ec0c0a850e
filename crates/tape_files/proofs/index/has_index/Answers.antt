use Rattle.std.proofs.Common.{◌∙◌}
use Rattle.tape_files.proofs.Roles.{index_met}
use Rattle.tape_files.proofs.index.has_index.Goals as goal

pub returns : goal.returns
returns c = c.is_ok.ensures.value ∙ index_met _ c.named_from.result c.named_from.ensures
