use Rattle.std.proofs.Common.{◌∙◌}
use Rattle.desk_rows.proofs.Remarks.{first_byte}
use Rattle.desk_rows.proofs.journal.is_remark.Goals as goal

pub returns : goal.returns
returns c = c.starts_with.ensures.value ∙ first_byte _
