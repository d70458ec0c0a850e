use Rattle.std.proofs.Common.{◌∙◌}
use Rattle.sheet_lists.proofs.Counting.{up_to_least}
use Rattle.sheet_lists.proofs.lines_up_to.Goals as goal

pub returns : goal.returns
returns c = c.min.ensures ∙ up_to_least _ _ _ c.count_lines.ensures
