use Rattle.std.proofs.Common.{refl}
use Rattle.text_inputs.proofs.Parts.{no_count, count_framed}
use Rattle.text_inputs.proofs.frame.Goals as goal

pub returns-in_default : goal.returns-in_default
returns-in_default c = no_count _ _ (rw c.in_default.is at c.number_line.ensures)

pub returns : goal.returns
returns c = count_framed _ _ _ (rw c.in-Some.is at c.number_line.ensures) _ _ refl _ c.frame_behind.ensures
