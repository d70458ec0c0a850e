use Rattle.std.proofs.Common.{ap, ◌∙◌}
use mathlib.Core.Bool.{not}
use Rattle.tape_files.proofs.Uuids.{no_label_volume, no_index_volume, both_volumes}
use Rattle.tape_files.proofs.volumes.other_volume.Goals as goal

pub returns-in_default : goal.returns-in_default
returns-in_default c = no_label_volume _ _ c.in_default.ensures

pub returns-in_default-volume_in : goal.returns-in_default-volume_in
returns-in_default-volume_in c = no_index_volume _ _ _ c.in-Ok.ensures c.in_default-volume_in.ensures

pub returns : goal.returns
returns c = ap not c.same_chars.ensures ∙ both_volumes _ _ _ c.in-Ok.ensures _ c.in-Ok-volume_in.ensures
