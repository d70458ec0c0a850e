use Rattle.std.proofs.Common.{length}
use Rattle.tape_markup.specs.Places.{tokens_at}
use Rattle.tape_files.proofs.Uuids.{VolumesLeft}
use Rattle.tape_files.proofs.volumes.volume_in.Given as goal

-- The elements passed over say no volume.
abbrev pub invariant-loop-inner : goal.invariant-loop-inner
invariant-loop-inner l = VolumesLeft l.root l.text l.here

abbrev pub decreases-loop-inner : goal.decreases-loop-inner
decreases-loop-inner l = length (tokens_at l.text l.here)
