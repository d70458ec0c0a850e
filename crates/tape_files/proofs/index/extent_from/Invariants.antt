use Rattle.std.proofs.Common.{length}
use Rattle.tape_markup.specs.Places.{tokens_at}
use Rattle.tape_files.proofs.Extents.{ExtentLeft}
use Rattle.tape_files.proofs.index.extent_from.Given as goal

-- The elements left say, with what is known, what all say.
abbrev pub invariant-loop-child : goal.invariant-loop-child
invariant-loop-child l = ExtentLeft l.text l.initial.here l.extent l.here

abbrev pub decreases-loop-child : goal.decreases-loop-child
decreases-loop-child l = length (tokens_at l.text l.here)
