use Rattle.std.proofs.Common.{length}
use Rattle.tape_markup.specs.Places.{tokens_at}
use Rattle.tape_files.proofs.Uuids.{Alike}
use Rattle.tape_files.proofs.volumes.same_chars.Given as goal

-- What is left in both is alike where all of it is.
abbrev pub invariant-loop-met : goal.invariant-loop-met
invariant-loop-met l = Alike l.one l.other l.initial.here l.initial.there l.here l.there

abbrev pub decreases-loop-met : goal.decreases-loop-met
decreases-loop-met l = length (tokens_at l.one l.here)
