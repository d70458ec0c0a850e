use Rattle.std.proofs.Common.{length}
use Rattle.tape_markup.specs.Places.{tokens_at}
use Rattle.tape_files.proofs.Bare.{Sought}
use Rattle.tape_files.proofs.elements.named_from.Given as goal

-- The elements passed over have other names.
abbrev pub invariant-loop-child : goal.invariant-loop-child
invariant-loop-child l = Sought l.name l.text l.initial.here l.here

abbrev pub decreases-loop-child : goal.decreases-loop-child
decreases-loop-child l = length (tokens_at l.text l.here)
