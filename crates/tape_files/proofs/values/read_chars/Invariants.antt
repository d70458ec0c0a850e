use Rattle.std.proofs.Common.{length}
use Rattle.tape_markup.specs.Places.{tokens_at}
use Rattle.tape_files.proofs.Bare.{CharsLeft}
use Rattle.tape_files.proofs.values.read_chars.Given as goal

-- The bytes left make, with what is known, what all make.
abbrev pub invariant-loop-met : goal.invariant-loop-met
invariant-loop-met l = CharsLeft l.text l.initial.here l.chars l.here

abbrev pub decreases-loop-met : goal.decreases-loop-met
decreases-loop-met l = length (tokens_at l.text l.here)
