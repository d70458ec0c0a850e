use Rattle.std.proofs.Common.{◌+◌, length}
use Rattle.tape_markup.specs.Places.{tokens_at}
use Rattle.answer_ltfs.proofs.Files.{WalkLeft}
use Rattle.answer_ltfs.proofs.index.next_file.Given as goal

abbrev pub invariant-loop-child : goal.invariant-loop-child
invariant-loop-child l = WalkLeft l.text l.initial.depth l.initial.here l.depth l.here

abbrev pub decreases-loop-child : goal.decreases-loop-child
decreases-loop-child l = length (tokens_at l.text l.here) + length (tokens_at l.text l.here) + l.depth
