use Rattle.tape_markup.proofs.Meets.{unread}
use Rattle.tape_files.proofs.Bare.{BytesLeft}
use Rattle.tape_files.proofs.values.byte_from.Given as goal

-- What is passed over has no byte directly in the element.
abbrev pub invariant-loop-byte : goal.invariant-loop-byte
invariant-loop-byte l = BytesLeft l.text l.initial.here l.here

abbrev pub decreases-loop-byte : goal.decreases-loop-byte
decreases-loop-byte l = unread l.text l.here
