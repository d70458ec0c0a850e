use Rattle.tape_markup.proofs.Meets.{unread}
use Rattle.tape_files.proofs.Frames.{Seeking}
use Rattle.tape_files.proofs.elements.tag_from.Given as goal

-- Bytes are passed, and the first tag decides.
abbrev pub invariant-loop-next : goal.invariant-loop-next
invariant-loop-next l = Seeking l.text l.initial.here l.here

abbrev pub decreases-loop-next : goal.decreases-loop-next
decreases-loop-next l = unread l.text l.here
