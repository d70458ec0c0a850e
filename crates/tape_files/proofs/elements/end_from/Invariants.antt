use Rattle.tape_markup.proofs.Meets.{unread}
use Rattle.tape_files.proofs.Frames.{Leaving}
use Rattle.tape_files.proofs.elements.end_from.Given as goal

-- Each tag goes one element in or out, and nothing else does.
abbrev pub invariant-loop-here : goal.invariant-loop-here
invariant-loop-here l = Leaving l.text l.initial.here l.here l.depth

abbrev pub decreases-loop-here : goal.decreases-loop-here
decreases-loop-here l = unread l.text l.here
