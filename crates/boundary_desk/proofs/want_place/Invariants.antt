-- The file is none of the numbers looked at.
use Rattle.answer_desk.proofs.Looking.{Sought}
use Rattle.boundary_desk.proofs.want_place.Given as goal

abbrev pub invariant-loop-i : goal.invariant-loop-i
invariant-loop-i l = Sought l.file l.fn.numbers l.i
