-- The file is none of the numbers looked at.
use Rattle.answer_desk.proofs.Looking.{Sought}
use Rattle.answer_desk.proofs.pages.place_in.Given as goal

abbrev pub invariant-loop-i : goal.invariant-loop-i
invariant-loop-i l = Sought l.file l.fn.numbers l.i
