use Rattle.text_inputs.proofs.Reading.{Reading}
use Rattle.text_inputs.proofs.read_line.Given as goal

abbrev pub invariant-loop-n : goal.invariant-loop-n
invariant-loop-n l = Reading l.initial.line l.n l.line
