use Rattle.answer_check.proofs.Differing.{Differing}
use Rattle.answer_check.proofs.verdict.difference.Given as goal

abbrev pub invariant-loop-i : goal.invariant-loop-i
invariant-loop-i l = Differing l.plan l.expected l.line l.start l.i
