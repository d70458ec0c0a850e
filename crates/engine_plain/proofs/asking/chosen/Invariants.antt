use Rattle.engine_plain.proofs.Windows.{ChosenLoop}
use Rattle.engine_plain.proofs.asking.chosen.Given as goal

abbrev pub invariant-loop-c : goal.invariant-loop-c
invariant-loop-c l = ChosenLoop l.lefts l.spans l.reads l.turn l.a l.b l.s l.at l.least l.c
