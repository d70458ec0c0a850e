use Rattle.text_lines.proofs.Filling.{Filling}
use Rattle.text_lines.proofs.fill_pairs.Given as goal

abbrev pub invariant-loop-i : goal.invariant-loop-i
invariant-loop-i l = Filling l.key l.text l.at l.most l.initial.firsts l.initial.seconds l.here l.i l.firsts l.seconds
