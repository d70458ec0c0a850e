use Rattle.sheet_reader.proofs.Rows.{Filling₃}
use Rattle.sheet_reader.proofs.reader.fill_triple.Given as goal

abbrev pub invariant-loop-i : goal.invariant-loop-i
invariant-loop-i l = Filling₃ l.key l.sheet l.at l.count l.initial.firsts l.initial.seconds l.initial.thirds l.next l.i l.firsts l.seconds l.thirds
