use Rattle.text_paths.proofs.Positions.{PathsFilling}
use Rattle.text_paths.proofs.fill_paths.Given as goal

abbrev pub invariant-loop-i : goal.invariant-loop-i
invariant-loop-i l = PathsFilling l.text l.most l.initial.starts l.initial.ends l.next l.i l.starts l.ends
