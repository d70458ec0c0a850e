use Rattle.sheet_picks.proofs.Lines.{ReadsSeen}
use Rattle.sheet_picks.proofs.paths.first_reads.Given as goal

abbrev pub invariant-loop-h : goal.invariant-loop-h
invariant-loop-h l = ReadsSeen l.list l.i l.reads l.h
