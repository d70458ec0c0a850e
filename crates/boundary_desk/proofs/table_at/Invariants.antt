-- The first places are read.
use Rattle.boundary_desk.proofs.Filling.{Read}
use Rattle.boundary_desk.proofs.table_at.Given as goal

abbrev pub invariant-loop-i : goal.invariant-loop-i
invariant-loop-i l = Read l.tickets l.initial.row l.row l.i
