-- The first records are written.
use Rattle.boundary_desk.proofs.Filling.{Put}
use Rattle.boundary_desk.proofs.put_table.Given as goal

abbrev pub invariant-loop-i : goal.invariant-loop-i
invariant-loop-i l = Put l.initial.tickets l.row l.tickets l.i
