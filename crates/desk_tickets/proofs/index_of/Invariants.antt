-- The number is not among the tickets looked at.
use Rattle.desk_tickets.specs.WaitingTable.{waiting}
use Rattle.desk_tickets.proofs.Leaving.{Sought}
use Rattle.desk_tickets.proofs.index_of.Given as goal

abbrev pub invariant-loop-i : goal.invariant-loop-i
invariant-loop-i l = Sought l.number (waiting l.office l.row) l.i
