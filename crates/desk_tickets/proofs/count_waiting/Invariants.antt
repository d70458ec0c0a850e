-- The tickets counted and those from that place on are all of them.
use Rattle.desk_tickets.specs.WaitingTable.{half}
use Rattle.desk_tickets.proofs.Halves.{Counted}
use Rattle.desk_tickets.proofs.count_waiting.Given as goal

abbrev pub invariant-loop-n : goal.invariant-loop-n
invariant-loop-n l = Counted (half l.office l.row) l.n
