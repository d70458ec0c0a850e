-- The first places are closed up, and the others as they were.
use Rattle.std.proofs.Common.{◌≡◌}
use Rattle.std.proofs.Math.Seq.{paste}
use Rattle.desk_tickets.specs.Private.{closed_up}
use Rattle.desk_tickets.proofs.close_up.Given as goal

abbrev pub invariant-loop-i : goal.invariant-loop-i
invariant-loop-i l = l.next ≡ paste l.row l.first (closed_up l.first l.p l.n l.row) l.i
