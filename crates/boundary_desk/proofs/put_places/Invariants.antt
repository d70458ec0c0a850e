-- The first places are put.
use Rattle.std.proofs.Common.{take, drop}
use Rattle.boundary_desk.specs.Private.{places_of}
use Rattle.boundary_desk.proofs.Taking.{Placing}
use Rattle.boundary_desk.proofs.put_places.Given as goal

abbrev pub invariant-loop-i : goal.invariant-loop-i
invariant-loop-i l = Placing l.initial.taken l.at (places_of l.numbers (take l.n (drop l.first l.row))) l.n l.taken l.i
