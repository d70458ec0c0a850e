use Rattle.std.proofs.Common.{length}
use Rattle.engine_stops.specs.Private.{count_up}
use Rattle.planner.proofs.Filling.{Filling}
use Rattle.planner.proofs.count_up.Given as goal

abbrev pub invariant-loop-i : goal.invariant-loop-i
invariant-loop-i l = Filling (count_up 1 (length l.initial.row)) l.initial.row l.row l.i
