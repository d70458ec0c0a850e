use Rattle.engine_stops.proofs.Filling.{Counting}
use Rattle.engine_stops.proofs.count_stops.Given as goal

abbrev pub invariant-loop-i : goal.invariant-loop-i
invariant-loop-i l = Counting l.aggregates l.numbers l.count l.i
