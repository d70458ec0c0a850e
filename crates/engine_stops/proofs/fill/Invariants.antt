use Rattle.engine_stops.proofs.Filling.{Filling}
use Rattle.engine_stops.proofs.fill.Given as goal

abbrev pub invariant-loop-i : goal.invariant-loop-i
invariant-loop-i l =
    Filling l.starts l.lengths l.aggregates l.numbers l.counts l.stops l.initial.firsts l.initial.lefts l.initial.spans l.initial.reads l.firsts l.lefts l.spans l.reads l.at l.i
