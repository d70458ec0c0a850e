use Rattle.runs.specs.Run.{want_stops}
use Rattle.walk.specs.Private.{row_legs}
use Rattle.walk.proofs.Filling.{Filling}
use Rattle.walk.proofs.pricing.fill_reads.Given as goal

abbrev pub invariant-loop-i : goal.invariant-loop-i
invariant-loop-i l =
    Filling (row_legs l.head l.starts l.lengths l.aggregates l.numbers l.froms l.tos l.reach) l.head l.turn (want_stops l.starts l.lengths l.aggregates l.numbers l.counts) l.counts l.initial.times l.initial.legs l.times l.legs l.sum l.i
