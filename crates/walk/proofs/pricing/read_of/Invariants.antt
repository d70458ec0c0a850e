use Rattle.runs.specs.Run.{stop_of}
use Rattle.walk.specs.Private.{row_legs}
use Rattle.walk.proofs.Legs.{Timing}
use Rattle.walk.proofs.pricing.read_of.Given as goal

abbrev pub invariant-loop-i : goal.invariant-loop-i
invariant-loop-i l = Timing (row_legs l.head l.starts l.lengths l.aggregates l.numbers l.froms l.tos l.reach) l.head l.turn (stop_of l.starts l.lengths l.aggregates l.file 0) l.h l.i
