use Rattle.walk.specs.Private.{row_legs}
use Rattle.walk.proofs.Legs.{Ending}
use Rattle.walk.proofs.pricing.walk_end.Given as goal

abbrev pub invariant-loop-i : goal.invariant-loop-i
invariant-loop-i l = Ending (row_legs l.head l.starts l.lengths l.aggregates l.numbers l.froms l.tos l.reach) l.head l.turn l.h l.i
