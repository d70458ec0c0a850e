use Rattle.std.proofs.Common.{refl, arith}
use Rattle.engine_stops.proofs.Filling.{counting_none, counting_more}
use Rattle.engine_stops.proofs.count_stops.Goals as goal

pub loop-i-init : goal.loop-i-init
loop-i-init c = counting_none _ _

pub loop-i-preserved-then-not-joins_next : goal.loop-i-preserved-then-not-joins_next
loop-i-preserved-then-not-joins_next c = counting_more _ _ _ _ _ _ c.loop-i.invariant (omega arith) _ c.joins_next.ensures (rw c.if-not-joins_next.true refl)

pub loop-i-preserved : goal.loop-i-preserved
loop-i-preserved c = counting_more _ _ _ _ _ _ c.loop-i.invariant (omega arith) _ c.joins_next.ensures (rw c.if-not-joins_next.false refl)
