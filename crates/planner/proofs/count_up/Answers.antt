use Rattle.std.proofs.Common.{length, arith}
use Rattle.engine_stops.proofs.Table.{count_length, count_at_lem}
use Rattle.planner.proofs.Filling.{filling_start, filling_more}
use Rattle.planner.proofs.count_up.Goals as goal

pub loop-i-init : goal.loop-i-init
loop-i-init c = filling_start _ _ (omega (arith, count_length 1 (length c.args.row.now)))

pub loop-i-preserved : goal.loop-i-preserved
loop-i-preserved c =
    filling_more _ _ _ _ c.loop-i.invariant (omega (arith, count_length 1 (length c.args.row.now))) _ (omega (arith, count_at_lem 1 (length c.args.row.now) c.loop-i.i (omega arith)))
