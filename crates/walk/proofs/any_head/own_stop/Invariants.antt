use Rattle.walk.proofs.OwnStop.{Looking}
use Rattle.walk.proofs.any_head.own_stop.Given as goal

abbrev pub invariant-loop-file : goal.invariant-loop-file
invariant-loop-file l = Looking l.head l.starts l.aggregates l.numbers l.file-index
