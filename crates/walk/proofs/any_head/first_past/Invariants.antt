use Rattle.std.proofs.Common.{length, get_or, ltb}
use Rattle.walk.proofs.OwnStop.{Passing}
use Rattle.walk.proofs.any_head.first_past.Given as goal

abbrev pub invariant-loop-i : goal.invariant-loop-i
invariant-loop-i l = Passing (λ k. ltb l.own (get_or l.froms k 0)) (length l.froms) l.found l.i
