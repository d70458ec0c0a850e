use Rattle.std.proofs.Common.{length}
use Rattle.runs.proofs.Entries.{Unclashed}
use Rattle.runs.proofs.lists.clashes.Given as goal

abbrev pub invariant-loop-earlier_from : goal.invariant-loop-earlier_from
invariant-loop-earlier_from l = Unclashed l.froms l.tos l.i (length l.yielded)
