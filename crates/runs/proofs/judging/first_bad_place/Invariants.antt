use Rattle.std.proofs.Common.{length}
use Rattle.runs.proofs.Accepted.{FilesPassed}
use Rattle.runs.proofs.judging.first_bad_place.Given as goal

abbrev pub invariant-loop-i : goal.invariant-loop-i
invariant-loop-i l = FilesPassed l.starts l.lengths l.before (length l.yielded)
