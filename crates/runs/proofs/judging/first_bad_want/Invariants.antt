use Rattle.std.proofs.Common.{length}
use Rattle.runs.proofs.Accepted.{WantsPassed}
use Rattle.runs.proofs.judging.first_bad_want.Given as goal

abbrev pub invariant-loop-i : goal.invariant-loop-i
invariant-loop-i l = WantsPassed l.files l.numbers l.counts l.before (length l.yielded)
