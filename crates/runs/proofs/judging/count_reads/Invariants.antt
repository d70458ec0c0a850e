use Rattle.runs.proofs.Accepted.{Counted}
use Rattle.runs.proofs.judging.count_reads.Given as goal

abbrev pub invariant-loop-count : goal.invariant-loop-count
invariant-loop-count l = Counted l.counts l.sum l.count-index
