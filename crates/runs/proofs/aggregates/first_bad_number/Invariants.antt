use Rattle.runs.proofs.Numbers.{NumbersPassed}
use Rattle.runs.proofs.aggregates.first_bad_number.Given as goal

abbrev pub invariant-loop-i : goal.invariant-loop-i
invariant-loop-i l = NumbersPassed l.aggregates l.low l.high l.i
