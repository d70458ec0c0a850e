use Rattle.runs.proofs.Members.{GoneRight}
use Rattle.runs.proofs.aggregates.last_member.Given as goal

abbrev pub invariant-loop-last : goal.invariant-loop-last
invariant-loop-last l = GoneRight l.aggregates l.i l.last
