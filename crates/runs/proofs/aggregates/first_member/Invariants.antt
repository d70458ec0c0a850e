use Rattle.std.proofs.Common.{◌≡◌}
use Rattle.runs.specs.Run.{first_member}
use Rattle.runs.proofs.aggregates.first_member.Given as goal

abbrev pub invariant-loop-first : goal.invariant-loop-first
invariant-loop-first l = first_member l.aggregates l.first ≡ first_member l.aggregates l.i

abbrev pub decreases-loop-first : goal.decreases-loop-first
decreases-loop-first l = l.first
