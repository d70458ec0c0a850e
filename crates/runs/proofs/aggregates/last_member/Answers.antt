use Rattle.std.proofs.Common.{sym, ◌∙◌}
use Rattle.runs.proofs.Members.{gone_all, gone_nowhere}
use Rattle.runs.proofs.aggregates.last_member.Goals as goal

pub returns-then-not-goes_on : goal.returns-then-not-goes_on
returns-then-not-goes_on c = gone_all _ _ _ c.loop-last.invariant (sym c.goes_on.ensures ∙ c.if-not-goes_on.true)

pub returns : goal.returns
returns c = gone_nowhere _ _ _ c.loop-last.invariant c.loop-last-test.false
