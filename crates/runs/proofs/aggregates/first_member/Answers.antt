use Rattle.std.proofs.Common.{sym, ◌∙◌, arith}
use Rattle.runs.proofs.Members.{first_stays, goes_on_some, first_back}
use Rattle.runs.proofs.aggregates.first_member.Goals as goal

pub overflow_sub-first : goal.overflow_sub-first
overflow_sub-first c = goes_on_some _ _ (sym c.goes_on.ensures ∙ c.loop-first-test.true)

pub loop-first-smaller : goal.loop-first-smaller
loop-first-smaller c = omega (arith, goes_on_some _ _ (sym c.goes_on.ensures ∙ c.loop-first-test.true))

pub loop-first-preserved : goal.loop-first-preserved
loop-first-preserved c = first_back _ _ (sym c.goes_on.ensures ∙ c.loop-first-test.true) ∙ c.loop-first.invariant

pub returns : goal.returns
returns c = sym (first_stays _ _ (sym c.goes_on.ensures ∙ c.loop-first-test.false)) ∙ c.loop-first.invariant
