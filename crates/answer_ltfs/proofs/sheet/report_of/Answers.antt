use borrow.Author.Tests.{eq-eqb, ne_eqb}
use Rattle.answer_ltfs.specs.Private.Tallies.{report_of}
use Rattle.answer_ltfs.proofs.sheet.report_of.Goals as goal

pub returns-then-written-eq0 : goal.returns-then-written-eq0
unfolding report_of
returns-then-written-eq0 c = simp (eq-eqb _ _ c.if-written-eq0.true) c.refusal_of.ensures

pub returns : goal.returns
unfolding report_of
returns c = simp (ne_eqb _ _ c.if-written-eq0.false)
