-- `answer_month::mean_of` meets its contract.
-- Assumes nothing.
use borrow.Author.Tests.{eq-eqb, ne_eqb}
use Rattle.answer_month.specs.Page.{mean_of}
use borrow.Author.Rules.{rules}
use Rattle.answer_month.proofs.page.mean_of.Statement.{statement}
use Rattle.answer_month.proofs.page.mean_of.Tie as tie

returns : tie.Need-returns-then-reads-eq0
unfolding mean_of
returns c = simp (eq-eqb _ _ c.if-reads-eq0.true)

div-t4 : tie.Need-nonzero_div-result
div-t4 c = search rules

rem-t5 : tie.Need-nonzero_rem-result
rem-t5 c = search rules

returns-2 : tie.Need-returns
unfolding mean_of
returns-2 c = simp (ne_eqb _ _ c.if-reads-eq0.false)

pub mean_of_spec : {M : Type 1} → statement M
mean_of_spec = tie.close (tie.spec
    returns
    div-t4
    rem-t5
    returns-2)
