-- `answer_month::one_more` meets its contract.
-- Assumes nothing.
use native.Mathlib.Omega.{arith}
use borrow.Author.Tests.{eq-eqb, ne_eqb}
use borrow.Author.Rules.{rules}
use Rattle.answer_month.proofs.page.one_more.Statement.{statement}
use Rattle.answer_month.proofs.page.one_more.Tie as tie

returns : tie.Need-returns-then-runs-eq0
returns c = simp (eq-eqb _ _ c.if-runs-eq0.true) (omega arith)

add-result : tie.Need-overflow_add-result
add-result c = search rules

returns-2 : tie.Need-returns
returns-2 c = simp (ne_eqb _ _ c.if-runs-eq0.false)

pub one_more_spec : {M : Type 1} → statement M
one_more_spec = tie.close (tie.spec
    returns
    add-result
    returns-2)
