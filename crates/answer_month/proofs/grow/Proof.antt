-- `answer_month::grow` meets its contract.
-- Assumes nothing.
use Rattle.answer_month.proofs.Adding.{total_stays, total_fits, total_grows}
use borrow.Author.Rules.{rules}
use Rattle.answer_month.proofs.grow.Statement.{statement}
use Rattle.answer_month.proofs.grow.Tie as tie

too-large-requires : tie.Need-too_large-requires
too-large-requires c κs = search rules

returns : tie.Need-returns-then-too_large
returns c = total_stays _ _ _ c.too_large.ensures c.if-too_large.true

add-result : tie.Need-overflow_add-result
add-result c = record { fits = total_fits _ _ _ c.too_large.ensures c.if-too_large.false }

returns-2 : tie.Need-returns
returns-2 c = total_grows _ _ _ c.too_large.ensures c.if-too_large.false

pub grow_spec : {M : Type 1} → statement M
grow_spec = tie.close (tie.spec
    too-large-requires
    returns
    add-result
    returns-2)
