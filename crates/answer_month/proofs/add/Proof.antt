-- `answer_month::add` meets its contract: by the number that the outcome's kind has.
-- Assumes nothing.
use native.Mathlib.Omega.{arith}
use Rattle.refusals.proofs.Verdicts.{number_small}
use Rattle.answer_month.proofs.Adding.{added_refused, added_accepted}
use borrow.Author.Rules.{rules}
use Rattle.answer_month.proofs.add.Statement.{statement}
use Rattle.answer_month.proofs.add.Tie as tie

number-requires : tie.Need-number-number-requires
number-requires c κs = search rules

add-refused-requires : tie.Need-add_refused-requires
add-refused-requires c κs = omega (arith, number_small c.args.run.refusal, c.number-number.ensures)

returns : tie.Need-returns-then-number-ne0
returns c = added_refused _ _ _ c.number-number.ensures c.if-number-ne0.true _ c.add_refused.ensures

add-totals-requires : tie.Need-add_totals-requires
add-totals-requires c κs = search rules

add-longest-requires : tie.Need-add_longest-requires
add-longest-requires c κs = search rules

returns-2 : tie.Need-returns
returns-2 c = added_accepted _ _ _ c.number-number.ensures c.if-number-ne0.false _ _ c.add_totals.ensures c.add_longest.ensures

pub add_spec : {M : Type 1} → statement M
add_spec =
    tie.close
    (tie.spec
    number-requires
    add-refused-requires
    returns
    add-totals-requires
    add-longest-requires
    returns-2)
