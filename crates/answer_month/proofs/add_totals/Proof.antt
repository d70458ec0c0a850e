-- `answer_month::add_totals` meets its contract.
-- Assumes nothing.
use Rattle.answer_month.specs.Month.{with_totals}
use borrow.Author.Rules.{rules}
use Rattle.answer_month.proofs.add_totals.Statement.{statement}
use Rattle.answer_month.proofs.add_totals.Tie as tie

grow-requires : tie.Need-grow-requires
grow-requires c κs = search rules

grow-requires-2 : tie.Need-grow-requires-2
grow-requires-2 c κs = search rules

grow-requires-3 : tie.Need-grow-requires-3
grow-requires-3 c κs = search rules

grow-requires-4 : tie.Need-grow-requires-4
grow-requires-4 c κs = search rules

grow-requires-5 : tie.Need-grow-requires-5
grow-requires-5 c κs = search rules

over-totals-requires : tie.Need-over_totals-requires
over-totals-requires c κs = search rules

returns : tie.Need-returns
unfolding with_totals
returns c =
    let g = c in
    rw (c.over_totals.ensures, g.grow-5.ensures, g.grow-4.ensures, g.grow-3.ensures, g.grow-2.ensures, g.grow.ensures)

pub add_totals_spec : {M : Type 1} → statement M
add_totals_spec =
    tie.close
    (tie.spec
    grow-requires
    grow-requires-2
    grow-requires-3
    grow-requires-4
    grow-requires-5
    over-totals-requires
    returns)
