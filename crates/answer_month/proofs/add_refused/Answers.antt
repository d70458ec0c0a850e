use Rattle.answer_month.specs.Month.{with_refused}
use Rattle.answer_month.proofs.add_refused.Goals as goal

pub returns : goal.returns
unfolding with_refused
returns c = rw (c.over_refused.ensures, c.grow-2.ensures, c.grow.ensures)
