use Rattle.text_lines.proofs.Passing.{unkeyed_pair, pair_line_bad, pair_line_good}
use Rattle.text_lines.proofs.pair_line.Goals as goal

pub returns-in_err-value : goal.returns-in_err-value
returns-in_err-value c = rw c.from_residual.ensures (unkeyed_pair _ _ c.in_err-value.ensures)

pub returns-in_err-first : goal.returns-in_err-first
returns-in_err-first c = rw c.from_residual-in_err-first.ensures (pair_line_bad _ _ _ _ _ c.in_ok-value.ensures c.in_err-first.ensures)

pub returns : goal.returns
returns c = pair_line_good _ _ _ _ _ c.in_ok-value.ensures _ _ c.in_ok-first.ensures
