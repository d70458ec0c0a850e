use Rattle.text_lines.proofs.Passing.{unkeyed_number, number_line_bad, number_line_good}
use Rattle.text_lines.proofs.number_line.Goals as goal

pub returns-in_err-value : goal.returns-in_err-value
returns-in_err-value c = rw c.from_residual.ensures (unkeyed_number _ _ c.in_err-value.ensures)

pub returns-in_err-number : goal.returns-in_err-number
returns-in_err-number c = rw c.from_residual-in_err-number.ensures (number_line_bad _ _ _ _ _ c.in_ok-value.ensures c.in_err-number.ensures)

pub returns : goal.returns
returns c = number_line_good _ _ _ _ _ c.in_ok-value.ensures _ c.in_ok-number.ensures
