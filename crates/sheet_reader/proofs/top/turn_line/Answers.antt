use Rattle.sheet_reader.proofs.Passing.{unkeyed_turn, turn_line_empty, turn_line_bad, turn_line_good}
use Rattle.sheet_reader.proofs.top.turn_line.Goals as goal

pub returns-in_err-price : goal.returns-in_err-price
returns-in_err-price c = rw c.from_residual.ensures (unkeyed_turn _ c.in_err-price.ensures)

pub returns-then-price : goal.returns-then-price
returns-then-price c = turn_line_empty _ _ _ _ c.in_ok-price.ensures c.if-price.true

pub returns-in_err-number : goal.returns-in_err-number
returns-in_err-number c = rw c.from_residual-in_err-number.ensures (turn_line_bad _ _ _ _ c.in_ok-price.ensures c.if-price.false c.in_err-number.ensures)

pub returns : goal.returns
returns c = turn_line_good _ _ _ _ c.in_ok-price.ensures c.if-price.false _ c.in_ok-number.ensures
