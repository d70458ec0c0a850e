use Rattle.sheet_reader.proofs.Passing.{count_line_bad, count_line_over, count_line_good}
use Rattle.sheet_reader.proofs.top.count_line.Goals as goal

pub returns-in_err-line : goal.returns-in_err-line
returns-in_err-line c = rw c.from_residual.ensures (count_line_bad c.args.key.now c.args.most c.args.sheet.now c.args.at c.in_err-line.ensures)

pub returns-then-most-line : goal.returns-then-most-line
returns-then-most-line c = count_line_over _ _ _ _ _ _ c.in_ok-line.ensures c.if-most-line.true

pub returns : goal.returns
returns c = count_line_good _ _ _ _ _ _ c.in_ok-line.ensures c.if-most-line.false
