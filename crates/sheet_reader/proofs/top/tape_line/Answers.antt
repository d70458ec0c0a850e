use Rattle.sheet_reader.proofs.Passing.{tape_line_unkeyed, tape_line_bad, tape_line_good}
use Rattle.sheet_reader.proofs.top.tape_line.Goals as goal

pub returns-in_err-name : goal.returns-in_err-name
returns-in_err-name c = rw c.from_residual.ensures (tape_line_unkeyed _ c.in_err-name.ensures)

pub returns-then-not-is_name : goal.returns-then-not-is_name
returns-then-not-is_name c = tape_line_bad _ _ _ c.in_ok-name.ensures _ c.is_name.ensures c.if-not-is_name.true

pub returns : goal.returns
returns c = tape_line_good _ _ _ c.in_ok-name.ensures _ c.is_name.ensures c.if-not-is_name.false
