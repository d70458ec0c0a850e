use Rattle.text_lines.proofs.Passing.{unkeyed_triple, triple_line_bad, triple_line_good}
use Rattle.text_lines.proofs.triple_line.Goals as goal

pub returns-in_err-value : goal.returns-in_err-value
returns-in_err-value c = rw c.from_residual.ensures (unkeyed_triple _ _ c.in_err-value.ensures)

pub returns-in_err-first : goal.returns-in_err-first
returns-in_err-first c = rw c.from_residual-in_err-first.ensures (triple_line_bad _ _ _ _ _ c.in_ok-value.ensures c.in_err-first.ensures)

pub returns : goal.returns
returns c = triple_line_good _ _ _ _ _ c.in_ok-value.ensures _ _ _ c.in_ok-first.ensures
