use Rattle.text_lines.proofs.Passing.{line_behind_lem, line_missing, line_unkeyed, line_keyed}
use Rattle.text_lines.proofs.find_value.Goals as goal

pub returns-then-text-at : goal.returns-then-text-at
returns-then-text-at c = line_behind_lem _ _ _ c.if-text-at.true

pub returns-in_err-length : goal.returns-in_err-length
returns-in_err-length c = rw c.from_residual.ensures (line_missing _ _ _ c.if-text-at.false c.in_err-length.ensures)

pub returns-then-not-starts : goal.returns-then-not-starts
returns-then-not-starts c = line_unkeyed _ _ _ c.if-text-at.false _ c.in_ok-length.ensures _ c.starts.ensures c.if-not-starts.true

pub returns : goal.returns
returns c = line_keyed _ _ _ c.if-text-at.false _ c.in_ok-length.ensures _ c.starts.ensures c.if-not-starts.false
