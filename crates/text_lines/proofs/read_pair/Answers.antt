use Rattle.text_lines.proofs.Passing.{no_comma, left_bad, right_bad, pair_is}
use Rattle.text_lines.proofs.read_pair.Goals as goal

pub returns-in_err-comma : goal.returns-in_err-comma
returns-in_err-comma c = rw c.from_residual.ensures (no_comma _ c.in_err-comma.ensures)

pub returns-in_err-first : goal.returns-in_err-first
returns-in_err-first c = rw c.from_residual-in_err-first.ensures (left_bad _ _ c.in_ok-comma.ensures c.in_err-first.ensures)

pub returns-in_err-second : goal.returns-in_err-second
returns-in_err-second c = rw c.from_residual-in_err-second.ensures (right_bad _ _ c.in_ok-comma.ensures c.in_err-second.ensures)

pub returns : goal.returns
returns c = pair_is _ _ c.in_ok-comma.ensures _ _ c.in_ok-first.ensures c.in_ok-second.ensures
