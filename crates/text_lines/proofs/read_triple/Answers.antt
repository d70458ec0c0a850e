use Rattle.text_lines.proofs.Passing.{no_comma_three, first_bad_lem, rest_bad, triple_is}
use Rattle.text_lines.proofs.read_triple.Goals as goal

pub returns-in_err-comma : goal.returns-in_err-comma
returns-in_err-comma c = rw c.from_residual.ensures (no_comma_three _ c.in_err-comma.ensures)

pub returns-in_err-first : goal.returns-in_err-first
returns-in_err-first c = rw c.from_residual-in_err-first.ensures (first_bad_lem _ _ c.in_ok-comma.ensures c.in_err-first.ensures)

pub returns-in_err-second : goal.returns-in_err-second
returns-in_err-second c = rw c.from_residual-in_err-second.ensures (rest_bad _ _ c.in_ok-comma.ensures c.in_err-second.ensures)

pub returns : goal.returns
returns c = triple_is _ _ c.in_ok-comma.ensures _ _ _ c.in_ok-first.ensures c.in_ok-second.ensures
