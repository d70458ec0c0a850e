use Rattle.std.proofs.lemmas.Result.{err_from_is_err_and}
use Rattle.sheet_loose.proofs.Answers.{sheet_long, line_refuses, parts_good}
use Rattle.sheet_loose.proofs.read_parts.Goals as goal

pub returns-in_err-when : goal.returns-in_err-when
returns-in_err-when c =
    let p = err_from_is_err_and c.from_residual.result c.from_residual.ensures.1 in
    rw (p.1, p.2) (sheet_long _ _ c.in_err-when.ensures)

pub returns-in-Ok : goal.returns-in-Ok
returns-in-Ok c = parts_good _ c.in_ok-when.ensures _ c.in-Ok.ensures

pub returns-in-Err : goal.returns-in-Err
returns-in-Err c = line_refuses _ c.in_ok-when.ensures _ c.in-Err.ensures
