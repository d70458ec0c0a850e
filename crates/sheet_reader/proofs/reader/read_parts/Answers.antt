use Rattle.std.proofs.lemmas.Result.{err_from_is_err_and}
use Rattle.sheet_reader.proofs.Order.{parts_top_bad, parts_below_bad}
use Rattle.sheet_reader.proofs.reader.read_parts.Goals as goal

pub returns-in_err-top : goal.returns-in_err-top
returns-in_err-top c =
    let p = err_from_is_err_and c.from_residual.result c.from_residual.ensures.1 in
    rw (p.1, p.2) (parts_top_bad _ _ c.in_err-top.ensures)

pub returns-in_err-below : goal.returns-in_err-below
returns-in_err-below c =
    let p = err_from_is_err_and c.from_residual-in_err-below.result c.from_residual-in_err-below.ensures.1 in
    rw (p.1, p.2) (parts_below_bad _ _ c.in_ok-top.ensures _ c.in_err-below.ensures)
