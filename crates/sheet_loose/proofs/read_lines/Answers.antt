use Rattle.std.proofs.lemmas.Result.{err_from_is_err_and}
use Rattle.sheet_loose.proofs.Order.{wants_at_lem}
use Rattle.sheet_loose.proofs.Answers.{top_bad, below_bad, parts_are}
use Rattle.sheet_loose.proofs.read_lines.Goals as goal

pub returns-in_err-top : goal.returns-in_err-top
returns-in_err-top c =
    let p = err_from_is_err_and c.from_residual.result c.from_residual.ensures.1 in
    rw (p.1, p.2) (top_bad _ _ c.in_err-top.ensures)

pub file_lines-files-requires : goal.file_lines-files-requires
file_lines-files-requires c = c.in_ok-top.ensures.next.within

pub read_below-requires : goal.read_below-requires
read_below-requires c = wants_at_lem _ _ _ c.in_ok-top.ensures.next c.file_lines-files.ensures

pub returns-in_err-below : goal.returns-in_err-below
returns-in_err-below c =
    let p = err_from_is_err_and c.from_residual-in_err-below.result c.from_residual-in_err-below.ensures.1 in
    rw (p.1, p.2) (below_bad _ _ c.in_ok-top.ensures _ c.in_err-below.ensures)

pub returns : goal.returns
returns c = parts_are _ _ c.in_ok-top.ensures _ c.file_lines-files.ensures _ _ _ c.in_ok-below.ensures _ c.accepted.ensures
