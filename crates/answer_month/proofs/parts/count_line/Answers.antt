use Rattle.std.proofs.lemmas.Result.{err_from_is_err_and}
use Rattle.answer_month.proofs.Counts.{no_line, more_behind, not_number, counts}
use Rattle.answer_month.proofs.parts.count_line.Goals as goal

pub returns-in_err-end : goal.returns-in_err-end
returns-in_err-end c =
    let p = err_from_is_err_and c.from_residual.result c.from_residual.ensures.1 in
    rw p.1 (no_line _ _ c.find.ensures c.in_err-end.ensures.ok_part)

pub returns-then-end-line : goal.returns-then-end-line
returns-then-end-line c = more_behind _ _ c.find.ensures _ c.in_ok-end.ensures.ok_part c.if-end-line.true

pub returns-in_err-bytes : goal.returns-in_err-bytes
returns-in_err-bytes c =
    let p = err_from_is_err_and c.from_residual-in_err-bytes.result c.from_residual-in_err-bytes.ensures.1 in
    rw p.1 (not_number _ _ c.find.ensures _ c.in_ok-end.ensures.ok_part c.if-end-line.false _ c.read_number.ensures c.in_err-bytes.ensures.ok_part)

pub returns : goal.returns
returns c = counts _ _ c.find.ensures _ c.in_ok-end.ensures.ok_part c.if-end-line.false _ c.read_number.ensures _ c.in_ok-bytes.ensures.ok_part
