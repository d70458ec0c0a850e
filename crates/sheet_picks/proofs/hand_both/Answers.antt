-- 8, or both texts in the rows.
use mathlib.Core.Path.{refl}
use Rattle.std.proofs.lemmas.Result.{err_from_is_err_and}
use Rattle.sheet_picks.proofs.Laying.{part_size}
use Rattle.sheet_picks.proofs.Handing.{both_none, both_put}
use Rattle.sheet_picks.proofs.hand_both.Goals as goal

pub returns-in_err-judge_rows : goal.returns-in_err-judge_rows
returns-in_err-judge_rows c =
    let p = err_from_is_err_and c.from_residual.result c.from_residual.ensures.1 in
    rw (p.1, p.2) (both_none _ _ c.args.out.now _ _ _ _ _ c.put_sheet-bytes.ensures _ _ c.put_names-named.ensures _ c.in_err-judge_rows.ensures)

pub slice_bounds-put-end : goal.slice_bounds-put-end
slice_bounds-put-end c = part_size _ _ _ _ _ c.put_sheet-bytes.ensures

pub returns : goal.returns
returns c =
    both_put _ _ c.args.out.now _ _ _ _ _ c.put_sheet-bytes.ensures _ _ c.put_names-named.ensures _ c.in_ok-judge_rows.ensures _ _ c.put.ensures _ _ c.put_names.ensures _ refl
