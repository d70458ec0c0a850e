-- The run, its list and the rows in turn. The list's verdict is that of the run's stops, since the run is good.
use mathlib.Core.Path.{sym}
use Rattle.std.proofs.lemmas.Result.{err_from_is_err_and}
use Rattle.refusals.proofs.Checked.{passed}
use Rattle.runs.proofs.Judged.{accepted_run}
use Rattle.walk.proofs.Priced.{price_run_stops, price_list_stops, price_rows_decide}
use Rattle.walk.proofs.pricing.judge_price.Goals as goal

pub returns-in_err-judge : goal.returns-in_err-judge
returns-in_err-judge c =
    let p = err_from_is_err_and c.from_residual.result c.from_residual.ensures.1 in
    rw (p.1, p.2) (price_run_stops _ _ _ _ _ c.in_err-judge.ensures)

pub returns-in_err-judge_list : goal.returns-in_err-judge_list
returns-in_err-judge_list c =
    let p = err_from_is_err_and c.from_residual-in_err-judge_list.result c.from_residual-in_err-judge_list.ensures.1 in
    let good = accepted_run _ (passed _ _ c.in_ok-judge.ensures) in
    rw (p.1, p.2)
    (price_list_stops _ _ _ _ _ c.in_ok-judge.ensures _ (c.in_err-judge_list.ensures c.args.starts.now c.args.lengths.now c.args.counts.now (sym good.wants.equal)))

pub returns : goal.returns
returns c =
    let good = accepted_run _ (passed _ _ c.in_ok-judge.ensures) in
    price_rows_decide _ _ _ _ _ c.in_ok-judge.ensures
    _ (c.in_ok-judge_list.ensures c.args.starts.now c.args.lengths.now c.args.counts.now (sym good.wants.equal)) _ _ c.when.ensures c.short_rows.ensures
