-- The run, with its head at the end of the tape or where it stands beyond, its list and the rows in turn.
use mathlib.Core.Path.{sym, ap, ◌∙◌}
use Rattle.std.proofs.lemmas.Result.{err_from_is_err_and}
use Rattle.refusals.specs.Refusals.{checked}
use Rattle.refusals.proofs.Checked.{passed}
use Rattle.runs.specs.AnyHead.{lifted}
use Rattle.runs.specs.Run.{run_of}
use Rattle.runs.proofs.Judged.{wants_named}
use Rattle.runs.proofs.Stops.{run_sound}
use Rattle.runs.proofs.AnyHead.{judge_any_lem, accepted_any}
use Rattle.walk.proofs.Priced.{price_any_run_stops, price_any_list_stops, price_any_rows_decide}
use Rattle.walk.proofs.any_head.judge_price_any.Goals as goal

pub returns-in_err-judge : goal.returns-in_err-judge
returns-in_err-judge c =
    let a = c.args in
    let r = run_of a.starts.now a.lengths.now a.aggregates.now a.numbers.now a.counts.now a.head a.turn in
    let p = err_from_is_err_and c.from_residual.result c.from_residual.ensures.1 in
    rw (p.1, p.2) (price_any_run_stops r _ _ _ _ ((rw c.lift_head.ensures at c.in_err-judge.ensures) ∙ ap checked (sym (judge_any_lem r))))

pub judge_list_any-requires : goal.judge_list_any-requires
judge_list_any-requires c =
    let a = c.args in
    let r = run_of a.starts.now a.lengths.now a.aggregates.now a.numbers.now a.counts.now a.head a.turn in
    let good = accepted_any r (passed _ _ ((rw c.lift_head.ensures at c.in_ok-judge.ensures) ∙ ap checked (sym (judge_any_lem r)))) in
    wants_named a.starts.now a.numbers.now a.counts.now good.run.wants

pub returns-in_err-judge_list_any : goal.returns-in_err-judge_list_any
returns-in_err-judge_list_any c =
    let a = c.args in
    let r = run_of a.starts.now a.lengths.now a.aggregates.now a.numbers.now a.counts.now a.head a.turn in
    let run = (rw c.lift_head.ensures at c.in_ok-judge.ensures) ∙ ap checked (sym (judge_any_lem r)) in
    let good = (accepted_any r (passed _ _ run)).run in
    let p = err_from_is_err_and c.from_residual-in_err-judge_list_any.result c.from_residual-in_err-judge_list_any.ensures.1 in
    rw (p.1, p.2)
    (price_any_list_stops r _ _ _ _ run _
    (c.in_err-judge_list_any.ensures a.lengths.now a.counts.now (sym good.wants.equal) (run_sound (lifted r) good).ascends))

pub returns : goal.returns
returns c =
    let a = c.args in
    let r = run_of a.starts.now a.lengths.now a.aggregates.now a.numbers.now a.counts.now a.head a.turn in
    let run = (rw c.lift_head.ensures at c.in_ok-judge.ensures) ∙ ap checked (sym (judge_any_lem r)) in
    let good = (accepted_any r (passed _ _ run)).run in
    price_any_rows_decide r _ _ _ _ run
    _ (c.in_ok-judge_list_any.ensures a.lengths.now a.counts.now (sym good.wants.equal) (run_sound (lifted r) good).ascends) _ _ c.when.ensures c.short_rows.ensures
