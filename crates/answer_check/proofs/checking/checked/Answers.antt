-- The first refusal, or the page of the list; and the room.
use Rattle.std.proofs.lemmas.Result.{err_from_is_err_and}
use Rattle.answer_check.proofs.Checked.{run_stops, form_stops, planner_stops, checkable, checked_page}
use Rattle.answer_check.proofs.checking.checked.Goals as goal

pub returns-in_err-told : goal.returns-in_err-told
returns-in_err-told c =
    let p = err_from_is_err_and c.from_residual.result c.from_residual.ensures.1 in
    rw (p.1, p.2) (run_stops _ c.args.plan.now _ c.read_run-run.result c.read_run-run.ensures _ c.in_err-told.ensures _)

pub returns-in_err-told-2 : goal.returns-in_err-told-2
returns-in_err-told-2 c =
    let p = err_from_is_err_and c.from_residual-in_err-told-2.result c.from_residual-in_err-told-2.ensures.1 in
    rw (p.1, p.2) (form_stops _ c.args.plan.now _ c.read_run-run.result c.read_run-run.ensures _ c.in_ok-told.ensures c.read_plan-list.result c.read_plan-list.ensures _ c.in_err-told-2.ensures _)

pub returns-in_err-told-3 : goal.returns-in_err-told-3
returns-in_err-told-3 c =
    let p = err_from_is_err_and c.from_residual-in_err-told-3.result c.from_residual-in_err-told-3.ensures.1 in
    rw (p.1, p.2)
    (planner_stops _ c.args.plan.now _ c.read_run-run.result c.read_run-run.ensures _ c.in_ok-told.ensures c.read_plan-list.result c.read_plan-list.ensures _ c.in_ok-told-2.ensures
    c.list_any-least.result _ c.list_any-least.ensures _ c.in_err-told-3.ensures _)

pub put_list-requires-clause-checkable : goal.put_list-requires-clause-checkable
put_list-requires-clause-checkable c =
    checkable _ c.args.plan.now _ c.read_run-run.result c.read_run-run.ensures _ c.in_ok-told.ensures c.read_plan-list.result c.read_plan-list.ensures _ c.in_ok-told-2.ensures
    c.list_any-least.result _ c.list_any-least.ensures _ c.in_ok-told-3.ensures

pub returns : goal.returns
returns c =
    checked_page _ c.args.plan.now _ c.read_run-run.result c.read_run-run.ensures _ c.in_ok-told.ensures c.read_plan-list.result c.read_plan-list.ensures _ c.in_ok-told-2.ensures
    c.list_any-least.result _ c.list_any-least.ensures _ c.in_ok-told-3.ensures _ _ c.put_list.ensures
