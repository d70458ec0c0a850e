-- The checks in their order, each the first that can refuse; then the list of a run whose stops the four rows hold.
use mathlib.Core.Path.{sym}
use lib.Seq.{length-take-le}
use Rattle.std.proofs.lemmas.Result.{err_from_is_err_and}
use Rattle.refusals.proofs.Checked.{passed}
use Rattle.runs.specs.Run.{run_of}
use Rattle.planner.specs.Rows.{rows_of}
use Rattle.planner.proofs.Joined.{join_stopped, lifted_passed, lifted_front, lifted_holds}
use Rattle.planner.proofs.Refusals.{run_refused, reads_refused, engine_answers}
use Rattle.planner.proofs.list_any.Goals as goal

pub returns-in_err-k : goal.returns-in_err-k
returns-in_err-k c =
    let a = c.args in
    let r = run_of a.starts.now a.lengths.now a.aggregates.now a.numbers.now a.counts.now a.head a.turn in
    let p = err_from_is_err_and c.from_residual.result c.from_residual.ensures.1 in
    rw (p.1, p.2) (run_refused r (rows_of a.froms.now a.tos.now a.times.now a.legs.now a.room.now) _ (join_stopped r _ (rw c.lift_head.ensures at c.in_err-k.ensures.value)))

pub returns-in_err-when : goal.returns-in_err-when
returns-in_err-when c =
    let a = c.args in
    let p = err_from_is_err_and c.from_residual-in_err-when.result c.from_residual-in_err-when.ensures.1 in
    let run = lifted_passed _ _ _ _ _ _ _ _ _ _ c.lift_head.ensures c.in_ok-k.ensures.value c.in_ok-k.ensures.reads_value in
    rw (p.1, p.2) (reads_refused _ (rows_of a.froms.now a.tos.now a.times.now a.legs.now a.room.now) run _ c.short_rows.ensures _ c.in_err-when.ensures)

pub slice_bounds-firsts-end : goal.slice_bounds-firsts-end
slice_bounds-firsts-end c = (lifted_front _ _ _ _ _ c.args.head _ _ _ _ c.lift_head.ensures c.in_ok-k.ensures.value c.in_ok-k.ensures.reads_value).firsts.0

pub slice_bounds-list_named-end : goal.slice_bounds-list_named-end
slice_bounds-list_named-end c = sym (length-take-le _ _ (lifted_front _ _ _ _ _ c.args.head _ _ _ _ c.lift_head.ensures c.in_ok-k.ensures.value c.in_ok-k.ensures.reads_value).firsts.0)

pub slice_bounds-lefts-end : goal.slice_bounds-lefts-end
slice_bounds-lefts-end c = (lifted_front _ _ _ _ _ c.args.head _ _ _ _ c.lift_head.ensures c.in_ok-k.ensures.value c.in_ok-k.ensures.reads_value).lefts.0

pub slice_bounds-list_named-end-2 : goal.slice_bounds-list_named-end-2
slice_bounds-list_named-end-2 c = sym (length-take-le _ _ (lifted_front _ _ _ _ _ c.args.head _ _ _ _ c.lift_head.ensures c.in_ok-k.ensures.value c.in_ok-k.ensures.reads_value).lefts.0)

pub slice_bounds-spans-end : goal.slice_bounds-spans-end
slice_bounds-spans-end c = (lifted_front _ _ _ _ _ c.args.head _ _ _ _ c.lift_head.ensures c.in_ok-k.ensures.value c.in_ok-k.ensures.reads_value).spans.0

pub slice_bounds-list_named-end-3 : goal.slice_bounds-list_named-end-3
slice_bounds-list_named-end-3 c = sym (length-take-le _ _ (lifted_front _ _ _ _ _ c.args.head _ _ _ _ c.lift_head.ensures c.in_ok-k.ensures.value c.in_ok-k.ensures.reads_value).spans.0)

pub slice_bounds-reads-end : goal.slice_bounds-reads-end
slice_bounds-reads-end c = (lifted_front _ _ _ _ _ c.args.head _ _ _ _ c.lift_head.ensures c.in_ok-k.ensures.value c.in_ok-k.ensures.reads_value).reads.0

pub slice_bounds-list_named-end-4 : goal.slice_bounds-list_named-end-4
slice_bounds-list_named-end-4 c = sym (length-take-le _ _ (lifted_front _ _ _ _ _ c.args.head _ _ _ _ c.lift_head.ensures c.in_ok-k.ensures.value c.in_ok-k.ensures.reads_value).reads.0)

pub list_named-requires : goal.list_named-requires
list_named-requires c =
    let a = c.args in
    record {
      run = run_of a.starts.now a.lengths.now a.aggregates.now a.numbers.now a.counts.now a.head a.turn;
      holds = lifted_holds _ _ _ _ _ _ _ _ _ _ c.lift_head.ensures c.in_ok-k.ensures.value c.in_ok-k.ensures.reads_value;
    }

pub returns : goal.returns
returns c =
    let a = c.args in
    let r = run_of a.starts.now a.lengths.now a.aggregates.now a.numbers.now a.counts.now a.head a.turn in
    let run = lifted_passed _ _ _ _ _ _ _ _ _ _ c.lift_head.ensures c.in_ok-k.ensures.value c.in_ok-k.ensures.reads_value in
    let holds = lifted_holds _ _ _ _ _ _ _ _ _ _ c.lift_head.ensures c.in_ok-k.ensures.value c.in_ok-k.ensures.reads_value in
    engine_answers r (rows_of a.froms.now a.tos.now a.times.now a.legs.now a.room.now) run _ c.short_rows.ensures (passed _ _ c.in_ok-when.ensures) _ _
    (c.list_named.ensures r holds)
