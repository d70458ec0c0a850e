-- The checks in their order, each the first that can refuse; then the list of the stops that the four rows hold.
use mathlib.Core.Path.{refl, sym}
use native.Mathlib.Omega.{arith}
use lib.ListN.{length}
use lib.Seq.{length-take-le}
use Rattle.std.proofs.lemmas.Result.{err_from_is_err_and}
use Rattle.refusals.specs.declared.Refusal.TheVariants.{ShortRow}
use Rattle.refusals.proofs.Verdicts.{accepts_if}
use Rattle.refusals.proofs.Checked.{passed}
use Rattle.runs.specs.Run.{run_of}
use Rattle.engine_plain.specs.Plain.{plain_rows}
use Rattle.engine_plain.proofs.Checks.{run_passed, checks_stopped}
use Rattle.engine_plain.proofs.Held.{checks_accept, join_front, front_rows, front_long, front_written, list_short}
use Rattle.engine_plain.proofs.Planned.{long_rows, run_refused, rows_refused_lem, run_listed, listed_so}
use Rattle.engine_plain.proofs.list.Goals as goal

pub returns-in_err-k : goal.returns-in_err-k
returns-in_err-k c =
    let a = c.args in
    let r = run_of a.starts.now a.lengths.now a.aggregates.now a.numbers.now a.counts.now a.head a.turn in
    let p = err_from_is_err_and c.from_residual.result c.from_residual.ensures.1 in
    rw (p.1, p.2) (run_refused r (plain_rows a.froms.now a.tos.now a.times.now a.legs.now) _ (checks_stopped r _ (rw c.join-joined.ensures.value at c.in_err-k.ensures)))

pub returns-in_err-when : goal.returns-in_err-when
returns-in_err-when c =
    let a = c.args in
    let p = err_from_is_err_and c.from_residual-in_err-when.result c.from_residual-in_err-when.ensures.1 in
    let all = checks_accept _ _ _ _ c.join-joined.ensures.value c.join-joined.ensures.reads_value c.in_ok-k.ensures in
    rw (p.1, p.2) (rows_refused_lem _ (plain_rows a.froms.now a.tos.now a.times.now a.legs.now) all.passes _ all.is _ c.short_rows.ensures _ c.in_err-when.ensures)

pub slice_bounds-firsts-end : goal.slice_bounds-firsts-end
slice_bounds-firsts-end c = (join_front _ _ _ _ c.join-joined.ensures.value c.join-joined.ensures.reads_value c.in_ok-k.ensures).firsts.0

pub slice_bounds-write_list-end : goal.slice_bounds-write_list-end
slice_bounds-write_list-end c = sym (length-take-le _ _ (join_front _ _ _ _ c.join-joined.ensures.value c.join-joined.ensures.reads_value c.in_ok-k.ensures).firsts.0)

pub slice_bounds-lefts-end : goal.slice_bounds-lefts-end
slice_bounds-lefts-end c = (join_front _ _ _ _ c.join-joined.ensures.value c.join-joined.ensures.reads_value c.in_ok-k.ensures).lefts.0

pub slice_bounds-write_list-end-2 : goal.slice_bounds-write_list-end-2
slice_bounds-write_list-end-2 c = sym (length-take-le _ _ (join_front _ _ _ _ c.join-joined.ensures.value c.join-joined.ensures.reads_value c.in_ok-k.ensures).lefts.0)

pub slice_bounds-spans-end : goal.slice_bounds-spans-end
slice_bounds-spans-end c = (join_front _ _ _ _ c.join-joined.ensures.value c.join-joined.ensures.reads_value c.in_ok-k.ensures).spans.0

pub slice_bounds-write_list-end-3 : goal.slice_bounds-write_list-end-3
slice_bounds-write_list-end-3 c = sym (length-take-le _ _ (join_front _ _ _ _ c.join-joined.ensures.value c.join-joined.ensures.reads_value c.in_ok-k.ensures).spans.0)

pub slice_bounds-reads-end : goal.slice_bounds-reads-end
slice_bounds-reads-end c = (join_front _ _ _ _ c.join-joined.ensures.value c.join-joined.ensures.reads_value c.in_ok-k.ensures).reads.0

pub slice_bounds-write_list-end-4 : goal.slice_bounds-write_list-end-4
slice_bounds-write_list-end-4 c = sym (length-take-le _ _ (join_front _ _ _ _ c.join-joined.ensures.value c.join-joined.ensures.reads_value c.in_ok-k.ensures).reads.0)

pub write_list-requires : goal.write_list-requires
write_list-requires c =
    let a = c.args in
    let r = run_of a.starts.now a.lengths.now a.aggregates.now a.numbers.now a.counts.now a.head a.turn in
    let all = checks_accept _ _ _ _ c.join-joined.ensures.value c.join-joined.ensures.reads_value c.in_ok-k.ensures in
    let front = join_front _ _ _ _ c.join-joined.ensures.value c.join-joined.ensures.reads_value c.in_ok-k.ensures in
    let accepts = run_passed r all.passes in
    let size = front_long r accepts _ _ front in
    let long = long_rows (length a.numbers.now) _ _ (length a.froms.now) (length a.tos.now) (length a.times.now) (length a.legs.now) _ all.is c.short_rows.ensures (accepts_if _ ShortRow refl (passed _ _ c.in_ok-when.ensures)) in
    record { stop_rows = front_rows r accepts _ _ front; lefts_in_bounds = omega (arith, size, long.starts); lefts_in_bounds_2 = omega (arith, size, long.ends) }

pub returns : goal.returns
returns c =
    let a = c.args in
    let rows = plain_rows a.froms.now a.tos.now a.times.now a.legs.now in
    let all = checks_accept _ _ _ _ c.join-joined.ensures.value c.join-joined.ensures.reads_value c.in_ok-k.ensures in
    let front = join_front _ _ _ _ c.join-joined.ensures.value c.join-joined.ensures.reads_value c.in_ok-k.ensures in
    let accepts = run_passed _ all.passes in
    let none = accepts_if _ ShortRow refl (passed _ _ c.in_ok-when.ensures) in
    let long = long_rows _ _ _ _ _ _ _ _ all.is c.short_rows.ensures none in
    run_listed _ rows all.passes _ all.is _ c.short_rows.ensures none _ _ _
    (listed_so _ rows accepts long (list_short _ accepts _ _ front) _ _ _ (front_written _ accepts _ _ front _ _ _ _ _ c.write_list.ensures))
