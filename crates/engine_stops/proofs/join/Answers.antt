-- The run is judged, then the rows, and only then they are filled.
use Rattle.std.proofs.lemmas.Result.{err_from_is_err_and}
use Rattle.refusals.proofs.Checked.{passed}
use Rattle.engine_stops.specs.Joining.{join_rows}
use Rattle.engine_stops.proofs.Filling.{good_rows}
use Rattle.engine_stops.proofs.Answers.{run_refused, rows_refused_lem, rows_accepted, rows_long, four_rows_lem}
use Rattle.engine_stops.proofs.join.Goals as goal

pub returns-in_err-judge : goal.returns-in_err-judge
returns-in_err-judge c =
    let p = err_from_is_err_and c.from_residual.result c.from_residual.ensures.1 in
    let so = run_refused _ _ _ c.in_err-judge.ensures in
    record { value = rw (p.1, p.2) so.says; reads_value = so.rows }

pub count_stops-stops-requires : goal.count_stops-stops-requires
count_stops-stops-requires c = (good_rows _ (passed _ _ c.in_ok-judge.ensures)).fit

pub returns-in_err-when : goal.returns-in_err-when
returns-in_err-when c =
    let a = c.args in
    let p = err_from_is_err_and c.from_residual-in_err-when.result c.from_residual-in_err-when.ensures.1 in
    let run = passed _ _ c.in_ok-judge.ensures in
    let counted = c.count_stops-stops.ensures a.starts.now a.lengths.now a.counts.now (good_rows _ run).even in
    let so = rows_refused_lem _ _ run _ counted _ c.short_rows.ensures _ c.in_err-when.ensures in
    record { value = rw (p.1, p.2) so.says; reads_value = so.rows }

pub fill-requires : goal.fill-requires
fill-requires c =
    let a = c.args in
    let run = passed _ _ c.in_ok-judge.ensures in
    let counted = c.count_stops-stops.ensures a.starts.now a.lengths.now a.counts.now (good_rows _ run).even in
    let rows = join_rows a.firsts.now a.lefts.now a.spans.now a.reads.now in
    let long = rows_long _ rows run _ counted _ c.short_rows.ensures (passed _ _ c.in_ok-when.ensures) in
    record {
      join_fits = record { head = a.head; turn = a.turn; accepts = run; all = counted };
      stops_in_bounds = long.firsts;
      stops_in_bounds_2 = long.lefts;
      stops_in_bounds_3 = long.spans;
      stops_in_bounds_4 = long.reads;
    }

pub returns : goal.returns
returns c =
    let a = c.args in
    let run = passed _ _ c.in_ok-judge.ensures in
    let counted = c.count_stops-stops.ensures a.starts.now a.lengths.now a.counts.now (good_rows _ run).even in
    let filled = c.fill.ensures in
    let so =
    rows_accepted _ _ run _ counted _ c.short_rows.ensures (passed _ _ c.in_ok-when.ensures)
    _ (four_rows_lem filled.firsts_after filled.lefts_after filled.spans_after filled.reads_after) in
    record { value = so.says; reads_value = so.rows }
