use Rattle.std.proofs.Common.{refl, arith}
use Rattle.runs.specs.Run.{run_of}
use Rattle.engine_stops.proofs.Filling.{Taken, taken_joined, taken_anew, good_rows, filling_none, filling_more, at_some, to_room, reads_small}
use Rattle.engine_stops.proofs.fill.Goals as goal
use Rattle.engine_stops.proofs.fill.Goals.{then-joins_next, else-joins_next}

pub loop-i-init : goal.loop-i-init
loop-i-init c =
    let good = good_rows (run_of c.args.starts.now c.args.lengths.now c.args.aggregates.now c.args.numbers.now c.args.counts.now c.requires.join_fits.head c.requires.join_fits.turn) c.requires.join_fits.accepts in
    filling_none _ _ _ _ _ good.even _ _ _ _ _

pub stop_place-place-requires-clause-sound_table : goal.stop_place-place-requires-clause-sound_table
stop_place-place-requires-clause-sound_table c =
    let good = good_rows (run_of c.args.starts.now c.args.lengths.now c.args.aggregates.now c.args.numbers.now c.args.counts.now c.requires.join_fits.head c.requires.join_fits.turn) c.requires.join_fits.accepts in
    good.table

pub stop_place-place-requires-clause-starts_len : goal.stop_place-place-requires-clause-starts_len
stop_place-place-requires-clause-starts_len c =
    let good = good_rows (run_of c.args.starts.now c.args.lengths.now c.args.aggregates.now c.args.numbers.now c.args.counts.now c.requires.join_fits.head c.requires.join_fits.turn) c.requires.join_fits.accepts in
    good.rows

pub stop_place-place-requires-clause-in_table : goal.stop_place-place-requires-clause-in_table
stop_place-place-requires-clause-in_table c =
    let good = good_rows (run_of c.args.starts.now c.args.lengths.now c.args.aggregates.now c.args.numbers.now c.args.counts.now c.requires.join_fits.head c.requires.join_fits.turn) c.requires.join_fits.accepts in
    good.named _ (omega arith)

pub joins_next-requires-clause-wants_fit : goal.joins_next-requires-clause-wants_fit
joins_next-requires-clause-wants_fit c =
    let good = good_rows (run_of c.args.starts.now c.args.lengths.now c.args.aggregates.now c.args.numbers.now c.args.counts.now c.requires.join_fits.head c.requires.join_fits.turn) c.requires.join_fits.accepts in
    good.fit

pub bounds-reads-at : goal.bounds-reads-at
bounds-reads-at c =
    let good = good_rows (run_of c.args.starts.now c.args.lengths.now c.args.aggregates.now c.args.numbers.now c.args.counts.now c.requires.join_fits.head c.requires.join_fits.turn) c.requires.join_fits.accepts in
    let taken = taken_joined _ _ c.loop-i.reads _ _ c.if-joins_next.true refl refl in
    let room = to_room _ _ _ _ _ good.even _ c.requires.join_fits.all _ _ _ _ _ _ _ _ _ _ c.loop-i.invariant _ (omega arith) _ c.joins_next.ensures _ taken.to_is in
    omega (arith, room, c.loop-i.invariant.reads.same)

pub overflow_sub-at : goal.overflow_sub-at
overflow_sub-at c =
    let good = good_rows (run_of c.args.starts.now c.args.lengths.now c.args.aggregates.now c.args.numbers.now c.args.counts.now c.requires.join_fits.head c.requires.join_fits.turn) c.requires.join_fits.accepts in
    at_some _ _ _ _ _ good.even _ c.requires.join_fits.all _ _ _ _ _ _ _ _ _ _ c.loop-i.invariant _ (omega arith) _ c.joins_next.ensures c.if-joins_next.false

pub bounds-firsts-at : goal.bounds-firsts-at
bounds-firsts-at c =
    let good = good_rows (run_of c.args.starts.now c.args.lengths.now c.args.aggregates.now c.args.numbers.now c.args.counts.now c.requires.join_fits.head c.requires.join_fits.turn) c.requires.join_fits.accepts in
    let taken : Taken c.joins_next.result c.loop-i.at c.loop-i.reads c.if-joins_next.at c.if-joins_next.carried =
    elim c.if-joins_next.branch [
      | then-joins_next w ↦ taken_joined _ _ _ _ _ w.if-joins_next.true w.at-is w.carried-is
      | else-joins_next w ↦ taken_anew _ _ _ _ _ w.if-joins_next.false w.at-is w.carried-is
    ]
    in
    let room = to_room _ _ _ _ _ good.even _ c.requires.join_fits.all _ _ _ _ _ _ _ _ _ _ c.loop-i.invariant _ (omega arith) _ c.joins_next.ensures _ taken.to_is in
    omega (arith, room, c.loop-i.invariant.firsts.same)

pub bounds-lefts-at : goal.bounds-lefts-at
bounds-lefts-at c =
    let good = good_rows (run_of c.args.starts.now c.args.lengths.now c.args.aggregates.now c.args.numbers.now c.args.counts.now c.requires.join_fits.head c.requires.join_fits.turn) c.requires.join_fits.accepts in
    let taken : Taken c.joins_next.result c.loop-i.at c.loop-i.reads c.if-joins_next.at c.if-joins_next.carried =
    elim c.if-joins_next.branch [
      | then-joins_next w ↦ taken_joined _ _ _ _ _ w.if-joins_next.true w.at-is w.carried-is
      | else-joins_next w ↦ taken_anew _ _ _ _ _ w.if-joins_next.false w.at-is w.carried-is
    ]
    in
    let room = to_room _ _ _ _ _ good.even _ c.requires.join_fits.all _ _ _ _ _ _ _ _ _ _ c.loop-i.invariant _ (omega arith) _ c.joins_next.ensures _ taken.to_is in
    omega (arith, room, c.loop-i.invariant.lefts.same)

pub bounds-spans-at : goal.bounds-spans-at
bounds-spans-at c =
    let good = good_rows (run_of c.args.starts.now c.args.lengths.now c.args.aggregates.now c.args.numbers.now c.args.counts.now c.requires.join_fits.head c.requires.join_fits.turn) c.requires.join_fits.accepts in
    let taken : Taken c.joins_next.result c.loop-i.at c.loop-i.reads c.if-joins_next.at c.if-joins_next.carried =
    elim c.if-joins_next.branch [
      | then-joins_next w ↦ taken_joined _ _ _ _ _ w.if-joins_next.true w.at-is w.carried-is
      | else-joins_next w ↦ taken_anew _ _ _ _ _ w.if-joins_next.false w.at-is w.carried-is
    ]
    in
    let room = to_room _ _ _ _ _ good.even _ c.requires.join_fits.all _ _ _ _ _ _ _ _ _ _ c.loop-i.invariant _ (omega arith) _ c.joins_next.ensures _ taken.to_is in
    omega (arith, room, c.loop-i.invariant.spans.same)

pub bounds-counts-i : goal.bounds-counts-i
bounds-counts-i c =
    let good = good_rows (run_of c.args.starts.now c.args.lengths.now c.args.aggregates.now c.args.numbers.now c.args.counts.now c.requires.join_fits.head c.requires.join_fits.turn) c.requires.join_fits.accepts in
    omega (arith, good.even)

pub overflow_add-reads : goal.overflow_add-reads
overflow_add-reads c =
    let good = good_rows (run_of c.args.starts.now c.args.lengths.now c.args.aggregates.now c.args.numbers.now c.args.counts.now c.requires.join_fits.head c.requires.join_fits.turn) c.requires.join_fits.accepts in
    let taken : Taken c.joins_next.result c.loop-i.at c.loop-i.reads c.if-joins_next.at c.if-joins_next.carried =
    elim c.if-joins_next.branch [
      | then-joins_next w ↦ taken_joined _ _ _ _ _ w.if-joins_next.true w.at-is w.carried-is
      | else-joins_next w ↦ taken_anew _ _ _ _ _ w.if-joins_next.false w.at-is w.carried-is
    ]
    in
    omega (arith, good.reads, reads_small _ _ _ _ _ good.even _ c.requires.join_fits.all _ _ _ _ _ _ _ _ _ _ c.loop-i.invariant _ (omega arith) _ c.joins_next.ensures _ taken.to_is _ taken.carried)

pub bounds-reads-at-in-loop-i : goal.bounds-reads-at-in-loop-i
bounds-reads-at-in-loop-i c =
    let good = good_rows (run_of c.args.starts.now c.args.lengths.now c.args.aggregates.now c.args.numbers.now c.args.counts.now c.requires.join_fits.head c.requires.join_fits.turn) c.requires.join_fits.accepts in
    let taken : Taken c.joins_next.result c.loop-i.at c.loop-i.reads c.if-joins_next.at c.if-joins_next.carried =
    elim c.if-joins_next.branch [
      | then-joins_next w ↦ taken_joined _ _ _ _ _ w.if-joins_next.true w.at-is w.carried-is
      | else-joins_next w ↦ taken_anew _ _ _ _ _ w.if-joins_next.false w.at-is w.carried-is
    ]
    in
    let room = to_room _ _ _ _ _ good.even _ c.requires.join_fits.all _ _ _ _ _ _ _ _ _ _ c.loop-i.invariant _ (omega arith) _ c.joins_next.ensures _ taken.to_is in
    omega (arith, room, c.loop-i.invariant.reads.same)

pub loop-i-preserved : goal.loop-i-preserved
loop-i-preserved c =
    let good = good_rows (run_of c.args.starts.now c.args.lengths.now c.args.aggregates.now c.args.numbers.now c.args.counts.now c.requires.join_fits.head c.requires.join_fits.turn) c.requires.join_fits.accepts in
    let taken : Taken c.joins_next.result c.loop-i.at c.loop-i.reads c.if-joins_next.at c.if-joins_next.carried =
    elim c.if-joins_next.branch [
      | then-joins_next w ↦ taken_joined _ _ _ _ _ w.if-joins_next.true w.at-is w.carried-is
      | else-joins_next w ↦ taken_anew _ _ _ _ _ w.if-joins_next.false w.at-is w.carried-is
    ]
    in
    filling_more _ _ _ _ _ good.even _ c.requires.join_fits.all _ _ _ _ _ _ _ _ _ _ c.loop-i.invariant _ (omega arith) _ c.joins_next.ensures _ taken.to_is _ taken.carried
    c.requires.stops_in_bounds c.requires.stops_in_bounds_2 c.requires.stops_in_bounds_3 c.requires.stops_in_bounds_4 _ c.stop_place-place.ensures
