-- The list without the entry stands in two rows, and the pricer accepts it.
use Rattle.std.proofs.Common.{arith}
use mathlib.Core.Path.{sym}
use lib.Seq.{length-take-le}
use Rattle.runs.specs.Run.{run_of}
use Rattle.figures.proofs.Without.{front_long, front_is}
use Rattle.figures.proofs.AnyHead.{even, few, sum_is}
use Rattle.figures.proofs.sum_without.Goals as goal

pub leave_out-requires-clause-row_in_bounds : goal.leave_out-requires-clause-row_in_bounds
leave_out-requires-clause-row_in_bounds c =
    let same = even (run_of c.args.starts.now c.args.lengths.now c.args.aggregates.now c.args.numbers.now c.args.counts.now c.args.head c.args.turn) c.args.froms.now c.args.tos.now c.requires.priceable_any in
    let short = few (run_of c.args.starts.now c.args.lengths.now c.args.aggregates.now c.args.numbers.now c.args.counts.now c.args.head c.args.turn) c.args.froms.now c.args.tos.now c.requires.priceable_any in
    omega (arith, short)

pub leave_out-requires-2-clause-i_in_bounds : goal.leave_out-requires-2-clause-i_in_bounds
leave_out-requires-2-clause-i_in_bounds c =
    let same = even (run_of c.args.starts.now c.args.lengths.now c.args.aggregates.now c.args.numbers.now c.args.counts.now c.args.head c.args.turn) c.args.froms.now c.args.tos.now c.requires.priceable_any in
    let short = few (run_of c.args.starts.now c.args.lengths.now c.args.aggregates.now c.args.numbers.now c.args.counts.now c.args.head c.args.turn) c.args.froms.now c.args.tos.now c.requires.priceable_any in
    omega (arith, same, c.requires.i_in_bounds)

pub leave_out-requires-2-clause-row_in_bounds : goal.leave_out-requires-2-clause-row_in_bounds
leave_out-requires-2-clause-row_in_bounds c =
    let same = even (run_of c.args.starts.now c.args.lengths.now c.args.aggregates.now c.args.numbers.now c.args.counts.now c.args.head c.args.turn) c.args.froms.now c.args.tos.now c.requires.priceable_any in
    let short = few (run_of c.args.starts.now c.args.lengths.now c.args.aggregates.now c.args.numbers.now c.args.counts.now c.args.head c.args.turn) c.args.froms.now c.args.tos.now c.requires.priceable_any in
    omega (arith, same, short)

pub slice_bounds-lefts-end : goal.slice_bounds-lefts-end
slice_bounds-lefts-end c = front_long c.args.froms.now _ _ c.args.i _ c.requires.i_in_bounds (omega (arith, c.requires.i_in_bounds)) c.leave_out.ensures

pub slice_bounds-price_any-end : goal.slice_bounds-price_any-end
slice_bounds-price_any-end c = sym (length-take-le _ _ (front_long c.args.froms.now _ _ c.args.i _ c.requires.i_in_bounds (omega (arith, c.requires.i_in_bounds)) c.leave_out.ensures))

pub slice_bounds-rights-end : goal.slice_bounds-rights-end
slice_bounds-rights-end c =
    let same = even (run_of c.args.starts.now c.args.lengths.now c.args.aggregates.now c.args.numbers.now c.args.counts.now c.args.head c.args.turn) c.args.froms.now c.args.tos.now c.requires.priceable_any in
    let short = few (run_of c.args.starts.now c.args.lengths.now c.args.aggregates.now c.args.numbers.now c.args.counts.now c.args.head c.args.turn) c.args.froms.now c.args.tos.now c.requires.priceable_any in
    front_long c.args.tos.now _ _ c.args.i _ (omega (arith, same, c.requires.i_in_bounds)) (omega (arith, same, c.requires.i_in_bounds)) c.leave_out-2.ensures

pub slice_bounds-price_any-end-2 : goal.slice_bounds-price_any-end-2
slice_bounds-price_any-end-2 c =
    let same = even (run_of c.args.starts.now c.args.lengths.now c.args.aggregates.now c.args.numbers.now c.args.counts.now c.args.head c.args.turn) c.args.froms.now c.args.tos.now c.requires.priceable_any in
    let short = few (run_of c.args.starts.now c.args.lengths.now c.args.aggregates.now c.args.numbers.now c.args.counts.now c.args.head c.args.turn) c.args.froms.now c.args.tos.now c.requires.priceable_any in
    sym (length-take-le _ _ (front_long c.args.tos.now _ _ c.args.i _ (omega (arith, same, c.requires.i_in_bounds)) (omega (arith, same, c.requires.i_in_bounds)) c.leave_out-2.ensures))

pub returns : goal.returns
returns c =
    let same = even (run_of c.args.starts.now c.args.lengths.now c.args.aggregates.now c.args.numbers.now c.args.counts.now c.args.head c.args.turn) c.args.froms.now c.args.tos.now c.requires.priceable_any in
    let short = few (run_of c.args.starts.now c.args.lengths.now c.args.aggregates.now c.args.numbers.now c.args.counts.now c.args.head c.args.turn) c.args.froms.now c.args.tos.now c.requires.priceable_any in
    sum_is (run_of c.args.starts.now c.args.lengths.now c.args.aggregates.now c.args.numbers.now c.args.counts.now c.args.head c.args.turn) c.args.froms.now c.args.tos.now c.requires.priceable_any c.args.i c.requires.i_in_bounds _ _
    (front_is c.args.froms.now _ _ c.args.i _ c.requires.i_in_bounds (omega (arith, c.requires.i_in_bounds)) c.leave_out.ensures)
    (front_is c.args.tos.now _ _ c.args.i _ (omega (arith, same, c.requires.i_in_bounds)) (omega (arith, same, c.requires.i_in_bounds)) c.leave_out-2.ensures) _
    (record { times = omega arith; legs = omega arith }) _ c.price_any-answer.ensures.value
