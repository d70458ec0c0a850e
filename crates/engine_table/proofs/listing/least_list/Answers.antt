-- With no wants the least list is empty; else it is the one that is read off the table of the stops as the head meets them.
use Prim.Native.Nat.{ℕ, ◌<◌}
use mathlib.Core.Path.{◌≡◌, sym, ap, ◌∙◌}
use native.Mathlib.Omega.{arith}
use lib.Seq.{length-take-le}
use Rattle.least.specs.Recurrence.{least_list}
use Rattle.engine_table.proofs.Cells.{beyond_none}
use Rattle.engine_table.proofs.MetRows.{table_even, table_ends, judged_met, stops_met}
use Rattle.engine_table.proofs.Outcome.{list_none_written, list_same_written, least_of_none, least_of_some}
use Rattle.engine_table.proofs.listing.least_list.Goals as goal

some-wanted : (n : ℕ) → (n ≡ 0 → ⊥) → 0 < n
some-wanted n h = omega arith

pub returns-then-numbers-eq0 : goal.returns-then-numbers-eq0
returns-then-numbers-eq0 c = record { list_written = list_none_written _ _ _ (least_of_none _ _ _ _ _ _ _ c.requires.any_run c.if-numbers-eq0.true); beyond = beyond_none _ _ }

pub pulled_starts-lefts-requires : goal.pulled_starts-lefts-requires
pulled_starts-lefts-requires c = c.requires.any_run.few

pub pulled_lengths-spans-requires : goal.pulled_lengths-spans-requires
pulled_lengths-spans-requires c = record { starts_len_bound = c.requires.any_run.few; starts_len = table_even _ _ _ _ _ _ _ c.requires.any_run; by_index = table_ends _ _ _ _ _ _ _ c.requires.any_run }

pub slice_bounds-lefts-end : goal.slice_bounds-lefts-end
slice_bounds-lefts-end c = c.pulled_starts-lefts.ensures.long

pub slice_bounds-fill-end : goal.slice_bounds-fill-end
slice_bounds-fill-end c = sym (length-take-le _ _ c.pulled_starts-lefts.ensures.long)

pub slice_bounds-spans-end : goal.slice_bounds-spans-end
slice_bounds-spans-end c = c.pulled_lengths-spans.ensures.long

pub slice_bounds-fill-end-2 : goal.slice_bounds-fill-end-2
slice_bounds-fill-end-2 c = sym (length-take-le _ _ c.pulled_lengths-spans.ensures.long)

pub fill-requires : goal.fill-requires
fill-requires c = record { judged = judged_met _ _ _ _ _ _ _ c.requires.any_run _ _ c.pulled_starts-lefts.ensures c.pulled_lengths-spans.ensures; numbers_nonzero = some-wanted _ c.if-numbers-eq0.false; reads_in_bounds = c.requires.reads_in_bounds }

pub slice_bounds-lefts-end-2 : goal.slice_bounds-lefts-end-2
slice_bounds-lefts-end-2 c = c.pulled_starts-lefts.ensures.long

pub slice_bounds-read_off-end : goal.slice_bounds-read_off-end
slice_bounds-read_off-end c = sym (length-take-le _ _ c.pulled_starts-lefts.ensures.long)

pub slice_bounds-spans-end-2 : goal.slice_bounds-spans-end-2
slice_bounds-spans-end-2 c = c.pulled_lengths-spans.ensures.long

pub slice_bounds-read_off-end-2 : goal.slice_bounds-read_off-end-2
slice_bounds-read_off-end-2 c = sym (length-take-le _ _ c.pulled_lengths-spans.ensures.long)

pub read_off-requires : goal.read_off-requires
read_off-requires c = record { filled = c.fill.ensures.filled; numbers_nonzero = some-wanted _ c.if-numbers-eq0.false; numbers_in_bounds = c.requires.numbers_in_bounds; numbers_in_bounds_2 = c.requires.numbers_in_bounds_2 }

pub returns : goal.returns
returns c =
    let lefts = c.pulled_starts-lefts.ensures in
    let spans = c.pulled_lengths-spans.ensures in
    let list = least_of_some _ _ _ _ _ _ (judged_met _ _ _ _ _ _ _ c.requires.any_run _ _ lefts spans) c.if-numbers-eq0.false in
    let met = ap (least_list c.args.turn) (stops_met _ _ _ _ _ _ _ c.requires.any_run _ _ lefts spans) in
    record { list_written = list_same_written _ _ _ _ _ _ _ (list ∙ met) c.read_off.ensures; beyond = c.fill.ensures.beyond }
