-- A detour's price times the reads that wait fits.
use Rattle.std.proofs.Common.{sym, arith}
use lib.Seq.{length-take-le}
use Rattle.engine_plain.specs.Private.{reads_up_to}
use Rattle.engine_plain.proofs.Sizes.{left_counted, waiting_few, wait_small}
use Rattle.engine_plain.proofs.asking.wait_of.Goals as goal

pub slice_bounds-count_reads-end : goal.slice_bounds-count_reads-end
slice_bounds-count_reads-end c = sym (length-take-le _ _ (omega (arith, c.requires.asked.inside, c.requires.asked.laid.even_reads, c.requires.c_le_b)))

pub overflow_add-result : goal.overflow_add-result
overflow_add-result c = omega (arith, c.requires.asked.laid.near _ c.requires.asked.inside)

pub overflow_sub-result : goal.overflow_sub-result
overflow_sub-result c = omega (arith, c.requires.asked.laid.rising _ _ c.requires.c_le_b c.requires.asked.inside)

pub overflow_add-result-2 : goal.overflow_add-result-2
overflow_add-result-2 c = omega (arith, c.requires.asked.laid.near _ c.requires.asked.inside, c.requires.asked.laid.cheap)

pub overflow_mul-result : goal.overflow_mul-result
overflow_mul-result c = omega (arith, c.requires.asked.laid.near _ c.requires.asked.inside, c.requires.asked.laid.cheap)

pub overflow_add-result-3 : goal.overflow_add-result-3
overflow_add-result-3 c =
    let left = left_counted _ _ _ _ _ _ _ c.requires.asked c.requires.c_le_b _ c.count_reads-left.ensures in
    omega (arith, left, waiting_few _ _ _ _ _ _ _ c.requires.asked c.requires.c_le_b)

pub overflow_mul-result-2 : goal.overflow_mul-result-2
overflow_mul-result-2 c =
    let left = left_counted _ _ _ _ _ _ _ c.requires.asked c.requires.c_le_b _ c.count_reads-left.ensures in
    omega (arith, rw (← left) at (wait_small _ _ _ _ _ _ _ c.requires.asked c.requires.c_le_b))

pub returns : goal.returns
unfolding reads_up_to
returns c = rw (left_counted _ _ _ _ _ _ _ c.requires.asked c.requires.c_le_b _ c.count_reads-left.ensures)
