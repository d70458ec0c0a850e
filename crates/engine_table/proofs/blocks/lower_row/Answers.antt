-- Each turn lays the choice over some words more.
use Rattle.std.proofs.Common.{arith}
use Rattle.engine_table.proofs.Words.{written_none, written_all}
use Rattle.engine_table.proofs.Laying.{wait_here, left_fits, left_edges, loop_laid}
use Rattle.engine_table.proofs.blocks.lower_row.Goals as goal

pub loop-i-init : goal.loop-i-init
loop-i-init c = (omega arith, written_none _ _ _)

pub overflow_mul-wait : goal.overflow_mul-wait
overflow_mul-wait c = omega (arith, wait_here _ _ _ _ _ _ _ c.requires.lower_fits c.requires.edges _ _ c.loop-i-test.true c.loop-i.invariant.1)

pub overflow_add-wait : goal.overflow_add-wait
overflow_add-wait c = omega (arith, wait_here _ _ _ _ _ _ _ c.requires.lower_fits c.requires.edges _ _ c.loop-i-test.true c.loop-i.invariant.1)

pub lower_next-i-requires : goal.lower_next-i-requires
lower_next-i-requires c =
    record {
      lower_fits = left_fits _ _ _ _ _ _ _ c.requires.lower_fits c.requires.edges _ _ c.loop-i-test.true c.loop-i.invariant.1;
      edges = left_edges _ _ _ _ _ _ _ c.requires.lower_fits c.requires.edges _ _ c.loop-i-test.true c.loop-i.invariant.1;
      n_nonzero = omega (arith, c.loop-i-test.true);
    }

pub loop-i-preserved : goal.loop-i-preserved
loop-i-preserved c =
    (omega (arith, c.lower_next-i.ensures.within, c.loop-i-test.true), loop_laid _ _ _ _ _ _ _ c.requires.lower_fits c.requires.edges _ _ c.loop-i-test.true c.loop-i.invariant.1 _ _ c.lower_next-i.ensures)

pub returns : goal.returns
returns c = written_all _ _ _ _ _ _ c.loop-i.invariant.1 (omega (arith, c.loop-i.invariant.0, c.loop-i-test.false))
