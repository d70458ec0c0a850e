use Rattle.std.proofs.Common.{refl, arith}
use Rattle.engine_table.proofs.Facts.{few_reads_lem, counted}
use Rattle.engine_table.proofs.ColumnLoop.{table_starts, left_within, column_task_lem, table_turn, table_beyond}
use Rattle.engine_table.proofs.filling.fill.Goals as goal

pub bounds-counts-0 : goal.bounds-counts-0
bounds-counts-0 c = counted _ _ _ _ _ _ c.requires.judged _ c.requires.numbers_nonzero

pub loop-b-init : goal.loop-b-init
loop-b-init c = table_starts _ _ _ _ _ _ _ _ _ c.requires.judged c.requires.numbers_nonzero c.requires.reads_in_bounds c.clear.ensures refl

pub bounds-counts-b : goal.bounds-counts-b
bounds-counts-b c = counted _ _ _ _ _ _ c.requires.judged _ (omega arith)

pub overflow_add-n-in-loop-b : goal.overflow_add-n-in-loop-b
overflow_add-n-in-loop-b c = omega (arith, left_within _ _ _ _ _ _ _ _ _ _ c.loop-b.invariant (omega arith), few_reads_lem _ _ _ _ _ _ c.requires.judged)

pub overflow_sub-n : goal.overflow_sub-n
overflow_sub-n c = left_within _ _ _ _ _ _ _ _ _ _ c.loop-b.invariant (omega arith)

pub fill_column-requires-clause-column_task : goal.fill_column-requires-clause-column_task
fill_column-requires-clause-column_task c = column_task_lem _ _ _ _ _ _ _ _ _ _ c.loop-b.invariant _ (omega arith) refl

pub bounds-counts-b-in-loop-b : goal.bounds-counts-b-in-loop-b
bounds-counts-b-in-loop-b c = counted _ _ _ _ _ _ c.requires.judged _ (omega arith)

pub overflow_add-left-in-loop-b : goal.overflow_add-left-in-loop-b
overflow_add-left-in-loop-b c = omega (arith, left_within _ _ _ _ _ _ _ _ _ _ c.loop-b.invariant (omega arith), few_reads_lem _ _ _ _ _ _ c.requires.judged)

pub loop-b-preserved : goal.loop-b-preserved
loop-b-preserved c = table_turn _ _ _ _ _ _ _ _ _ _ c.loop-b.invariant _ (omega arith) c.fill_column.ensures

pub returns-clause-beyond : goal.returns-clause-beyond
returns-clause-beyond c = table_beyond _ _ _ _ _ _ _ _ _ _ _ c.requires.numbers_nonzero c.clear.ensures c.loop-b.invariant
