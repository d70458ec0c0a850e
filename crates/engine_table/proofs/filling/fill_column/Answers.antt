use Rattle.std.proofs.Common.{le_refl, arith}
use Rattle.engine_table.proofs.Facts.{inner_row_fits}
use Rattle.engine_table.proofs.ColumnLoop.{column_starts, column_turn, column_done, clear_fits}
use Rattle.engine_table.proofs.filling.fill_column.Goals as goal

pub row-requires : goal.row-requires
row-requires c = inner_row_fits _ _ _ _ _ _ c.requires.column_task.judged _ _ (le_refl _) c.requires.column_task.inside

pub clear-requires : goal.clear-requires
clear-requires c = clear_fits _ _ _ _ _ _ _ _ _ _ c.requires.column_task c.row.ensures

pub loop-a-init : goal.loop-a-init
loop-a-init c = column_starts _ _ _ _ _ _ _ _ _ _ _ c.requires.column_task c.row.ensures c.clear.ensures

pub loop-a-preserved : goal.loop-a-preserved
loop-a-preserved c = column_turn _ _ _ _ _ _ _ _ _ _ _ c.loop-a.invariant _ (omega arith) c.fill_row.ensures

pub returns : goal.returns
returns c = column_done _ _ _ _ _ _ _ _ _ _ _ _ _ c.requires.column_task c.row.ensures c.clear.ensures c.loop-a.invariant (omega arith)
