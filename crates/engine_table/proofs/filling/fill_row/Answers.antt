use Rattle.std.proofs.Common.{◌≡◌, ◌+◌, ◌-◌, arith}
use Rattle.engine_table.proofs.Facts.{early_fits, row_fits, counted, inner_row_fits, inner_fits}
use Rattle.engine_table.proofs.RowLoop.{skip_fits, row_starts, count_left, row_turn, row_filled}
use Rattle.engine_table.proofs.filling.fill_row.Goals as goal

pub row-requires : goal.row-requires
row-requires c = inner_row_fits _ _ _ _ _ _ c.requires.row_task.judged _ _ (omega arith) c.requires.row_task.inside

pub bounds-counts-b : goal.bounds-counts-b
bounds-counts-b c = counted _ _ _ _ _ _ c.requires.row_task.judged _ c.requires.row_task.inside

pub overflow_add-from-2 : goal.overflow_add-from-2
overflow_add-from-2 c = inner_fits _ _ _ _ _ _ c.requires.row_task.judged _ _ _ (omega arith) c.requires.row_task.inside c.row.ensures

pub row-requires-2 : goal.row-requires-2
row-requires-2 c = row_fits _ _ _ _ _ _ c.requires.row_task.judged _ _ (omega arith) c.requires.row_task.inside

pub early_of-requires : goal.early_of-requires
early_of-requires c = early_fits _ _ _ _ _ _ c.requires.row_task.judged _ _ (omega arith) c.requires.row_task.inside

pub skip_row-requires : goal.skip_row-requires
skip_row-requires c = skip_fits _ _ _ _ _ _ _ _ _ _ c.requires.row_task _ c.early_of.ensures _ _ c.row-2.ensures c.row.ensures

pub loop-c-init : goal.loop-c-init
loop-c-init c =
    let e : c.args.b + 2 - 1 ≡ c.args.b + 1 = omega arith in
    rw e (row_starts _ _ _ _ _ _ _ _ _ _ c.requires.row_task _ c.early_of.ensures _ _ c.row-2.ensures c.row.ensures _ c.requires.left_value _ c.skip_row.ensures)

pub bounds-counts-c : goal.bounds-counts-c
bounds-counts-c c = counted _ _ _ _ _ _ c.requires.row_task.judged _ (omega arith)

pub overflow_sub-w-in-loop-c : goal.overflow_sub-w-in-loop-c
overflow_sub-w-in-loop-c c = count_left _ _ _ _ _ _ _ _ _ _ _ _ _ c.loop-c.invariant (omega arith)

pub loop-c-preserved : goal.loop-c-preserved
loop-c-preserved c = row_turn _ _ _ _ _ _ _ _ _ _ _ _ _ c.loop-c.invariant _ (omega arith) c.detour_row.ensures

pub returns : goal.returns
returns c = row_filled _ _ _ _ _ _ _ _ _ _ _ _ _ _ _ _ c.row-2.ensures c.skip_row.ensures c.loop-c.invariant (omega arith)
