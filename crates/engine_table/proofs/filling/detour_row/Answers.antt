-- The words that a detour reads are right and stand apart from the row, so each word falls to what the detour comes to.
use Rattle.engine_table.proofs.Sizes.{left_of_lem, back_from}
use Rattle.engine_table.proofs.Facts.{trip_fits, early_fits, row_fits, counted, inner_row_fits, inner_fits}
use Rattle.engine_table.proofs.Steps.{delay_fits, base_fits, detour_fits, detour_edges, detour_written}
use Rattle.engine_table.proofs.filling.detour_row.Goals as goal

pub trip_of-slope-requires : goal.trip_of-slope-requires
trip_of-slope-requires c = trip_fits _ _ _ _ _ _ c.requires.row_task.judged _ _ c.requires.detour_from.up_to c.requires.row_task.inside

pub overflow_mul-base : goal.overflow_mul-base
overflow_mul-base c = delay_fits _ _ _ _ _ _ _ _ _ _ c.requires.row_task _ _ c.requires.detour_from _ c.trip_of-slope.ensures

pub early_of-requires : goal.early_of-requires
early_of-requires c = early_fits _ _ _ _ _ _ c.requires.row_task.judged _ _ c.requires.detour_from.up_to c.requires.row_task.inside

pub overflow_add-base : goal.overflow_add-base
overflow_add-base c = base_fits _ _ _ _ _ _ _ _ _ _ c.requires.row_task _ _ c.requires.detour_from _ c.trip_of-slope.ensures _ c.early_of.ensures

pub row-requires : goal.row-requires
row-requires c = inner_row_fits _ _ _ _ _ _ c.requires.row_task.judged _ _ c.requires.detour_from.up_to c.requires.row_task.inside

pub bounds-counts-b : goal.bounds-counts-b
bounds-counts-b c = counted _ _ _ _ _ _ c.requires.row_task.judged _ c.requires.row_task.inside

pub overflow_add-inner-2 : goal.overflow_add-inner-2
overflow_add-inner-2 c = inner_fits _ _ _ _ _ _ c.requires.row_task.judged _ _ _ c.requires.detour_from.up_to c.requires.row_task.inside c.row.ensures

pub row-requires-2 : goal.row-requires-2
row-requires-2 c = row_fits _ _ _ _ _ _ c.requires.row_task.judged _ _ (left_of_lem _ _ _ c.requires.row_task.window c.requires.row_task.inside) c.requires.row_task.inside

pub row-requires-3 : goal.row-requires-3
row-requires-3 c = row_fits _ _ _ _ _ _ c.requires.row_task.judged _ _ (left_of_lem _ _ _ c.requires.row_task.window c.requires.row_task.inside) (back_from _ _ _ c.requires.detour_from.up_to c.requires.row_task.inside)

pub lower_row-requires : goal.lower_row-requires
lower_row-requires c = record { lower_fits = detour_fits _ _ _ _ _ _ _ _ _ _ c.requires.row_task _ _ c.requires.detour_from _ c.trip_of-slope.ensures _ c.early_of.ensures _ _ _ c.row-2.ensures c.row.ensures c.row-3.ensures; edges = detour_edges _ _ _ _ _ _ _ _ _ _ c.requires.row_task _ _ c.requires.detour_from _ c.trip_of-slope.ensures _ c.early_of.ensures _ _ _ c.row-2.ensures c.row.ensures c.row-3.ensures c.requires.so_far }

pub returns : goal.returns
returns c =
    detour_written _ _ _ _ _ _ _ _ _ _ c.requires.row_task _ _ c.requires.detour_from _ c.trip_of-slope.ensures _ c.early_of.ensures _ _ _ c.row-2.ensures
    c.row.ensures c.row-3.ensures _ c.lower_row.ensures
