-- Both words are right, and the whole sum fits.
use Rattle.engine_table.proofs.Sizes.{left_of_lem, back_from}
use Rattle.engine_table.proofs.Facts.{trip_fits, early_fits, row_fits, counted, inner_row_fits, inner_fits, inner_skip_fits, inner_skip_bytes, word_fits, word_bytes}
use Rattle.engine_table.proofs.Steps.{delay_fits, base_fits}
use Rattle.engine_table.proofs.Asking.{asked_task, detour_sum, detour_sum_fits, detour_part_fits, detour_line_fits, detour_skip_fits, inner_inside, rest_inside}
use Rattle.engine_table.proofs.reading.detour_cost.Goals as goal

pub trip_of-slope-requires : goal.trip_of-slope-requires
trip_of-slope-requires c = trip_fits _ _ _ _ _ _ c.requires.asked.filled.judged _ _ c.requires.detour_from.up_to c.requires.asked.inside

pub overflow_mul-base : goal.overflow_mul-base
overflow_mul-base c = delay_fits _ _ _ _ _ _ _ _ _ _ (asked_task _ _ _ _ _ _ _ _ _ _ c.requires.asked) _ _ c.requires.detour_from _ c.trip_of-slope.ensures

pub early_of-requires : goal.early_of-requires
early_of-requires c = early_fits _ _ _ _ _ _ c.requires.asked.filled.judged _ _ c.requires.detour_from.up_to c.requires.asked.inside

pub overflow_add-base : goal.overflow_add-base
overflow_add-base c = base_fits _ _ _ _ _ _ _ _ _ _ (asked_task _ _ _ _ _ _ _ _ _ _ c.requires.asked) _ _ c.requires.detour_from _ c.trip_of-slope.ensures _ c.early_of.ensures

pub row-requires : goal.row-requires
row-requires c = inner_row_fits _ _ _ _ _ _ c.requires.asked.filled.judged _ _ c.requires.detour_from.up_to c.requires.asked.inside

pub bounds-counts-b : goal.bounds-counts-b
bounds-counts-b c = counted _ _ _ _ _ _ c.requires.asked.filled.judged _ c.requires.asked.inside

pub overflow_add-inner-2 : goal.overflow_add-inner-2
overflow_add-inner-2 c = inner_fits _ _ _ _ _ _ c.requires.asked.filled.judged _ _ _ c.requires.detour_from.up_to c.requires.asked.inside c.row.ensures

pub overflow_add-inner-3 : goal.overflow_add-inner-3
overflow_add-inner-3 c = inner_skip_fits _ _ _ _ _ _ c.requires.asked.filled.judged _ _ _ c.requires.detour_from.up_to c.requires.asked.inside c.row.ensures _ _ c.requires.asked.span

pub row-requires-2 : goal.row-requires-2
row-requires-2 c = row_fits _ _ _ _ _ _ c.requires.asked.filled.judged _ _ (left_of_lem _ _ _ c.requires.asked.window c.requires.asked.inside) (back_from _ _ _ c.requires.detour_from.up_to c.requires.asked.inside)

pub overflow_add-rest : goal.overflow_add-rest
overflow_add-rest c = word_fits _ _ _ _ _ _ c.requires.asked.filled.judged _ _ _ (left_of_lem _ _ _ c.requires.asked.window c.requires.asked.inside) (back_from _ _ _ c.requires.detour_from.up_to c.requires.asked.inside) c.row-2.ensures _ _ c.requires.asked.span

pub overflow_mul-result : goal.overflow_mul-result
overflow_mul-result c = record { fits = detour_skip_fits _ _ _ _ _ _ _ _ _ _ c.requires.asked _ _ c.requires.detour_from _ c.trip_of-slope.ensures _ c.early_of.ensures _ _ c.row.ensures c.row-2.ensures }

pub overflow_add-result : goal.overflow_add-result
overflow_add-result c = record { fits = detour_line_fits _ _ _ _ _ _ _ _ _ _ c.requires.asked _ _ c.requires.detour_from _ c.trip_of-slope.ensures _ c.early_of.ensures _ _ c.row.ensures c.row-2.ensures }

pub offset_bounds-room-inner : goal.offset_bounds-room-inner
offset_bounds-room-inner c = inner_skip_bytes _ _ _ _ _ _ c.requires.asked.filled.judged _ _ _ c.requires.detour_from.up_to c.requires.asked.inside c.row.ensures _ _ c.requires.asked.span

pub bounds-room-inner : goal.bounds-room-inner
bounds-room-inner c = inner_inside _ _ _ _ _ _ _ _ _ _ c.requires.asked _ _ c.requires.detour_from _ c.trip_of-slope.ensures _ c.early_of.ensures _ _ c.row.ensures c.row-2.ensures

pub overflow_add-result-2 : goal.overflow_add-result-2
overflow_add-result-2 c = record { fits = detour_part_fits _ _ _ _ _ _ _ _ _ _ c.requires.asked _ _ c.requires.detour_from _ c.trip_of-slope.ensures _ c.early_of.ensures _ _ c.row.ensures c.row-2.ensures }

pub offset_bounds-room-rest : goal.offset_bounds-room-rest
offset_bounds-room-rest c = word_bytes _ _ _ _ _ _ c.requires.asked.filled.judged _ _ _ (left_of_lem _ _ _ c.requires.asked.window c.requires.asked.inside) (back_from _ _ _ c.requires.detour_from.up_to c.requires.asked.inside) c.row-2.ensures _ _ c.requires.asked.span

pub bounds-room-rest : goal.bounds-room-rest
bounds-room-rest c = rest_inside _ _ _ _ _ _ _ _ _ _ c.requires.asked _ _ c.requires.detour_from _ c.trip_of-slope.ensures _ c.early_of.ensures _ _ c.row.ensures c.row-2.ensures

pub overflow_add-result-3 : goal.overflow_add-result-3
overflow_add-result-3 c = record { fits = detour_sum_fits _ _ _ _ _ _ _ _ _ _ c.requires.asked _ _ c.requires.detour_from _ c.trip_of-slope.ensures _ c.early_of.ensures _ _ c.row.ensures c.row-2.ensures }

pub returns : goal.returns
returns c = detour_sum _ _ _ _ _ _ _ _ _ _ c.requires.asked _ _ c.requires.detour_from _ c.trip_of-slope.ensures _ c.early_of.ensures _ _ c.row.ensures c.row-2.ensures
