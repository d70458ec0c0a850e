-- The skip if its sum is the window's word, else the start that is looked for.
use Rattle.engine_table.proofs.Sizes.{up_to_next, left_of_lem}
use Rattle.engine_table.proofs.Facts.{early_fits, row_fits, counted, inner_row_fits, inner_fits, inner_skip_fits, inner_skip_bytes, word_fits}
use Rattle.engine_table.proofs.Asking.{least_at, least_inside, skip_sum_fits, skip_inside, skip_found, not_skipped}
use Rattle.engine_table.proofs.reading.choice_of.Goals as goal

pub row-requires : goal.row-requires
row-requires c = row_fits _ _ _ _ _ _ c.requires.filled.judged _ _ (left_of_lem _ _ _ c.requires.window c.requires.inside) c.requires.inside

pub overflow_add-least : goal.overflow_add-least
overflow_add-least c = word_fits _ _ _ _ _ _ c.requires.filled.judged _ _ _ (left_of_lem _ _ _ c.requires.window c.requires.inside) c.requires.inside c.row.ensures _ _ c.requires.span

pub bounds-room-row : goal.bounds-room-row
bounds-room-row c = least_inside _ _ _ _ _ _ _ _ _ _ c.requires _ c.row.ensures

pub row-requires-2 : goal.row-requires-2
row-requires-2 c = inner_row_fits _ _ _ _ _ _ c.requires.filled.judged _ _ (up_to_next _ _ c.requires.window) c.requires.inside

pub bounds-counts-b : goal.bounds-counts-b
bounds-counts-b c = counted _ _ _ _ _ _ c.requires.filled.judged _ c.requires.inside

pub overflow_add-from-2 : goal.overflow_add-from-2
overflow_add-from-2 c = inner_fits _ _ _ _ _ _ c.requires.filled.judged _ _ _ (up_to_next _ _ c.requires.window) c.requires.inside c.row-2.ensures

pub overflow_add-from-3 : goal.overflow_add-from-3
overflow_add-from-3 c = inner_skip_fits _ _ _ _ _ _ c.requires.filled.judged _ _ _ (up_to_next _ _ c.requires.window) c.requires.inside c.row-2.ensures _ _ c.requires.span

pub early_of-requires : goal.early_of-requires
early_of-requires c = early_fits _ _ _ _ _ _ c.requires.filled.judged _ _ (up_to_next _ _ c.requires.window) c.requires.inside

pub offset_bounds-room-from : goal.offset_bounds-room-from
offset_bounds-room-from c = inner_skip_bytes _ _ _ _ _ _ c.requires.filled.judged _ _ _ (up_to_next _ _ c.requires.window) c.requires.inside c.row-2.ensures _ _ c.requires.span

pub bounds-room-from : goal.bounds-room-from
bounds-room-from c = skip_inside _ _ _ _ _ _ _ _ _ _ c.requires _ c.early_of.ensures _ c.row-2.ensures

pub overflow_add-early_of : goal.overflow_add-early_of
overflow_add-early_of c = record { fits = skip_sum_fits _ _ _ _ _ _ _ _ _ _ c.requires _ c.early_of.ensures _ c.row-2.ensures }

pub returns-then-early_of-room : goal.returns-then-early_of-room
returns-then-early_of-room c = skip_found _ _ _ _ _ _ _ _ _ _ c.requires _ c.early_of.ensures _ c.row-2.ensures _ c.row.ensures c.if-early_of-room.true

pub detour_start-requires : goal.detour_start-requires
detour_start-requires c = record { asked = c.requires; least_value = least_at _ _ _ _ _ _ _ _ _ _ c.requires _ c.row.ensures; s_nonzero = not_skipped _ _ _ _ _ _ _ _ _ _ c.requires _ c.early_of.ensures _ c.row-2.ensures _ c.row.ensures c.if-early_of-room.false }

pub returns : goal.returns
returns c = c.detour_start.ensures
