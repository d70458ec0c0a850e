-- The far test and the near test show what their laws say, and no product wraps.
use native.Mathlib.Omega.{arith}
use Rattle.engine_table.proofs.Words.{first_inside, second_inside}
use Rattle.engine_table.proofs.Laying.{none_stay, word_fits, first_within, end_within, last_within_lem, last_there, step_up, tangent_fits, rise_fits, line_fits, trips_fit, all_stay, block_stays}
use Rattle.engine_table.proofs.blocks.unlowered.Goals as goal

pub returns-then-n-lt2 : goal.returns-then-n-lt2
returns-then-n-lt2 c = none_stay _ _ _ _ _ _ _

pub bounds-room-cell : goal.bounds-room-cell
bounds-room-cell c = first_inside _ _ _ c.requires.lower_fits.cell_in c.if-n-lt2.false

pub choice_word-new-requires : goal.choice_word-new-requires
choice_word-new-requires c = word_fits _ _ _ _ _ _ _ c.requires.lower_fits 0 (first_within _ c.if-n-lt2.false)

pub returns-then-new-old : goal.returns-then-new-old
returns-then-new-old c = none_stay _ _ _ _ _ _ _

pub bounds-room-cell-2 : goal.bounds-room-cell-2
bounds-room-cell-2 c = second_inside _ _ _ c.requires.lower_fits.cell_in c.if-n-lt2.false

pub overflow_sub-step : goal.overflow_sub-step
overflow_sub-step c = step_up _ _ _ _ _ _ _ c.requires.lower_fits c.requires.edges c.if-n-lt2.false

pub overflow_sub-far : goal.overflow_sub-far
overflow_sub-far c = first_within _ c.if-n-lt2.false

pub overflow_mul-step : goal.overflow_mul-step
overflow_mul-step c = omega (arith, rise_fits _ _ _ _ _ _ _ c.requires.lower_fits c.requires.edges c.if-n-lt2.false _ (end_within _ c.if-n-lt2.false))

pub overflow_add-old : goal.overflow_add-old
overflow_add-old c = omega (arith, tangent_fits _ _ _ _ _ _ _ c.requires.lower_fits c.requires.edges c.if-n-lt2.false _ (end_within _ c.if-n-lt2.false))

pub overflow_mul-slope : goal.overflow_mul-slope
overflow_mul-slope c = record { fits = trips_fit _ _ _ _ _ _ _ c.requires.lower_fits c.requires.edges c.if-n-lt2.false _ c.choice_word-new.ensures }

pub overflow_add-new : goal.overflow_add-new
overflow_add-new c = record { fits = line_fits _ _ _ _ _ _ _ c.requires.lower_fits c.requires.edges c.if-n-lt2.false _ c.choice_word-new.ensures }

pub returns-then-old-step : goal.returns-then-old-step
returns-then-old-step c = all_stay _ _ _ _ _ _ _ c.requires.lower_fits c.requires.edges c.if-n-lt2.false _ c.choice_word-new.ensures c.if-new-old.false c.if-old-step.true

pub overflow_sub-near : goal.overflow_sub-near
overflow_sub-near c = last_there _ _ c.if-n-lt2.false c.block_of-near.ensures

pub overflow_mul-step-2 : goal.overflow_mul-step-2
overflow_mul-step-2 c = record { fits = rise_fits _ _ _ _ _ _ _ c.requires.lower_fits c.requires.edges c.if-n-lt2.false _ (last_within_lem _ _ c.if-n-lt2.false c.block_of-near.ensures) }

pub overflow_add-old-2 : goal.overflow_add-old-2
overflow_add-old-2 c = record { fits = tangent_fits _ _ _ _ _ _ _ c.requires.lower_fits c.requires.edges c.if-n-lt2.false _ (last_within_lem _ _ c.if-n-lt2.false c.block_of-near.ensures) }

pub choice_word-requires : goal.choice_word-requires
choice_word-requires c = word_fits _ _ _ _ _ _ _ c.requires.lower_fits _ (last_within_lem _ _ c.if-n-lt2.false c.block_of-near.ensures)

pub returns-then-old-step-2 : goal.returns-then-old-step-2
returns-then-old-step-2 c = block_stays _ _ _ _ _ _ _ c.requires.lower_fits c.requires.edges c.if-n-lt2.false _ c.choice_word-new.ensures _ _ (last_within_lem _ _ c.if-n-lt2.false c.block_of-near.ensures) c.choice_word.ensures c.if-new-old.false c.if-old-step-2.true

pub returns : goal.returns
returns c = none_stay _ _ _ _ _ _ _
