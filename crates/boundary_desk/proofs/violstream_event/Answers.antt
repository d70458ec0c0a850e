-- Accepted, the table, the last numbers and the text's length are written.
use mathlib.Core.Path.{◌∙◌}
use Rattle.boundary_desk.proofs.Filling.{one_set}
use Rattle.boundary_desk.proofs.Calling.{told_says}
use Rattle.boundary_desk.proofs.Answers.{event_placed, event_fits, event_refused, event_done}
use Rattle.boundary_desk.proofs.violstream_event.Goals as goal

pub code_of-code-requires : goal.code_of-code-requires
code_of-code-requires c =
    let a = c.args in
    event_placed a.tickets.now a.lasts.now a.sizes.now (record { starts = a.starts.now; lengths = a.lengths.now; aggregates = a.aggregates.now }) a.line.now a.out.now a.room.now _ _ _ _ _ _ _ _
    c.table_at-row.ensures c.lasts_in-numbers.ensures c.places_if-fit.ensures c.places_if-len.ensures c.one_line-bytes.ensures.line_value c.answer-done.ensures

pub returns-then-is_err : goal.returns-then-is_err
returns-then-is_err c =
    let a = c.args in
    event_refused a.tickets.now a.lasts.now a.sizes.now (record { starts = a.starts.now; lengths = a.lengths.now; aggregates = a.aggregates.now }) a.line.now a.out.now a.room.now _ _ _ _ _ _ _ _
    c.table_at-row.ensures c.lasts_in-numbers.ensures c.places_if-fit.ensures c.places_if-len.ensures c.one_line-bytes.ensures.line_value c.answer-done.ensures _ (c.is_err.ensures.value ∙ told_says _ _ c.told.ensures)
    c.if-is_err.true _ c.code_of-code.ensures

pub put_table-requires : goal.put_table-requires
put_table-requires c =
    let a = c.args in
    (event_fits a.tickets.now a.lasts.now a.sizes.now (record { starts = a.starts.now; lengths = a.lengths.now; aggregates = a.aggregates.now }) a.line.now a.out.now a.room.now _ _ _ _ _ _ _ _
    c.table_at-row.ensures c.lasts_in-numbers.ensures c.places_if-fit.ensures c.places_if-len.ensures c.one_line-bytes.ensures.line_value c.answer-done.ensures _ (c.is_err.ensures.value ∙ told_says _ _ c.told.ensures)
    c.if-is_err.false).records

pub put_lasts-requires : goal.put_lasts-requires
put_lasts-requires c =
    let a = c.args in
    (event_fits a.tickets.now a.lasts.now a.sizes.now (record { starts = a.starts.now; lengths = a.lengths.now; aggregates = a.aggregates.now }) a.line.now a.out.now a.room.now _ _ _ _ _ _ _ _
    c.table_at-row.ensures c.lasts_in-numbers.ensures c.places_if-fit.ensures c.places_if-len.ensures c.one_line-bytes.ensures.line_value c.answer-done.ensures _ (c.is_err.ensures.value ∙ told_says _ _ c.told.ensures)
    c.if-is_err.false).numbers

pub bounds-sizes-0 : goal.bounds-sizes-0
bounds-sizes-0 c =
    let a = c.args in
    (event_fits a.tickets.now a.lasts.now a.sizes.now (record { starts = a.starts.now; lengths = a.lengths.now; aggregates = a.aggregates.now }) a.line.now a.out.now a.room.now _ _ _ _ _ _ _ _
    c.table_at-row.ensures c.lasts_in-numbers.ensures c.places_if-fit.ensures c.places_if-len.ensures c.one_line-bytes.ensures.line_value c.answer-done.ensures _ (c.is_err.ensures.value ∙ told_says _ _ c.told.ensures)
    c.if-is_err.false).one

pub returns : goal.returns
returns c =
    let a = c.args in
    let fit = event_fits a.tickets.now a.lasts.now a.sizes.now (record { starts = a.starts.now; lengths = a.lengths.now; aggregates = a.aggregates.now }) a.line.now a.out.now a.room.now _ _ _ _ _ _ _ _
    c.table_at-row.ensures c.lasts_in-numbers.ensures c.places_if-fit.ensures c.places_if-len.ensures c.one_line-bytes.ensures.line_value c.answer-done.ensures _ (c.is_err.ensures.value ∙ told_says _ _ c.told.ensures)
    c.if-is_err.false in
    event_done a.tickets.now a.lasts.now a.sizes.now (record { starts = a.starts.now; lengths = a.lengths.now; aggregates = a.aggregates.now }) a.line.now a.out.now a.room.now _ _ _ _ _ _ _ _
    c.table_at-row.ensures c.lasts_in-numbers.ensures c.places_if-fit.ensures c.places_if-len.ensures c.one_line-bytes.ensures.line_value c.answer-done.ensures _ (c.is_err.ensures.value ∙ told_says _ _ c.told.ensures)
    c.if-is_err.false _ c.code_of-code.ensures _ c.put_table.ensures _ c.put_lasts.ensures _ (one_set _ a.sizes.now fit.one)
