-- Accepted, the table, the last numbers and the number given are written.
use mathlib.Core.Path.{◌∙◌}
use Rattle.boundary_desk.proofs.Filling.{one_set}
use Rattle.boundary_desk.proofs.Calling.{told_says, filing_near}
use Rattle.boundary_desk.proofs.Answers.{file_fits, file_refused, file_done}
use Rattle.boundary_desk.proofs.violstream_file.Goals as goal

pub code_of-code-requires : goal.code_of-code-requires
code_of-code-requires c = filing_near _ _ _ _ c.file_in-done.ensures

pub returns-then-is_err : goal.returns-then-is_err
returns-then-is_err c =
    let a = c.args in
    file_refused a.tickets.now a.lasts.now a.given.now a.office a.file a.count a.files _ _ _ _ _ c.table_at-row.ensures
    c.lasts_in-numbers.ensures c.places_if-fit.ensures c.places_if-len.ensures c.file_in-done.ensures _ (c.is_err.ensures.value ∙ told_says _ _ c.told.ensures)
    c.if-is_err.true _ c.code_of-code.ensures

pub put_table-requires : goal.put_table-requires
put_table-requires c =
    let a = c.args in
    (file_fits a.tickets.now a.lasts.now a.given.now a.office a.file a.count a.files _ _ _ _ _ c.table_at-row.ensures
    c.lasts_in-numbers.ensures c.places_if-fit.ensures c.places_if-len.ensures c.file_in-done.ensures _ (c.is_err.ensures.value ∙ told_says _ _ c.told.ensures)
    c.if-is_err.false).records

pub put_lasts-requires : goal.put_lasts-requires
put_lasts-requires c =
    let a = c.args in
    (file_fits a.tickets.now a.lasts.now a.given.now a.office a.file a.count a.files _ _ _ _ _ c.table_at-row.ensures
    c.lasts_in-numbers.ensures c.places_if-fit.ensures c.places_if-len.ensures c.file_in-done.ensures _ (c.is_err.ensures.value ∙ told_says _ _ c.told.ensures)
    c.if-is_err.false).numbers

pub bounds-given-0 : goal.bounds-given-0
bounds-given-0 c =
    let a = c.args in
    (file_fits a.tickets.now a.lasts.now a.given.now a.office a.file a.count a.files _ _ _ _ _ c.table_at-row.ensures
    c.lasts_in-numbers.ensures c.places_if-fit.ensures c.places_if-len.ensures c.file_in-done.ensures _ (c.is_err.ensures.value ∙ told_says _ _ c.told.ensures)
    c.if-is_err.false).one

pub returns : goal.returns
returns c =
    let a = c.args in
    let fit = file_fits a.tickets.now a.lasts.now a.given.now a.office a.file a.count a.files _ _ _ _ _ c.table_at-row.ensures
    c.lasts_in-numbers.ensures c.places_if-fit.ensures c.places_if-len.ensures c.file_in-done.ensures _ (c.is_err.ensures.value ∙ told_says _ _ c.told.ensures)
    c.if-is_err.false in
    file_done a.tickets.now a.lasts.now a.given.now a.office a.file a.count a.files _ _ _ _ _ c.table_at-row.ensures
    c.lasts_in-numbers.ensures c.places_if-fit.ensures c.places_if-len.ensures c.file_in-done.ensures _ (c.is_err.ensures.value ∙ told_says _ _ c.told.ensures)
    c.if-is_err.false _ c.code_of-code.ensures _ c.put_table.ensures _ c.put_lasts.ensures _ (one_set _ a.given.now fit.one)
