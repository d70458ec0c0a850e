-- Accepted, the table is written.
use mathlib.Core.Path.{◌∙◌}
use Rattle.boundary_desk.proofs.Calling.{told_says, withdrawal_near}
use Rattle.boundary_desk.proofs.Answers.{withdraw_fits, withdraw_refused, withdraw_done}
use Rattle.boundary_desk.proofs.violstream_withdraw.Goals as goal

pub code_of-code-requires : goal.code_of-code-requires
code_of-code-requires c = withdrawal_near _ _ _ _ c.withdraw_in-done.ensures

pub returns-then-is_err : goal.returns-then-is_err
returns-then-is_err c =
    let a = c.args in
    withdraw_refused a.tickets.now a.lasts.now a.office a.number _ _ _ _ c.table_at-row.ensures c.lasts_in-numbers.ensures c.places_if-len.ensures
    c.withdraw_in-done.ensures _ (c.is_err.ensures.value ∙ told_says _ _ c.told.ensures)
    c.if-is_err.true _ c.code_of-code.ensures

pub put_table-requires : goal.put_table-requires
put_table-requires c =
    let a = c.args in
    withdraw_fits a.tickets.now a.lasts.now a.office a.number _ _ _ _ c.table_at-row.ensures c.lasts_in-numbers.ensures c.places_if-len.ensures
    c.withdraw_in-done.ensures _ (c.is_err.ensures.value ∙ told_says _ _ c.told.ensures)
    c.if-is_err.false

pub returns : goal.returns
returns c =
    let a = c.args in
    withdraw_done a.tickets.now a.lasts.now a.office a.number _ _ _ _ c.table_at-row.ensures c.lasts_in-numbers.ensures c.places_if-len.ensures
    c.withdraw_in-done.ensures _ (c.is_err.ensures.value ∙ told_says _ _ c.told.ensures)
    c.if-is_err.false _ c.code_of-code.ensures _ c.put_table.ensures
