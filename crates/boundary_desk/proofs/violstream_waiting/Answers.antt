-- The text of the table in the row, and its length.
use mathlib.Core.Path.{◌∙◌}
use Rattle.boundary_desk.proofs.Filling.{one_set}
use Rattle.boundary_desk.proofs.Calling.{told_says}
use Rattle.boundary_desk.proofs.Waiting.{waiting_near, waiting_fits, waiting_refused, waiting_told}
use Rattle.boundary_desk.proofs.violstream_waiting.Goals as goal

pub code_of-code-requires : goal.code_of-code-requires
code_of-code-requires c = waiting_near _ _ _ _ _ c.tell_waiting-told.ensures

pub returns-then-is_err : goal.returns-then-is_err
returns-then-is_err c =
    let a = c.args in
    waiting_refused a.tickets.now a.out.now a.sizes.now _ _ _ _ c.table_at-row.ensures c.places_if-len.ensures c.tell_waiting-told.ensures _ (c.is_err.ensures.value ∙ told_says _ _ c.told.ensures)
    c.if-is_err.true _ c.code_of-code.ensures

pub bounds-sizes-0 : goal.bounds-sizes-0
bounds-sizes-0 c =
    let a = c.args in
    waiting_fits a.tickets.now a.out.now a.sizes.now _ _ _ _ c.table_at-row.ensures c.places_if-len.ensures c.tell_waiting-told.ensures _ (c.is_err.ensures.value ∙ told_says _ _ c.told.ensures)
    c.if-is_err.false

pub returns : goal.returns
returns c =
    let a = c.args in
    let fit = waiting_fits a.tickets.now a.out.now a.sizes.now _ _ _ _ c.table_at-row.ensures c.places_if-len.ensures c.tell_waiting-told.ensures _ (c.is_err.ensures.value ∙ told_says _ _ c.told.ensures)
    c.if-is_err.false in
    waiting_told a.tickets.now a.out.now a.sizes.now _ _ _ _ c.table_at-row.ensures c.places_if-len.ensures c.tell_waiting-told.ensures _ (c.is_err.ensures.value ∙ told_says _ _ c.told.ensures)
    c.if-is_err.false _ c.code_of-code.ensures _ (one_set _ a.sizes.now fit)
