-- Refused, nothing is written; else the table, who has left and the sums.
use mathlib.Core.Path.{sym, ◌∙◌}
use Rattle.boundary_desk.proofs.Calling.{told_says}
use Rattle.boundary_desk.proofs.Answers.{settled_refused, settled_done}
use Rattle.boundary_desk.proofs.settle.Goals as goal

pub returns-then-is_err : goal.returns-then-is_err
returns-then-is_err c =
    let a = c.args in
    settled_refused a.row a.done a.tickets.now a.taken.now a.sums.now _ c.code_of-code.ensures _ (c.is_err.ensures.value ∙ told_says _ _ c.told.ensures) c.if-is_err.true

pub put_table-requires : goal.put_table-requires
put_table-requires c = c.requires.records (sym (told_says _ _ c.told.ensures) ∙ sym c.is_err.ensures.value ∙ c.if-is_err.false)

pub put_taken-requires-clause-leaves : goal.put_taken-requires-clause-leaves
put_taken-requires-clause-leaves c = c.requires.leaves (sym (told_says _ _ c.told.ensures) ∙ sym c.is_err.ensures.value ∙ c.if-is_err.false)

pub put_taken-requires-clause-in_bounds : goal.put_taken-requires-clause-in_bounds
put_taken-requires-clause-in_bounds c = c.requires.words (sym (told_says _ _ c.told.ensures) ∙ sym c.is_err.ensures.value ∙ c.if-is_err.false)

pub fill_sums-requires : goal.fill_sums-requires
fill_sums-requires c = c.requires.four (sym (told_says _ _ c.told.ensures) ∙ sym c.is_err.ensures.value ∙ c.if-is_err.false)

pub returns : goal.returns
returns c =
    let a = c.args in
    settled_done a.row a.done a.tickets.now a.taken.now a.sums.now _ c.code_of-code.ensures _ (c.is_err.ensures.value ∙ told_says _ _ c.told.ensures) c.if-is_err.false
    _ c.put_table.ensures _ c.put_taken.ensures _ c.fill_sums.ensures
