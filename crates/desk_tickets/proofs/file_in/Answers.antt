-- A refusal leaves the row; else the store is one ticket more at its office.
use mathlib.Core.Path.{sym, ◌∙◌}
use Rattle.std.proofs.Common.{arith, rules}
use Rattle.desk_tickets.proofs.Storing.{file_refused, file_stored, store_fits, number_fits}
use Rattle.desk_tickets.proofs.file_in.Goals as goal

pub returns-in-Err : goal.returns-in-Err
returns-in-Err c = file_refused _ _ _ _ c.in-Err.ensures

pub overflow_add-number : goal.overflow_add-number
overflow_add-number c = rw c.last_of-number.ensures (omega (arith, number_fits _ _ _ _ (sym c.in_default.is ∙ c.judge_filing.ensures)))

pub overflow_add-at : goal.overflow_add-at
overflow_add-at c =
    let free = store_fits _ _ _ _ (sym c.in_default.is ∙ c.judge_filing.ensures) in
    rw (c.first_place.ensures, c.count_waiting.ensures) (omega (arith, free))

pub offset_bounds-next-at : goal.offset_bounds-next-at
offset_bounds-next-at c =
    let free = store_fits _ _ _ _ (sym c.in_default.is ∙ c.judge_filing.ensures) in
    rw (c.first_place.ensures, c.count_waiting.ensures) (omega (arith, free))

pub bounds-next-at : goal.bounds-next-at
bounds-next-at c = rw (c.first_place.ensures, c.count_waiting.ensures) (store_fits _ _ _ _ (sym c.in_default.is ∙ c.judge_filing.ensures))

pub returns : goal.returns
returns c =
    rw c.accepted.ensures
    (file_stored _ _ _ _ (sym c.in_default.is ∙ c.judge_filing.ensures) (search rules) _ _ _ _
    c.last_of-number.ensures c.first_place.ensures c.count_waiting.ensures c.lasts_with-given.ensures)
