use Rattle.answer_check.proofs.Pages.{row_same, rows_same, rows_differ}
use Rattle.answer_check.proofs.checking.same_list.Goals as goal

pub returns-then-eq : goal.returns-then-eq
returns-then-eq c =
    rows_same _ _ _ _ (rw (c.entries.ensures.result_value, c.entries-2.ensures.result_value) at (row_same c.entries.result.now c.entries-2.result.now c.eq.result c.eq.ensures))
    (rw (c.entries-then-eq.ensures.result_value, c.entries-then-eq-2.ensures.result_value) at (row_same c.entries-then-eq.result.now c.entries-then-eq-2.result.now c.eq-then-eq.result c.eq-then-eq.ensures)) c.if-eq.true

pub returns-else-eq : goal.returns-else-eq
returns-else-eq c = rows_differ _ _ _ (rw (c.entries.ensures.result_value, c.entries-2.ensures.result_value) at (row_same c.entries.result.now c.entries-2.result.now c.eq.result c.eq.ensures)) c.if-eq.false
