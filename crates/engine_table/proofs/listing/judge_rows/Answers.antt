-- The rows before the room.
use mathlib.Core.Path.{ap, ◌∙◌}
use lib.Dec.{ltb}
use Rattle.std.proofs.lemmas.Result.{err_from_is_err_and}
use Rattle.refusals.specs.declared.Refusal.TheVariants.{ShortRow, ShortRoom}
use Rattle.refusals.specs.Refusals.{checked, refuse_if}
use Rattle.refusals.proofs.Checked.{passed, stopped, last_decides}
use Rattle.engine_table.specs.Private.{list_rows_verdict}
use Rattle.engine_table.proofs.listing.judge_rows.Goals as goal

pub returns-in_err-when : goal.returns-in_err-when
unfolding list_rows_verdict
returns-in_err-when c =
    let p = err_from_is_err_and c.from_residual.result c.from_residual.ensures.1 in
    let said = c.in_err-when.ensures ∙ ap (λ b. checked (refuse_if b ShortRow)) c.short_rows.ensures in
    let s = stopped _ _ said in
    rw (p.1, p.2, s.so) said

pub returns : goal.returns
unfolding list_rows_verdict
returns c =
    let rows = c.in_ok-when.ensures ∙ ap (λ b. checked (refuse_if b ShortRow)) c.short_rows.ensures in
    let pass = passed _ _ rows in
    rw pass (last_decides _ c.when-2.result (c.when-2.ensures ∙ ap (λ n. checked (refuse_if (ltb c.args.room n) ShortRoom)) c.table_words.ensures))
