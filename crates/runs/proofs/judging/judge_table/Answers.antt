-- A file is bad by its place or by its number.
use mathlib.Core.Path.{ap, ◌∙◌}
use Rattle.refusals.specs.Refusals.{checked, refuse_if, refuse_at}
use Rattle.refusals.specs.declared.Refusal.TheVariants.{BadFile, FileRows}
use Rattle.refusals.proofs.Checked.{passed, last_decides}
use Rattle.runs.proofs.Judged.{table_rows_fit, bad_file_first}
use Rattle.runs.proofs.judging.judge_table.Goals as goal

pub first_bad_place-place-requires : goal.first_bad_place-place-requires
first_bad_place-place-requires c = (table_rows_fit _ _ _ (passed _ _ (c.in_ok-when.ensures ∙ ap (λ b. checked (refuse_if b FileRows)) c.table_uneven.ensures))).equal

pub returns : goal.returns
returns c =
    let a = c.args in
    let even = c.in_ok-when.ensures ∙ ap (λ b. checked (refuse_if b FileRows)) c.table_uneven.ensures in
    let rows = table_rows_fit _ _ _ (passed _ _ even) in
    let found =
    bad_file_first a.starts.now a.lengths.now a.aggregates.now _ _ _ rows.numbered
    c.first_bad_place-place.ensures c.first_bad_number-number.ensures c.earlier.ensures in
    rw (passed _ _ even) (last_decides _ c.at.result (c.at.ensures ∙ ap (λ p. checked (refuse_at p BadFile)) found))
