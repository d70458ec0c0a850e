-- Unequal rows first, then the first bad entry found in the rows.
use borrow.Author.Tests.{eqb-true, not-false}
use mathlib.Core.Path.{refl, sym, ap, ◌∙◌}
use Rattle.std.proofs.lemmas.Result.{err_from_is_err_and}
use Rattle.refusals.specs.declared.Refusal.TheVariants.{BadEntry}
use Rattle.refusals.specs.Refusals.{checked, refuse_at}
use Rattle.refusals.proofs.Verdicts.{accepts_if}
use Rattle.refusals.proofs.Checked.{passed, stopped, last_decides}
use Rattle.runs.specs.Lists.{list_verdict}
use Rattle.runs.proofs.Entries.{first_bad_row}
use Rattle.runs.proofs.lists.judge_list.Goals as goal

pub returns-in_err-when : goal.returns-in_err-when
unfolding list_verdict
returns-in_err-when c = λ s l cs same.
    let p = err_from_is_err_and c.from_residual.result c.from_residual.ensures.1 in
    let e = stopped _ _ c.in_err-when.ensures in
    rw (p.1, p.2, e.so) c.in_err-when.ensures

pub returns : goal.returns
unfolding list_verdict
returns c = λ s l cs same.
    let a = c.args in
    let even = eqb-true _ _ (not-false _ (accepts_if _ BadEntry refl (passed _ _ c.in_ok-when.ensures))) in
    let found = c.first_bad_entry.ensures ∙ sym (first_bad_row s l a.aggregates.now a.numbers.now cs same a.froms.now a.tos.now even) in
    rw (passed _ _ c.in_ok-when.ensures) (last_decides _ c.at.result (c.at.ensures ∙ ap (λ p. checked (refuse_at p BadEntry)) found))
