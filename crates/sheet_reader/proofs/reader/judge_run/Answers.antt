use mathlib.Core.Path.{ap, ◌∙◌}
use Rattle.std.proofs.lemmas.Result.{err_from_is_err_and}
use Rattle.refusals.specs.declared.Refusal.TheVariants.{ShortRow}
use Rattle.refusals.specs.Refusals.{checked, refuse_if}
use Rattle.sheet_reader.proofs.Answers.{sheet_retired, rows_short, run_good}
use Rattle.sheet_reader.proofs.reader.judge_run.Goals as goal

pub returns-in_err-judge_rule : goal.returns-in_err-judge_rule
returns-in_err-judge_rule c =
    let p = err_from_is_err_and c.from_residual-in_err-judge_rule.result c.from_residual-in_err-judge_rule.ensures.1 in
    rw (p.1, p.2) (sheet_retired _ _ c.in_ok-parts.ensures _ _ _ _ _ _ c.in_err-judge_rule.ensures)

pub returns-in_err-when : goal.returns-in_err-when
returns-in_err-when c =
    let p = err_from_is_err_and c.from_residual-in_err-when.result c.from_residual-in_err-when.ensures.1 in
    rw (p.1, p.2) (rows_short _ _ c.in_ok-parts.ensures _ _ _ _ _ c.in_ok-judge_rule.ensures _ (c.in_err-when.ensures ∙ ap (λ b. checked (refuse_if b ShortRow)) c.has_short_row-short.ensures))

pub returns : goal.returns
returns c = run_good _ _ c.in_ok-parts.ensures _ _ _ _ _ c.in_ok-judge_rule.ensures (c.in_ok-when.ensures ∙ ap (λ b. checked (refuse_if b ShortRow)) c.has_short_row-short.ensures)
