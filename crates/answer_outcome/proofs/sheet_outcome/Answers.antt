-- A refusal where the sheet is refused, else the outcome of the run that it holds.
use mathlib.Core.Path.{sym, ap, ◌∙◌}
use Rattle.refusals.proofs.Checked.{passed, stopped}
use Rattle.sheet_runs.proofs.Runs.{held_by}
use Rattle.answer_outcome.specs.Outcomes.{refused_outcome}
use Rattle.answer_outcome.proofs.Outcomes.{sheet_refused, sheet_named, sheet_ended}
use Rattle.answer_outcome.proofs.sheet_outcome.Goals as goal

pub returns-in-Err : goal.returns-in-Err
returns-in-Err c =
    let s = stopped _ _ c.in-Err.ensures in
    sheet_refused _ c.read_run-run.result c.read_run-run.ensures s.so _ (c.refused_outcome.ensures ∙ ap (λ v. refused_outcome v.refusal) (sym s.is))

pub run_outcome-requires : goal.run_outcome-requires
run_outcome-requires c = sheet_named _ c.read_run-run.result c.read_run-run.ensures (passed _ _ (sym c.in_default.is ∙ c.told.ensures)) _ c.tape_name.ensures.result_value

pub returns : goal.returns
returns c =
    sheet_ended _ c.read_run-run.result c.read_run-run.ensures (passed _ _ (sym c.in_default.is ∙ c.told.ensures)) _ c.tape_name.ensures.result_value _
    (held_by c.read_run-run.result c.entries.ensures.result_value c.entries-2.ensures.result_value c.entries-3.ensures.result_value c.entries-4.ensures.result_value c.entries-5.ensures.result_value)
    _ c.run_outcome.ensures
