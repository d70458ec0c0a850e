-- A run that 01 refuses is refused so, and of any other the sheet is that for a head anywhere.
use mathlib.Core.Path.{sym, ◌∙◌}
use Rattle.refusals.proofs.Checked.{passed}
use Rattle.sheet_writer.proofs.Sheets.{refused_handed}
use Rattle.sheet_writer.proofs.Plans.{run_refused, written_same}
use Rattle.sheet_writer.proofs.plan.write_plan.Goals as goal

pub returns-in-Err : goal.returns-in-Err
returns-in-Err c = refused_handed _ _ _ _ _ _ (run_refused _ _ _ _ _ _ c.in-Err.ensures) c.answer_to.ensures

pub returns : goal.returns
returns c = written_same _ _ (passed _ _ (sym c.in_default.is ∙ c.judge.ensures)) _ _ _ _ _ c.write_plan_any.ensures
