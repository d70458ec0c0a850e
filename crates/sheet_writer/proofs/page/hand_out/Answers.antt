-- A row too short stays, and any other takes the text in its first bytes.
use mathlib.Core.Path.{sym, ◌∙◌}
use Rattle.sheet_writer.specs.Writing.{row_verdict}
use Rattle.sheet_writer.proofs.Sheets.{refused_handed, text_handed}
use Rattle.sheet_writer.proofs.page.hand_out.Goals as goal

pub returns-in-Err : goal.returns-in-Err
unfolding row_verdict
returns-in-Err c = refused_handed _ _ _ _ _ _ c.in-Err.ensures c.answer_to.ensures

pub returns : goal.returns
unfolding row_verdict
returns c = text_handed _ _ _ _ c.put.ensures _ (sym c.in_default.is ∙ c.when.ensures) _ c.accepted.ensures _ c.answer_to-2.ensures
