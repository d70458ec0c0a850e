-- The table's refusal, or its answer in a line.
use mathlib.Core.Path.{sym, ◌∙◌}
use Rattle.answer_desk.proofs.Saying.{filing_refused, filing_said}
use Rattle.answer_desk.proofs.file.Goals as goal

pub returns-in-Err : goal.returns-in-Err
returns-in-Err c = filing_refused _ _ _ _ _ _ c.file_in-done.ensures _ c.in-Err.ensures c.refuse.ensures

pub returns : goal.returns
returns c = filing_said _ _ _ _ _ _ c.file_in-done.ensures _ (sym c.in_default.is ∙ c.told.ensures) _ _ c.say_pair-written.ensures c.answer_by.ensures
