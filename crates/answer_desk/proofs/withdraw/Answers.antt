-- The table's refusal, or its answer in a line.
use mathlib.Core.Path.{sym, ◌∙◌}
use Rattle.answer_desk.proofs.Saying.{withdrawal_refused, withdrawal_said}
use Rattle.answer_desk.proofs.withdraw.Goals as goal

pub returns-in-Err : goal.returns-in-Err
returns-in-Err c = withdrawal_refused _ _ _ _ _ _ c.withdraw_in-done.ensures _ c.in-Err.ensures c.refuse.ensures

pub returns : goal.returns
returns c = withdrawal_said _ _ _ _ _ _ c.withdraw_in-done.ensures _ (sym c.in_default.is ∙ c.told.ensures) _ _ c.say_pair-written.ensures c.answer_by.ensures
