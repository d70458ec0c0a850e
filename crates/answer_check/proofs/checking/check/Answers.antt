-- A refusal leaves the row, and else the verdict is handed out.
use Rattle.answer_check.proofs.Checked.{answer_refused, answer_handed}
use Rattle.answer_check.proofs.checking.check.Goals as goal

pub returns-in-Ok : goal.returns-in-Ok
returns-in-Ok c = answer_handed _ c.args.plan.now _ _ _ c.in-Ok.bytes c.in-Ok.ensures _ _ _ c.hand_out.ensures

pub returns-in-Err : goal.returns-in-Err
returns-in-Err c = answer_refused _ c.args.plan.now _ _ _ c.in-Err.verdict c.in-Err.ensures _ _ c.answer_to.ensures
