-- The two lines of a refusal, else the verdict.
use Rattle.answer_check.proofs.Checked.{text_refused, text_handed}
use Rattle.answer_check.proofs.checking.check_text.Goals as goal

pub returns-in-Ok : goal.returns-in-Ok
returns-in-Ok c = text_handed _ c.args.plan.now _ _ _ c.in-Ok.bytes c.in-Ok.ensures _ c.hand_out-answered.result _ c.hand_out-answered.ensures

pub returns-in-Err : goal.returns-in-Err
returns-in-Err c = text_refused _ c.args.plan.now _ _ _ c.in-Err.verdict c.in-Err.ensures _ c.write_refusal-answered.result _ c.write_refusal-answered.ensures
