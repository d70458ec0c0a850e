use Rattle.answer_check.proofs.Framing.{checked_bad, checked_texts}
use Rattle.answer_check.proofs.inputs.check_input.Goals as goal

pub returns-in_default : goal.returns-in_default
returns-in_default c = checked_bad _ _ c.frame_input.ensures c.in_default.is _ _ _ _ c.refuse_input.ensures

pub returns : goal.returns
returns c = checked_texts _ _ c.frame_input.ensures _ c.in-Some.is _ _ c.part.ensures.result_value c.part-2.ensures.result_value _ _ _ _ _ c.check_text.ensures
