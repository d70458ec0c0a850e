use Rattle.answer_check.proofs.Prices.{handed_holds}
use Rattle.answer_check.proofs.inputs.refuse_input.Goals as goal

pub returns : goal.returns
returns c = handed_holds _ _ _ _ c.write_refusal-lines.ensures
