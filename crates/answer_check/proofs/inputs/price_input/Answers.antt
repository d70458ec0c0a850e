use Rattle.answer_check.specs.Pricing.{SheetPriced}
use Rattle.answer_check.proofs.Framing.{framed_bad, framed_texts}
use Rattle.answer_check.proofs.inputs.price_input.Goals as goal

pub returns-in_default : goal.returns-in_default
returns-in_default c = framed_bad SheetPriced _ _ c.frame_input.ensures c.in_default.is _ _ _ c.refuse_input.ensures

pub returns : goal.returns
returns c = framed_texts SheetPriced _ _ c.frame_input.ensures _ c.in-Some.is _ _ c.part.ensures.result_value c.part-2.ensures.result_value _ _ _ c.price.ensures
