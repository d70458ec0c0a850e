-- 8 where nothing else is refused.
use mathlib.Core.Path.{◌∙◌}
use Rattle.boundary_texts.proofs.Answered.{told_says, code_refused, code_eight}
use Rattle.boundary_texts.proofs.short_code.Goals as goal

pub returns-then-is_err : goal.returns-then-is_err
returns-then-is_err c = code_refused c.args.v _ c.code_of-code.ensures _ (c.is_err.ensures.value ∙ told_says _ _ c.told.ensures) c.if-is_err.true

pub returns : goal.returns
returns c = code_eight c.args.v _ c.code_of-code.ensures _ (c.is_err.ensures.value ∙ told_says _ _ c.told.ensures) c.if-is_err.false
