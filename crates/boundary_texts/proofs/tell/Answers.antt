-- A refusal leaves the row, and else its first word is the length.
use mathlib.Core.Path.{◌∙◌}
use Rattle.boundary_texts.proofs.Answered.{told_says, told_refused, told_one}
use Rattle.boundary_texts.proofs.tell.Goals as goal

pub returns-then-is_err : goal.returns-then-is_err
returns-then-is_err c = told_refused c.args.v _ c.code_of-code.ensures _ (c.is_err.ensures.value ∙ told_says _ _ c.told.ensures) c.args.bytes c.args.sizes.now c.if-is_err.true

pub returns : goal.returns
returns c = told_one c.args.v _ c.code_of-code.ensures _ (c.is_err.ensures.value ∙ told_says _ _ c.told.ensures) c.args.bytes c.args.sizes.now c.if-is_err.false c.requires.in_bounds
