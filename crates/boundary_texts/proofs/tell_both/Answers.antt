-- A refusal leaves the row, and else its first two words are the lengths.
use mathlib.Core.Path.{◌∙◌}
use Rattle.boundary_texts.proofs.Answered.{told_says}
use Rattle.boundary_texts.proofs.Mended.{both_refused, both_told}
use Rattle.boundary_texts.proofs.tell_both.Goals as goal

pub returns-then-is_err : goal.returns-then-is_err
returns-then-is_err c = both_refused c.args.v c.args.mended c.args.noted c.args.sizes.now _ c.code_of-code.ensures _ (c.is_err.ensures.value ∙ told_says _ _ c.told.ensures) c.if-is_err.true

pub returns : goal.returns
returns c = both_told c.args.v c.args.mended c.args.noted c.args.sizes.now _ c.code_of-code.ensures _ (c.is_err.ensures.value ∙ told_says _ _ c.told.ensures) c.if-is_err.false c.requires.in_bounds
