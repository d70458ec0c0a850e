use mathlib.Core.Path.{◌∙◌}
use Rattle.tape_markup.proofs.Pieces.{step_end, step_byte, step_markup}
use borrow.Author.Rules.{rules}
use Rattle.tape_markup.proofs.tokens.text_step.Goals as goal

pub returns-then-text-at : goal.returns-then-text-at
returns-then-text-at c = step_end c.args.text.now c.args.at (search rules)

pub returns-then-byte-eq60 : goal.returns-then-byte-eq60
returns-then-byte-eq60 c = c.markup.ensures ∙ step_markup c.args.text.now c.args.at (search rules) c.if-byte-eq60.true

pub returns : goal.returns
returns c = step_byte c.args.text.now c.args.at (search rules) c.if-byte-eq60.false
