use mathlib.Core.Path.{◌∙◌}
use Rattle.tape_spans.proofs.Places.{start_no_size, start_in_blocks}
use Rattle.tape_spans.proofs.block_start.Goals as goal

pub returns-then-size-eq0 : goal.returns-then-size-eq0
returns-then-size-eq0 c = start_no_size _ c.args.block c.args.offset c.if-size-eq0.true

pub returns : goal.returns
returns c = let a = c.args in c.add.ensures ∙ start_in_blocks a.size a.block a.offset c.if-size-eq0.false
