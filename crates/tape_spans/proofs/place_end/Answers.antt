use mathlib.Core.Path.{◌∙◌}
use Rattle.tape_spans.proofs.Places.{end_bytes, end_blocks}
use Rattle.tape_spans.proofs.place_end.Goals as goal

pub returns-then-unit-eq0 : goal.returns-then-unit-eq0
returns-then-unit-eq0 c = let a = c.args in c.byte_end.ensures ∙ end_bytes a.unit a.size a.extent c.if-unit-eq0.true

pub returns : goal.returns
returns c = let a = c.args in c.block_end.ensures ∙ end_blocks a.unit a.size a.extent c.if-unit-eq0.false
