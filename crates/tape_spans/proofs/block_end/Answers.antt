-- Whole blocks of the offset and of the count, and those that their parts need.
use Rattle.tape_spans.proofs.Places.{end_no_size, parts_fit, end_near}
use Rattle.tape_spans.proofs.block_end.Goals as goal

pub returns-then-size-eq0 : goal.returns-then-size-eq0
returns-then-size-eq0 c = let a = c.args in end_no_size _ a.block a.offset a.count c.if-size-eq0.true

pub blocks_of_parts-parts-requires : goal.blocks_of_parts-parts-requires
blocks_of_parts-parts-requires c = let a = c.args in parts_fit a.size a.offset a.count c.if-size-eq0.false

pub returns : goal.returns
returns c = let a = c.args in end_near a.size a.block a.offset a.count _ _ _ _ c.if-size-eq0.false c.blocks_of_parts-parts.ensures.0 c.add-first.ensures c.add-second.ensures c.add.ensures
