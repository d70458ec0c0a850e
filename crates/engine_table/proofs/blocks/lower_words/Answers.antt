use Rattle.std.proofs.Common.{◌∙◌, arith}
use Rattle.engine_table.proofs.Words.{row_lowered, lower_by_min}
use Rattle.engine_table.proofs.blocks.lower_words.Goals as goal

pub loop-s-preserved : goal.loop-s-preserved
loop-s-preserved c =
    (omega arith, row_lowered _ _ _ _ _ _ _ c.requires _ _ _ c.loop-s.invariant.1 c.loop-s.invariant.0 c.loop-s-test.true _ (c.min.ensures ∙ lower_by_min _ _))
