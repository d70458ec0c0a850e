use Rattle.std.proofs.Common.{◌∙◌}
use Rattle.tape_files.proofs.Uuids.{alike_over, alike_other, alike_more}
use Rattle.tape_files.proofs.volumes.same_chars.Goals as goal

pub returns-then-met-beside : goal.returns-then-met-beside
returns-then-met-beside c = alike_other _ _ _ _ _ _ c.loop-met.invariant _ _ c.in-Ok.ensures _ _ c.in-Ok-byte_from.ensures c.if-met-beside.true

pub loop-met-preserved : goal.loop-met-preserved
loop-met-preserved c = alike_more _ _ _ _ _ _ c.loop-met.invariant _ _ c.in-Ok.ensures _ _ c.in-Ok-byte_from.ensures c.if-met-beside.false

pub returns : goal.returns
returns c = c.is_err.ensures.value ∙ alike_over _ _ _ _ _ _ c.loop-met.invariant _ c.in_default.ensures c.byte_from-2.result c.byte_from-2.ensures
