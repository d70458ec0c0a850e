use Rattle.tape_files.proofs.Bare.{chars_byte, chars_over}
use Rattle.tape_files.proofs.values.read_chars.Goals as goal

pub loop-met-preserved : goal.loop-met-preserved
loop-met-preserved c = chars_byte _ _ _ _ c.loop-met.invariant _ _ _ c.in-Ok.ensures c.with_byte-chars.ensures

pub returns-in-Err : goal.returns-in-Err
returns-in-Err c = chars_over _ _ _ _ c.loop-met.invariant _ c.in-Err.ensures
