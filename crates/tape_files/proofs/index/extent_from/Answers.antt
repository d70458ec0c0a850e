use Rattle.tape_files.proofs.Extents.{extent_over, extent_more}
use Rattle.tape_files.proofs.index.extent_from.Goals as goal

pub loop-child-preserved : goal.loop-child-preserved
loop-child-preserved c =
    let value = c.read_value-read.ensures in
    extent_more _ _ _ _ c.loop-child.invariant _ _ _ _ _ _ _ c.in-Ok.ensures value.2 value.0 value.1 c.said_with-extent.ensures

pub returns-in-Err : goal.returns-in-Err
returns-in-Err c = extent_over _ _ _ _ c.loop-child.invariant _ c.in-Err.ensures
