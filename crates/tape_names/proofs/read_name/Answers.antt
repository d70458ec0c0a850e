use Rattle.tape_files.proofs.Placing.{placed_in}
use Rattle.tape_names.proofs.Names.{left_byte, left_over}
use Rattle.tape_names.proofs.read_name.Goals as goal

pub loop-met-smaller : goal.loop-met-smaller
loop-met-smaller c = (rw (placed_in _ _ c.loop-met.invariant.within) at c.in-Ok.ensures).fewer

pub loop-met-preserved : goal.loop-met-preserved
loop-met-preserved c =
    left_byte _ _ _ _ _ _ _ _ _ c.loop-met.invariant _ _ (rw (placed_in _ _ c.loop-met.invariant.within) at c.in-Ok.ensures) _ c.with_byte-naming.ensures

pub returns : goal.returns
returns c = left_over _ _ _ _ _ _ _ _ _ c.loop-met.invariant _ (rw (placed_in _ _ c.loop-met.invariant.within) at c.in_default.ensures)
