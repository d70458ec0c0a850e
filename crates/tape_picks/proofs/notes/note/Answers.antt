use Rattle.std.proofs.Common.{arith}
use Rattle.tape_picks.proofs.Noting.{noting_more}
use Rattle.tape_picks.proofs.notes.note.Goals as goal

pub loop-k-preserved : goal.loop-k-preserved
loop-k-preserved c =
    let fit = c.requires.all_fit in
    noting_more _ _ _ _ _ _ _ _ c.requires.order_held.0 _ c.loop-k.states c.loop-k.starts c.loop-k.ends
    (omega arith, (omega arith, omega arith)) _ c.loop-k.invariant c.loop-k-test.true c.requires.order_held.1
    _ c.ends_there-here.ensures _ c.noted-next.ensures
