use Rattle.std.proofs.Common.{arith}
use Rattle.walk.proofs.Legs.{next_leg, ending_on, ended}
use Rattle.walk.proofs.pricing.walk_end.Goals as goal

pub loop-i-preserved : goal.loop-i-preserved
loop-i-preserved c =
    let next = next_leg _ _ _ c.requires.within _ _ c.loop-i.invariant.walking (omega arith) _ c.leg_at-leg.ensures in
    rw (c.run_right-h.ensures, c.set_off.ensures) (ending_on _ _ _ _ _ c.loop-i.invariant c.requires.within (omega arith) _ next)

pub returns : goal.returns
returns c = ended _ _ _ _ _ c.loop-i.invariant (omega arith)
