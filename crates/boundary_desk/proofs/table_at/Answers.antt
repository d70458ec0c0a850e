use Rattle.std.proofs.Common.{refl, arith}
use Rattle.boundary_desk.proofs.Filling.{read_none, read_more, read_all}
use Rattle.boundary_desk.proofs.table_at.Goals as goal

pub loop-i-init : goal.loop-i-init
loop-i-init c = read_none c.args.tickets.now _ refl

pub loop-i-preserved : goal.loop-i-preserved
loop-i-preserved c = read_more c.args.tickets.now _ _ _ c.loop-i.invariant c.loop-i-test.true _ c.record_at.ensures

pub returns : goal.returns
returns c = read_all c.args.tickets.now _ _ _ c.loop-i.invariant (omega arith)
