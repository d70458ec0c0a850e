use Rattle.std.proofs.Common.{refl, arith}
use Rattle.boundary_desk.proofs.Filling.{put_none, put_more, put_all}
use Rattle.boundary_desk.proofs.put_table.Goals as goal

pub loop-i-init : goal.loop-i-init
loop-i-init c = put_none c.args.tickets.now c.args.row

pub loop-i-preserved : goal.loop-i-preserved
loop-i-preserved c = put_more c.args.tickets.now c.args.row _ _ c.loop-i.invariant (omega arith) c.requires c.loop-i-test.true _ refl _ c.words_of.ensures

pub returns : goal.returns
returns c = put_all c.args.tickets.now c.args.row _ _ c.loop-i.invariant (omega arith) (omega arith)
