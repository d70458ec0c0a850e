use Rattle.std.proofs.Common.{arith, add-one}
use Rattle.std.proofs.Math.Seq.{paste-suc}
use Rattle.desk_tickets.specs.Private.{closed_up}
use Rattle.desk_tickets.specs.WaitingTable.{no_ticket}
use Rattle.desk_tickets.proofs.Placed.{closed_long}
use Rattle.desk_tickets.proofs.close_up.Goals as goal

pub loop-i-preserved : goal.loop-i-preserved
loop-i-preserved c =
    let a = c.args in
    let t = closed_up a.first a.p a.n a.row in
    let long = closed_long a.first a.row c.requires (omega arith) a.p a.n in
    rw (c.loop-i.invariant, c.moved_up.ensures, add-one) (paste-suc a.row a.first t c.loop-i.i no_ticket (omega arith) (omega arith))
