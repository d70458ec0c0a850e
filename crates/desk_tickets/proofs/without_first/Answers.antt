use Rattle.std.proofs.Common.{rules}
use Rattle.desk_tickets.proofs.Placed.{closed_both}
use Rattle.desk_tickets.proofs.without_first.Goals as goal

pub returns : goal.returns
returns c = closed_both _ _ _ (search rules) _ c.close_up-next.ensures _ c.close_up.ensures
