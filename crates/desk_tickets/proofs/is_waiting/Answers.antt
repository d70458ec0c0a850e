use Rattle.std.proofs.Common.{sym, ◌∙◌}
use Rattle.desk_tickets.proofs.Leaving.{waits_index}
use Rattle.desk_tickets.proofs.is_waiting.Goals as goal

pub returns-then-up_to : goal.returns-then-up_to
returns-then-up_to c = waits_index c.args.office _ c.args.row _ _ (sym c.up_to.ensures ∙ c.if-up_to.true) c.index_of.ensures c.count_waiting.ensures
