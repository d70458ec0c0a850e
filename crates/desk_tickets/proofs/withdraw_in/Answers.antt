-- A refusal leaves the row; else its office's places are closed up over the ticket.
use mathlib.Core.Path.{sym, ◌∙◌}
use Rattle.std.proofs.Common.{rules}
use Rattle.desk_tickets.proofs.Leaving.{withdraw_refused, withdraw_left}
use Rattle.desk_tickets.proofs.withdraw_in.Goals as goal

pub returns-in-Err : goal.returns-in-Err
returns-in-Err c = withdraw_refused _ _ _ _ c.in-Err.ensures

pub returns : goal.returns
returns c =
    rw c.accepted.ensures
    (withdraw_left _ _ _ _ (sym c.in_default.is ∙ c.judge_withdrawal.ensures) (search rules) _ _ _
    c.index_of-at.ensures c.first_place.ensures c.close_up-next.ensures)
