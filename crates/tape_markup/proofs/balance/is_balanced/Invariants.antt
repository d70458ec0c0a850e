use Rattle.tape_markup.proofs.Meets.{unread}
use Rattle.tape_markup.proofs.Names.{Balancing}
use Rattle.tape_markup.proofs.balance.is_balanced.Given as goal

-- The rows hold the names of the open elements, which what is left has to close.
abbrev pub invariant-loop-next : goal.invariant-loop-next
invariant-loop-next l = Balancing l.text l.froms l.tos l.«open» l.place

abbrev pub decreases-loop-next : goal.decreases-loop-next
decreases-loop-next l = unread l.text l.place
