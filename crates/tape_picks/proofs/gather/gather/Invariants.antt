use Rattle.tape_picks.specs.Private.{pick_in, walk_size}
use Rattle.tape_picks.proofs.Gathering.{Gathering}
use Rattle.tape_picks.proofs.gather.gather.Given as goal

-- The lines have what the files met so far come to, and the files left are the others.
abbrev pub invariant-loop-next : goal.invariant-loop-next
invariant-loop-next l = Gathering l.index l.list l.from l.to l.order l.count l.tape (pick_in l.states l.starts l.ends) l.next

-- Each element met takes a token, and each left goes outwards.
abbrev pub decreases-loop-next : goal.decreases-loop-next
decreases-loop-next l = walk_size l.index l.next
