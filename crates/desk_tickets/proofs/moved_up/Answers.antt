use Rattle.std.proofs.Common.{arith}
use Rattle.desk_tickets.proofs.Placed.{kept_here, moved_here, none_left}
use Rattle.desk_tickets.proofs.moved_up.Goals as goal

pub returns-then-i-p : goal.returns-then-i-p
returns-then-i-p c = kept_here _ _ c.requires.first_le_places (omega arith) _ _ _ c.if-i-p.true c.requires.i_lt_places

pub returns-then-i-n : goal.returns-then-i-n
returns-then-i-n c = moved_here _ _ c.requires.first_le_places (omega arith) _ _ _ c.if-i-p.false (omega arith)

pub returns-else-i-n : goal.returns-else-i-n
returns-else-i-n c = none_left _ _ c.requires.first_le_places (omega arith) _ _ _ c.if-i-p.false c.requires.i_lt_places (omega arith)

pub returns-else-n-lt-PLACES : goal.returns-else-n-lt-PLACES
returns-else-n-lt-PLACES c = none_left _ _ c.requires.first_le_places (omega arith) _ _ _ c.if-i-p.false c.requires.i_lt_places (omega arith)
