-- No earlier record is bad.
use Rattle.std.proofs.Common.{◌≡◌}
use Rattle.refusals.specs.Refusals.{first_where}
use Rattle.desk_tickets.specs.WaitingTable.{bad_record}
use Rattle.desk_tickets.proofs.judge_records.Given as goal

abbrev pub invariant-loop-i : goal.invariant-loop-i
invariant-loop-i l = first_where (bad_record l.lasts l.row) l.i ≡ 0
