use Rattle.sheet_picks.proofs.Laying.{EntrySoFar}
use Rattle.sheet_picks.proofs.names.put_entry.Given as goal

abbrev pub invariant-loop-i : goal.invariant-loop-i
invariant-loop-i l = EntrySoFar l.list l.starts l.entry.number l.entry.first l.entry.last l.writing l.fn.row l.at l.row l.next l.i
