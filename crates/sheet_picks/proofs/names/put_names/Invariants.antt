use Rattle.sheet_picks.proofs.Laying.{NamesSoFar}
use Rattle.sheet_picks.proofs.names.put_names.Given as goal

abbrev pub invariant-loop-k : goal.invariant-loop-k
invariant-loop-k l = NamesSoFar l.list l.starts l.firsts l.lasts l.writing l.fn.row l.row l.next l.k
