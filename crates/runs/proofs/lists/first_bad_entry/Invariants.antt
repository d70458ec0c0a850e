use Rattle.std.proofs.Common.{length}
use Rattle.runs.proofs.Entries.{EntriesPassed}
use Rattle.runs.proofs.lists.first_bad_entry.Given as goal

abbrev pub invariant-loop-i : goal.invariant-loop-i
invariant-loop-i l = EntriesPassed l.aggregates l.numbers l.froms l.tos (length l.yielded)
