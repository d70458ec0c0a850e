-- The choices so far are in, and those still to come bring each word to its worth.
use Rattle.std.proofs.Common.{◌-◌}
use Rattle.engine_table.proofs.RowLoop.{RowLoop}
use Rattle.engine_table.proofs.filling.fill_row.Given as goal

abbrev pub invariant-loop-c : goal.invariant-loop-c
invariant-loop-c l = RowLoop l.starts l.lengths l.numbers l.counts l.turn l.reads l.a l.b l.n l.initial.room l.room (l.c - 1) l.w
