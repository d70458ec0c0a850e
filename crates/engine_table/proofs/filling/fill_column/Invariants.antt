-- The rows so far hold their worth, and the earlier columns still do.
use Rattle.engine_table.proofs.ColumnLoop.{ColumnLoop}
use Rattle.engine_table.proofs.filling.fill_column.Given as goal

abbrev pub invariant-loop-a : goal.invariant-loop-a
invariant-loop-a l = ColumnLoop l.starts l.lengths l.numbers l.counts l.turn l.reads l.b l.n l.initial.room l.room l.a
