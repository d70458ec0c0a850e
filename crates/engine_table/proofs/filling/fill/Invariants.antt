-- The columns so far are done.
use Rattle.engine_table.proofs.ColumnLoop.{TableLoop}
use Rattle.engine_table.proofs.filling.fill.Given as goal

abbrev pub invariant-loop-b : goal.invariant-loop-b
invariant-loop-b l = TableLoop l.starts l.lengths l.numbers l.counts l.turn l.reads l.initial.room l.room l.b l.left
