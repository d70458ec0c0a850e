-- What is written, what the window still lists and what the waiting windows owe are the whole list.
use Rattle.std.proofs.Common.{◌+◌, ◌*◌}
use Rattle.engine_table.proofs.ReadLoop.{ReadLoop}
use Rattle.engine_table.proofs.reading.read_off.Given as goal

abbrev pub invariant-loop-b : goal.invariant-loop-b
invariant-loop-b l =
    ReadLoop l.starts l.lengths l.numbers l.counts l.turn l.reads l.fn.froms l.fn.tos l.froms l.tos l.edges l.ends l.skips l.depth l.n l.a l.b l.s

abbrev pub decreases-loop-b : goal.decreases-loop-b
decreases-loop-b l = 2 * l.b + l.depth
