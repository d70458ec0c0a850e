-- The words so far are written, and all others as they were.
use Rattle.std.proofs.Common.{◌+◌, get_or}
use Rattle.engine_table.specs.Private.{Written}
use Rattle.engine_table.proofs.filling.skip_row.Given as goal

abbrev pub invariant-loop-s : goal.invariant-loop-s
invariant-loop-s l = Written l.cell l.s (λ s. l.more + get_or l.fn.room (l.from + s) 0) l.fn.room l.room
