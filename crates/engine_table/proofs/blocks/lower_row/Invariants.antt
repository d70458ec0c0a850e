-- The choice is laid over the words so far, and all others are as they were.
use Rattle.std.proofs.Common.{◌≤◌, ◌-◌}
use Rattle.engine_table.specs.Private.{Written, lowered}
use Rattle.engine_table.proofs.blocks.lower_row.Given as goal

abbrev pub invariant-loop-i : goal.invariant-loop-i
invariant-loop-i l = (l.i ≤ l.n) × Written l.cell l.i (lowered l.cell l.inner l.rest l.base l.slope l.fn.room) l.fn.room l.room

abbrev pub decreases-loop-i : goal.decreases-loop-i
decreases-loop-i l = l.n - l.i
