-- The words so far are lowered, and all others as they were.
use Rattle.std.proofs.Common.{◌≡◌, ◌+◌, ◌*◌}
use Rattle.engine_table.specs.Private.{Written, lowered}
use Rattle.engine_table.proofs.blocks.lower_words.Given as goal

abbrev pub invariant-loop-s : goal.invariant-loop-s
invariant-loop-s l = (l.wait ≡ l.base + l.slope * l.s) × Written l.cell l.s (lowered l.cell l.inner l.rest l.base l.slope l.fn.room) l.fn.room l.room
