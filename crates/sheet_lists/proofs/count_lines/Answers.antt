use Rattle.std.proofs.Common.{rules}
use Rattle.sheet_lists.proofs.Counting.{counted_none, counted_feed, counted_other, counted_all}
use Rattle.sheet_lists.proofs.count_lines.Goals as goal
use Rattle.sheet_lists.proofs.count_lines.Goals.{then-byte-eq10, else-byte-eq10}

pub loop-byte-init : goal.loop-byte-init
loop-byte-init c = counted_none _

pub loop-byte-preserved : goal.loop-byte-preserved
loop-byte-preserved c =
    elim c.if-byte-eq10.branch [
      | then-byte-eq10 w ↦ rw w.lines-is (counted_feed _ _ _ c.loop-byte.invariant (search rules) w.if-byte-eq10.true)
      | else-byte-eq10 w ↦ rw w.lines-is (counted_other _ _ _ c.loop-byte.invariant (search rules) w.if-byte-eq10.false)
    ]

pub returns : goal.returns
returns c = counted_all _ _ _ c.loop-byte.invariant (search rules)
