use Rattle.std.proofs.Common.{arith}
use Rattle.answer_check.proofs.Differing.{differs_short, differs_here, same_feed, same_other, differs_end}
use Rattle.answer_check.proofs.verdict.difference.Goals as goal
use Rattle.answer_check.proofs.verdict.difference.Goals.{then-expected-i-via-then-expected-i, then-expected-i-via-else-expected-i+then-byte-expected, then-byte-eq10, else-byte-eq10}

pub returns-then-expected-i : goal.returns-then-expected-i
returns-then-expected-i c =
    elim c.then-expected-i.branch [
      | then-expected-i-via-then-expected-i w ↦ differs_short _ _ _ _ _ c.loop-i.invariant (omega arith) w.if-expected-i.true
      | then-expected-i-via-else-expected-i+then-byte-expected w ↦ differs_here _ _ _ _ _ c.loop-i.invariant (omega arith) (omega arith) w.if-byte-expected.true
    ]

pub loop-i-preserved : goal.loop-i-preserved
loop-i-preserved c =
    elim c.if-byte-eq10.branch [
      | then-byte-eq10 w ↦ rw (w.line-is, w.start-is) (same_feed _ _ _ _ _ c.loop-i.invariant (omega arith) (omega arith) c.if-byte-expected.false w.if-byte-eq10.true)
      | else-byte-eq10 w ↦ rw (w.line-is, w.start-is) (same_other _ _ _ _ _ c.loop-i.invariant (omega arith) (omega arith) c.if-byte-expected.false w.if-byte-eq10.false)
    ]

pub returns : goal.returns
returns c = differs_end _ _ _ _ _ c.loop-i.invariant c.loop-i-test.false
