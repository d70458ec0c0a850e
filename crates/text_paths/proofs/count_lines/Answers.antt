use Rattle.std.proofs.Common.{rules, arith}
use Rattle.text_paths.proofs.Asked.{lines_uncounted, lines_counted, lines_open, lines_ended, lines_whole}
use Rattle.text_paths.proofs.count_lines.Goals as goal

pub loop-byte-init : goal.loop-byte-init
loop-byte-init c = lines_uncounted _

pub loop-byte-preserved : goal.loop-byte-preserved
loop-byte-preserved c = lines_counted _ _ _ _ c.loop-byte.invariant (search rules) _ c.counted-count.ensures

pub overflow_add-result : goal.overflow_add-result
overflow_add-result c = omega (arith, lines_open _ _ _ _ c.loop-byte.invariant c.if-begun.true, c.loop-byte.invariant.within)

pub returns-then-begun : goal.returns-then-begun
returns-then-begun c = lines_ended _ _ _ _ c.loop-byte.invariant c.if-begun.true (search rules)

pub returns : goal.returns
returns c = lines_whole _ _ _ _ c.loop-byte.invariant c.if-begun.false (search rules)
