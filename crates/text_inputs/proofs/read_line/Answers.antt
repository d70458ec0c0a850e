use Rattle.std.proofs.Common.{◌≡◌, length, rules, arith}
use borrow.Author.Tests.{ne_eqb}
use Rattle.text_inputs.proofs.Reading.{nothing_read, line_ended, line_whole, one_more}
use Rattle.text_inputs.proofs.read_line.Goals as goal

pub loop-n-init : goal.loop-n-init
loop-n-init c = nothing_read _

pub returns-in_default : goal.returns-in_default
returns-in_default c = line_ended _ _ _ c.loop-n.invariant

pub returns-then-byte-eq10 : goal.returns-then-byte-eq10
returns-then-byte-eq10 c = line_whole _ _ _ c.loop-n.invariant _ (search rules)

pub loop-n-preserved : goal.loop-n-preserved
loop-n-preserved c = one_more _ _ _ c.loop-n.invariant _ (search rules) (ne_eqb _ _ c.if-byte-eq10.false)

pub returns : goal.returns
returns c = let same : c.loop-n.n ≡ length c.loop-n.line = omega arith in rw (← same) (line_ended _ _ _ c.loop-n.invariant)
