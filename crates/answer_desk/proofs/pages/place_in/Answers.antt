use Rattle.std.proofs.Common.{arith, eq-eqb, ne_eqb}
use Rattle.answer_desk.proofs.Looking.{sought_more, sought_here, sought_all}
use Rattle.answer_desk.proofs.pages.place_in.Goals as goal

pub returns-then-number-file : goal.returns-then-number-file
returns-then-number-file c = sought_here _ _ _ c.loop-i.invariant (omega arith) (eq-eqb _ _ c.if-number-file.true)

pub loop-i-preserved : goal.loop-i-preserved
loop-i-preserved c = sought_more _ _ _ c.loop-i.invariant (omega arith) (ne_eqb _ _ c.if-number-file.false)

pub returns : goal.returns
returns c = omega (arith, sought_all _ _ _ c.loop-i.invariant (omega arith))
