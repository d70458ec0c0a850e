-- None, one or two blocks.
use native.Mathlib.Omega.{arith}
use Rattle.tape_spans.proofs.Places.{no_parts, one_part, two_parts}
use Rattle.tape_spans.proofs.blocks_of_parts.Goals as goal

pub returns-then-b-eq0 : goal.returns-then-b-eq0
returns-then-b-eq0 c = let p = c.requires in (no_parts _ _ _ p.0 p.1 c.if-a-eq0.true c.if-b-eq0.true, omega arith)

pub returns-then-a-eq0 : goal.returns-then-a-eq0
returns-then-a-eq0 c = let p = c.requires in (one_part _ c.args.a c.args.b p.0 p.1 (omega (arith, c.if-a-eq0.true, c.if-b-eq0.false)) (omega (arith, c.if-a-eq0.true)), omega arith)

pub returns-then-size-a : goal.returns-then-size-a
returns-then-size-a c = let p = c.requires in (two_parts _ c.args.a c.args.b p.0 p.1 (omega (arith, c.if-size-a.true)), omega arith)

pub returns : goal.returns
returns c = let p = c.requires in (one_part _ c.args.a c.args.b p.0 p.1 (omega (arith, c.if-a-eq0.false)) (omega (arith, c.if-size-a.false)), omega arith)
