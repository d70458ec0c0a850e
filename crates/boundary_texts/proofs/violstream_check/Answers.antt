use Rattle.std.proofs.Common.{arith}
use Rattle.boundary_texts.proofs.Answered.{checked_near, check_called, check_short}
use Rattle.boundary_texts.proofs.violstream_check.Goals as goal

pub short_code-requires : goal.short_code-requires
short_code-requires c = checked_near c.check-unwritten.ensures _ c.verdict_of.ensures

pub returns-then-sizes-lt1 : goal.returns-then-sizes-lt1
returns-then-sizes-lt1 c =
    let a = c.args in
    check_short c.check-unwritten.ensures _ c.verdict_of.ensures _ c.short_code.ensures a.out.now a.sizes.now c.if-sizes-lt1.true

pub tell-requires-clause-place_bound : goal.tell-requires-clause-place_bound
tell-requires-clause-place_bound c = checked_near c.check-checked.ensures _ c.verdict_of-2.ensures

pub returns : goal.returns
returns c = check_called c.check-checked.ensures c.args.sizes.now (omega (arith, c.if-sizes-lt1.false)) _ c.verdict_of-2.ensures _ _ c.tell.ensures
