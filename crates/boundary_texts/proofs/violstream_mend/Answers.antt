use Rattle.std.proofs.Common.{arith}
use Rattle.boundary_texts.proofs.Mended.{mended_near, mend_called, mend_short}
use Rattle.boundary_texts.proofs.violstream_mend.Goals as goal

pub short_code-requires : goal.short_code-requires
short_code-requires c = mended_near _ _ _ _ _ _ c.mend-unmended.ensures _ c.verdict_of.ensures

pub returns-then-sizes-lt2 : goal.returns-then-sizes-lt2
returns-then-sizes-lt2 c =
    let a = c.args in
    mend_short _ _ _ _ c.mend-unmended.ensures _ c.verdict_of.ensures _ c.short_code.ensures a.out.now a.changes.now a.sizes.now c.if-sizes-lt2.true

pub tell_both-requires-clause-place_bound : goal.tell_both-requires-clause-place_bound
tell_both-requires-clause-place_bound c = mended_near _ _ _ _ _ _ c.mend-mended.ensures _ c.verdict_of-2.ensures

pub returns : goal.returns
returns c = mend_called _ _ _ _ _ _ c.mend-mended.ensures c.args.sizes.now (omega (arith, c.if-sizes-lt2.false)) _ c.verdict_of-2.ensures _ _ c.tell_both.ensures
