use Rattle.std.proofs.Common.{arith}
use Rattle.boundary_texts.proofs.Answered.{answer_near, answer_called, answer_short}
use Rattle.boundary_texts.proofs.violstream_answer.Goals as goal

pub short_code-requires : goal.short_code-requires
short_code-requires c = answer_near c.answer-unwritten.ensures _ c.verdict_of.ensures

pub returns-then-sizes-lt1 : goal.returns-then-sizes-lt1
returns-then-sizes-lt1 c =
    let a = c.args in
    answer_short c.answer-unwritten.ensures _ c.verdict_of.ensures _ c.short_code.ensures a.out.now a.sizes.now c.if-sizes-lt1.true

pub tell-requires-clause-place_bound : goal.tell-requires-clause-place_bound
tell-requires-clause-place_bound c = answer_near c.answer-written.ensures _ c.verdict_of-2.ensures

pub returns : goal.returns
returns c = answer_called c.answer-written.ensures c.args.sizes.now (omega (arith, c.if-sizes-lt1.false)) _ c.verdict_of-2.ensures _ _ c.tell.ensures
