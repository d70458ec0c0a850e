use Rattle.std.proofs.Common.{arith}
use Rattle.text_pages.proofs.Pages.{line_room, line_wrote, lines_put}
use Rattle.answer_month.proofs.Pages.{lines_left, lines_over}
use Rattle.answer_month.proofs.page.put_refusals.Goals as goal

pub put_refusal-next-requires : goal.put_refusal-next-requires
put_refusal-next-requires c = line_room _ _ _ _ _ c.requires _ _ _ _ c.loop-number.invariant c.loop-number-test.true

pub loop-number-preserved : goal.loop-number-preserved
loop-number-preserved c =
    line_wrote _ _ _ _ _ c.requires _ _ _ _ c.loop-number.invariant c.loop-number-test.true _ _ (lines_left _ _ c.loop-number-test.true) _ (omega arith) _ _ c.put_refusal-next.ensures

pub returns : goal.returns
returns c = lines_put _ _ _ _ _ c.requires _ _ _ _ c.loop-number.invariant c.loop-number-test.false (lines_over _ _ c.loop-number-test.false)
