use Rattle.std.proofs.Common.{arith}
use Rattle.text_pages.proofs.Pages.{line_put, lines_put, triples_left, triples_over}
use Rattle.sheet_writer.proofs.page.put_triples.Goals as goal

pub loop-i-preserved : goal.loop-i-preserved
loop-i-preserved c =
    line_put _ _ _ _ _ c.requires.firsts_in_bounds _ _ _ _ c.loop-i.invariant c.loop-i-test.true _ _
    (triples_left _ _ _ c.requires.firsts_len _ _ c.requires.firsts_len_2 c.loop-i-test.true) _ (omega arith) _ _ c.put_triple_line-next.ensures

pub returns : goal.returns
returns c =
    lines_put _ _ _ _ _ c.requires.firsts_in_bounds _ _ _ _ c.loop-i.invariant c.loop-i-test.false
    (triples_over _ _ _ c.requires.firsts_len _ _ c.requires.firsts_len_2 c.loop-i-test.false)
