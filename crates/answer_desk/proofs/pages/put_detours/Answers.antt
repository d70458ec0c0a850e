use Rattle.std.proofs.Common.{arith}
use Rattle.text_pages.proofs.Pages.{line_put, lines_put}
use Rattle.answer_desk.proofs.Looking.{detours_left, detours_over}
use Rattle.answer_desk.proofs.pages.put_detours.Goals as goal

pub loop-i-preserved : goal.loop-i-preserved
loop-i-preserved c =
    line_put _ _ _ _ _ c.requires.n_in_bounds _ _ _ _ c.loop-i.invariant c.loop-i-test.true _ _
    (detours_left c.args.n c.args.froms c.args.tos c.requires.n_bound (omega arith) (omega arith) c.loop-i.i c.loop-i-test.true) _ (omega arith) _ _ c.put_pair_line-next.ensures

pub returns : goal.returns
returns c =
    lines_put _ _ _ _ _ c.requires.n_in_bounds _ _ _ _ c.loop-i.invariant (omega arith)
    (detours_over c.args.n c.args.froms c.args.tos c.requires.n_bound (omega arith) (omega arith) c.loop-i.i (omega arith))
