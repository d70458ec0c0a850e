use Rattle.std.proofs.Common.{arith}
use Rattle.text_pages.proofs.Pages.{line_wrote, lines_put}
use Rattle.desk_waits.proofs.Lines.{part_long, waits_left, waits_over}
use Rattle.desk_waits.proofs.put_waits.Goals as goal

pub loop-i-preserved : goal.loop-i-preserved
loop-i-preserved c =
    let long = part_long c.args.row (omega arith) c.args.first c.args.n c.requires.n_bound in
    line_wrote _ _ _ _ _ c.requires.n_in_bounds _ _ _ _ c.loop-i.invariant (omega arith) _ _
    (waits_left c.args.row (omega arith) c.args.first c.args.n c.requires.n_bound c.loop-i.i (omega arith)) _ (omega arith) _ _ c.put_wait-next.ensures

pub returns : goal.returns
returns c =
    let long = part_long c.args.row (omega arith) c.args.first c.args.n c.requires.n_bound in
    lines_put _ _ _ _ _ c.requires.n_in_bounds _ _ _ _ c.loop-i.invariant (omega arith)
    (waits_over c.args.row (omega arith) c.args.first c.args.n c.requires.n_bound c.loop-i.i (omega arith))
