use Rattle.std.proofs.Common.{arith}
use Rattle.text_pages.proofs.Pages.{line_room, line_wrote, lines_put}
use Rattle.answer_desk.proofs.Looking.{part_long, tickets_left, tickets_over}
use Rattle.answer_desk.proofs.pages.put_tickets.Goals as goal

pub put_closed-next-requires : goal.put_closed-next-requires
put_closed-next-requires c =
    let long = part_long c.args.reads c.args.row (omega arith) c.args.first c.args.n c.requires.n_bound c.loop-t.t-index in
    line_room _ _ _ _ _ c.requires.n_in_bounds _ _ _ _ c.loop-t.invariant (omega arith)

pub loop-t-preserved : goal.loop-t-preserved
loop-t-preserved c =
    let long = part_long c.args.reads c.args.row (omega arith) c.args.first c.args.n c.requires.n_bound c.loop-t.t-index in
    line_wrote _ _ _ _ _ c.requires.n_in_bounds _ _ _ _ c.loop-t.invariant (omega arith) _ _
    (tickets_left c.args.reads c.args.row (omega arith) c.args.first c.args.n c.requires.n_bound c.loop-t.t-index (omega arith)) _ (omega arith) _ _ c.put_closed-next.ensures

pub returns : goal.returns
returns c =
    let long = part_long c.args.reads c.args.row (omega arith) c.args.first c.args.n c.requires.n_bound c.loop-t.t-index in
    lines_put _ _ _ _ _ c.requires.n_in_bounds _ _ _ _ c.loop-t.invariant (omega arith)
    (tickets_over c.args.reads c.args.row (omega arith) c.args.first c.args.n c.requires.n_bound c.loop-t.t-index (omega arith))
