-- Measured, and written where it is to be written and goes in.
use Rattle.sheet_picks.proofs.Laying.{part_size, name_measured, name_over, name_put}
use Rattle.sheet_picks.proofs.names.put_name.Goals as goal

pub returns-then-not-writing : goal.returns-then-not-writing
returns-then-not-writing c =
    rw c.if-not-writing.true (name_measured c.args.row.now _ c.args.number c.args.reads c.args.path.now _ _ _ c.put_head-size.ensures _ c.next_at-next.ensures)

pub returns-then-row-next : goal.returns-then-row-next
returns-then-row-next c =
    name_over c.args.row.now _ c.args.number c.args.reads c.args.path.now _ _ _ c.put_head-size.ensures _ c.next_at-next.ensures c.if-row-next.true _ c.if-not-writing.false

pub slice_bounds-put-end : goal.slice_bounds-put-end
slice_bounds-put-end c = part_size _ _ _ _ _ c.put_head-size.ensures

pub returns : goal.returns
returns c =
    name_put c.args.row.now _ c.args.number c.args.reads c.args.path.now _ _ _ c.put_head-size.ensures _ c.next_at-next.ensures c.if-row-next.false _ _ c.put-path_at.ensures _ _ c.put_line.ensures _ c.if-not-writing.false
