use Rattle.std.proofs.Common.{arith, ◌∙◌, eq-eqb, ne_eqb}
use Rattle.desk_tickets.proofs.Leaving.{sought_more, sought_here, sought_all, waiting_place, waiting_here}
use Rattle.desk_tickets.proofs.index_of.Goals as goal

pub overflow_add-first : goal.overflow_add-first
overflow_add-first c = omega (arith, waiting_place c.args.office c.args.row (omega arith) _ c.first_place-first.ensures _ c.count_waiting-n.ensures _ c.loop-i-test.true)

pub offset_bounds-row-first : goal.offset_bounds-row-first
offset_bounds-row-first c = omega (arith, waiting_place c.args.office c.args.row (omega arith) _ c.first_place-first.ensures _ c.count_waiting-n.ensures _ c.loop-i-test.true)

pub bounds-row-first : goal.bounds-row-first
bounds-row-first c = waiting_place _ c.args.row (omega arith) _ c.first_place-first.ensures _ c.count_waiting-n.ensures _ c.loop-i-test.true

pub returns-then-row-first : goal.returns-then-row-first
returns-then-row-first c =
    let here = waiting_here c.args.office c.args.row (omega arith) _ c.first_place-first.ensures _ c.count_waiting-n.ensures _ c.loop-i-test.true in
    sought_here _ _ _ c.loop-i.invariant (omega arith) (rw (← here) (eq-eqb _ _ c.if-row-first.true))

pub loop-i-preserved : goal.loop-i-preserved
loop-i-preserved c =
    let here = waiting_here c.args.office c.args.row (omega arith) _ c.first_place-first.ensures _ c.count_waiting-n.ensures _ c.loop-i-test.true in
    sought_more _ _ _ c.loop-i.invariant (omega arith) (rw (← here) (ne_eqb _ _ c.if-row-first.false))

pub returns : goal.returns
returns c = c.count_waiting-n.ensures ∙ sought_all _ _ _ c.loop-i.invariant (omega arith)
