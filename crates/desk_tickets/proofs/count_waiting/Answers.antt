use Rattle.std.proofs.Common.{arith, sym, ◌∙◌}
use Rattle.desk_tickets.proofs.Halves.{half_long, half_place, counted_more, counted_to_empty, counted_all}
use Rattle.desk_tickets.proofs.count_waiting.Goals as goal

pub returns-then-is_empty : goal.returns-then-is_empty
returns-then-is_empty c =
    let within = half_long c.args.office _ c.args.row c.first_place-first.ensures (omega arith) in
    let here = half_place c.args.office _ c.args.row c.first_place-first.ensures (omega arith) _ c.loop-n-test.true in
    counted_to_empty _ _ c.loop-n.invariant (omega arith) (rw here (sym c.is_empty.ensures ∙ c.if-is_empty.true))

pub loop-n-preserved : goal.loop-n-preserved
loop-n-preserved c =
    let within = half_long c.args.office _ c.args.row c.first_place-first.ensures (omega arith) in
    let here = half_place c.args.office _ c.args.row c.first_place-first.ensures (omega arith) _ c.loop-n-test.true in
    counted_more _ _ c.loop-n.invariant (omega arith) (rw here (sym c.is_empty.ensures ∙ c.if-is_empty.false))

pub returns : goal.returns
returns c =
    let within = half_long c.args.office _ c.args.row c.first_place-first.ensures (omega arith) in
    omega (arith, counted_all _ _ c.loop-n.invariant (omega arith))
