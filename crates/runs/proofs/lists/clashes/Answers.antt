use Rattle.std.proofs.Common.{length, take}
use Rattle.std.proofs.lemmas.List.{length_push}
use Rattle.std.proofs.lemmas.Slice.Zip.{zip_turn}
use Rattle.runs.proofs.Entries.{unclashed_none, clash_found, unclashed_more, earlier_number}
use Rattle.runs.proofs.lists.clashes.Goals as goal

pub loop-earlier_from-init : goal.loop-earlier_from-init
loop-earlier_from-init c = unclashed_none _ _ _

pub returns-then-bad_after : goal.returns-then-bad_after
returns-then-bad_after c =
    let t = zip_turn (take c.args.i c.args.froms.now) (take c.args.i c.args.tos.now) c.loop-earlier_from.yielded c.into_iter-earlier_from-iterator.result c.loop-earlier_from.earlier_from-iterator c.next.new.self _ (cc) (cc) c.loop-earlier_from.yielded_by _ c.in-Some.is c.next.ensures.steps in
    let from = earlier_number c.args.froms.now c.args.i (length c.loop-earlier_from.yielded) c.in-Some.earlier_from.now t.0 t.2 in
    let to = earlier_number c.args.tos.now c.args.i (length c.loop-earlier_from.yielded) c.in-Some.earlier_to.now t.1 t.3 in
    clash_found _ _ _ _ c.loop-earlier_from.invariant _ (rw (from.1, to.1) at c.bad_after.ensures) from.0 c.if-bad_after.true

pub loop-earlier_from-preserved : goal.loop-earlier_from-preserved
loop-earlier_from-preserved c =
    let t = zip_turn (take c.args.i c.args.froms.now) (take c.args.i c.args.tos.now) c.loop-earlier_from.yielded c.into_iter-earlier_from-iterator.result c.loop-earlier_from.earlier_from-iterator c.next.new.self _ (cc) (cc) c.loop-earlier_from.yielded_by _ c.in-Some.is c.next.ensures.steps in
    let from = earlier_number c.args.froms.now c.args.i (length c.loop-earlier_from.yielded) c.in-Some.earlier_from.now t.0 t.2 in
    let to = earlier_number c.args.tos.now c.args.i (length c.loop-earlier_from.yielded) c.in-Some.earlier_to.now t.1 t.3 in
    rw length_push (unclashed_more _ _ _ _ c.loop-earlier_from.invariant _ (rw (from.1, to.1) at c.bad_after.ensures) from.0 c.if-bad_after.false)
