use Rattle.std.proofs.Common.{arith}
use Rattle.std.proofs.lemmas.List.{length_push}
use Rattle.runs.proofs.Accepted.{files_none, bad_place_found, file_passed, end_fits}
use Rattle.runs.proofs.Pairs.{turn}
use Rattle.runs.proofs.judging.first_bad_place.Goals as goal

pub loop-i-init : goal.loop-i-init
loop-i-init c = files_none _ _

pub returns-then-bad_place : goal.returns-then-bad_place
returns-then-bad_place c =
    let t = turn c.args.starts.now c.args.lengths.now _ c.into_iter-i-iterator.result c.loop-i.i-iterator c.next.new.self c.loop-i.yielded_by _ _ c.in-Some.is c.next.ensures.steps (cc) (cc) (cc) in
    rw t.index (bad_place_found _ _ _ _ c.loop-i.invariant t.within _ (rw (t.first, t.second) at c.bad_place.ensures) c.if-bad_place.true)

pub overflow_add-before : goal.overflow_add-before
overflow_add-before c =
    let t = turn c.args.starts.now c.args.lengths.now _ c.into_iter-i-iterator.result c.loop-i.i-iterator c.next.new.self c.loop-i.yielded_by _ _ c.in-Some.is c.next.ensures.steps (cc) (cc) (cc) in
    omega (arith, end_fits _ _ _ _ c.loop-i.invariant t.within _ (rw (t.first, t.second) at c.bad_place.ensures) c.if-bad_place.false)

pub loop-i-preserved : goal.loop-i-preserved
loop-i-preserved c =
    let t = turn c.args.starts.now c.args.lengths.now _ c.into_iter-i-iterator.result c.loop-i.i-iterator c.next.new.self c.loop-i.yielded_by _ _ c.in-Some.is c.next.ensures.steps (cc) (cc) (cc) in
    rw (length_push, t.first, t.second) (file_passed _ _ _ _ c.loop-i.invariant t.within _ (rw (t.first, t.second) at c.bad_place.ensures) c.if-bad_place.false)
