use Rattle.std.proofs.lemmas.List.{length_push}
use Rattle.runs.proofs.Accepted.{wants_none, bad_want_found, want_passed}
use Rattle.runs.proofs.Pairs.{turn}
use Rattle.runs.proofs.judging.first_bad_want.Goals as goal

pub loop-i-init : goal.loop-i-init
loop-i-init c = wants_none _ _ _

pub returns-then-bad_want : goal.returns-then-bad_want
returns-then-bad_want c =
    let t = turn c.args.numbers.now c.args.counts.now _ c.into_iter-i-iterator.result c.loop-i.i-iterator c.next.new.self c.loop-i.yielded_by _ _ c.in-Some.is c.next.ensures.steps (cc) (cc) (cc) in
    rw t.index (bad_want_found _ _ _ _ _ c.loop-i.invariant t.within _ (rw (t.first, t.second) at c.bad_want.ensures) c.if-bad_want.true)

pub loop-i-preserved : goal.loop-i-preserved
loop-i-preserved c =
    let t = turn c.args.numbers.now c.args.counts.now _ c.into_iter-i-iterator.result c.loop-i.i-iterator c.next.new.self c.loop-i.yielded_by _ _ c.in-Some.is c.next.ensures.steps (cc) (cc) (cc) in
    rw (length_push, t.first) (want_passed _ _ _ _ _ c.loop-i.invariant t.within _ (rw (t.first, t.second) at c.bad_want.ensures) c.if-bad_want.false)
