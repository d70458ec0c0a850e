use Rattle.std.proofs.lemmas.List.{length_push}
use Rattle.runs.proofs.Entries.{entries_none, bad_by_itself, bad_against, entry_passed}
use Rattle.runs.proofs.Pairs.{turn}
use Rattle.runs.proofs.lists.first_bad_entry.Goals as goal
use Rattle.runs.proofs.lists.first_bad_entry.Goals.{then-bad_alone-via-then-bad_alone, then-bad_alone-via-else-bad_alone+then-clashes}

pub loop-i-init : goal.loop-i-init
loop-i-init c = entries_none _ _ _ _

pub returns-then-bad_alone : goal.returns-then-bad_alone
returns-then-bad_alone c =
    let t = turn c.args.froms.now c.args.tos.now _ c.into_iter-i-iterator.result c.loop-i.i-iterator c.next.new.self c.loop-i.yielded_by _ _ c.in-Some.is c.next.ensures.steps (cc) (cc) (cc) in
    rw t.index
    (elim c.then-bad_alone.branch [
      | then-bad_alone-via-then-bad_alone w ↦ bad_by_itself _ _ _ _ _ c.loop-i.invariant t.within _ (rw (t.first, t.second) at c.bad_alone.ensures) w.if-bad_alone.true
      | then-bad_alone-via-else-bad_alone+then-clashes w ↦ bad_against _ _ _ _ _ c.loop-i.invariant t.within _ (rw (t.first, t.second) at c.bad_alone.ensures) _ (rw t.index at w.clashes.ensures) w.if-clashes.true
    ])

pub loop-i-preserved : goal.loop-i-preserved
loop-i-preserved c =
    let t = turn c.args.froms.now c.args.tos.now _ c.into_iter-i-iterator.result c.loop-i.i-iterator c.next.new.self c.loop-i.yielded_by _ _ c.in-Some.is c.next.ensures.steps (cc) (cc) (cc) in
    rw length_push (entry_passed _ _ _ _ _ c.loop-i.invariant t.within _ (rw (t.first, t.second) at c.bad_alone.ensures) _ (rw t.index at c.clashes.ensures) c.if-bad_alone.false c.if-clashes.false)
