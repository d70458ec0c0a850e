use borrow.Author.Tests.{lt-ltb, le-ltb}
use Rattle.walk.proofs.OwnStop.{passing_start, found_first, past_here, passing_on}
use Rattle.walk.proofs.any_head.first_past.Goals as goal

pub loop-i-init : goal.loop-i-init
loop-i-init c = passing_start _ _ _

pub returns-then-place-found : goal.returns-then-place-found
returns-then-place-found c = found_first _ _ _ _ c.loop-i.invariant c.if-place-found.true

pub returns-then-own-from : goal.returns-then-own-from
returns-then-own-from c = past_here _ _ _ _ c.loop-i.invariant c.if-place-found.false c.loop-i-test.true (lt-ltb _ _ c.if-own-from.true)

pub loop-i-preserved : goal.loop-i-preserved
loop-i-preserved c = passing_on _ _ _ _ c.loop-i.invariant c.if-place-found.false c.loop-i-test.true (le-ltb _ _ c.if-own-from.false)
