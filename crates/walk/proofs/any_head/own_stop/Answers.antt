use Rattle.std.proofs.Common.{◌-◌, get_or, arith}
use Rattle.runs.proofs.Members.{first_below}
use Rattle.walk.proofs.OwnStop.{own_here, looking_on, own_nowhere}
use Rattle.walk.proofs.any_head.own_stop.Goals as goal

pub overflow_add-result : goal.overflow_add-result
overflow_add-result c =
    omega (arith, c.type_inv.numbers c.loop-file.file-index, c.first_member.ensures, first_below c.args.aggregates.now (get_or c.args.numbers.now c.loop-file.file-index 0 - 1))

pub returns-then-head-extent_start : goal.returns-then-head-extent_start
returns-then-head-extent_start c =
    rw c.first_member.ensures
    (own_here _ _ _ _ _ c.loop-file.invariant c.loop-file-test.true (c.requires c.loop-file.file-index c.loop-file-test.true).least (omega (arith, c.extent_start.ensures, c.if-head-extent_start.true)))

pub loop-file-preserved : goal.loop-file-preserved
loop-file-preserved c =
    looking_on _ _ _ _ _ c.loop-file.invariant c.loop-file-test.true (omega (arith, c.extent_start.ensures, c.if-head-extent_start.false))

pub returns : goal.returns
returns c = own_nowhere _ _ _ _ _ c.loop-file.invariant c.loop-file-test.false
