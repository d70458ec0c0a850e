use Rattle.std.proofs.Common.{rules}
use native.Mathlib.Omega.{arith}
use Rattle.text_pages.proofs.Pages.{room_left_lem, putting_none, putting_long, byte_put, text_put}
use Rattle.text_pages.proofs.put.Goals as goal

pub loop-i-init : goal.loop-i-init
loop-i-init c = putting_none _ _ _

pub bounds-page-at : goal.bounds-page-at
bounds-page-at c =
    let room = room_left_lem _ _ c.lacks_room.ensures c.if-lacks_room.false in
    let long = putting_long _ _ _ room _ _ c.loop-i.invariant in
    omega (arith, room, long)

pub loop-i-preserved : goal.loop-i-preserved
loop-i-preserved c = byte_put _ _ _ (room_left_lem _ _ c.lacks_room.ensures c.if-lacks_room.false) _ _ c.loop-i.invariant (search rules)

pub returns : goal.returns
returns c = text_put _ _ _ (room_left_lem _ _ c.lacks_room.ensures c.if-lacks_room.false) _ _ c.loop-i.invariant (search rules)
