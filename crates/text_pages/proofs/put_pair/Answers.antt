-- Two numbers with a comma between them.
use native.Mathlib.Omega.{arith}
use Rattle.text_pages.proofs.Pages.{put_none, room_left_lem, put_three}
use Rattle.text_pages.proofs.put_pair.Goals as goal

pub returns-then-lacks_room : goal.returns-then-lacks_room
returns-then-lacks_room c = put_none c.lacks_room.ensures c.if-lacks_room.true

pub returns : goal.returns
returns c =
    let r = room_left_lem _ _ c.lacks_room.ensures c.if-lacks_room.false in
    put_three _ r (omega arith) c.put_number-comma.ensures c.put-after.ensures c.put_number.ensures
