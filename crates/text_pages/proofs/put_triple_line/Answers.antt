-- The key, the pair, the comma with the third number and the LF.
use native.Mathlib.Omega.{arith}
use Rattle.text_pages.proofs.Pages.{put_none, room_left_lem, put_three, put_triple}
use Rattle.text_pages.proofs.put_triple_line.Goals as goal

pub returns-then-lacks_room : goal.returns-then-lacks_room
returns-then-lacks_room c = put_none c.lacks_room.ensures c.if-lacks_room.true

pub returns : goal.returns
returns c =
    let r = room_left_lem _ _ c.lacks_room.ensures c.if-lacks_room.false in
    let a = c.args in
    put_triple a.key.now a.first a.second a.third (put_three _ r (omega arith) c.put-value.ensures c.put_pair-last_comma.ensures c.put_number_line.ensures)
