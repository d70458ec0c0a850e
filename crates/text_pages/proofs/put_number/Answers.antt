-- The fewest digits that hold the number are its text.
use Rattle.text_pages.proofs.Pages.{put_none, room_left_lem, put_number_lem}
use Rattle.text_pages.proofs.put_number.Goals as goal

pub returns-then-lacks_room : goal.returns-then-lacks_room
returns-then-lacks_room c = put_none c.lacks_room.ensures c.if-lacks_room.true

pub returns : goal.returns
returns c =
    put_number_lem _ _ _ _ _ _ _ (room_left_lem _ _ c.lacks_room.ensures c.if-lacks_room.false) c.ranges.number.fits c.decimal-places.ensures.len c.decimal-places.ensures.digits c.put.ensures
