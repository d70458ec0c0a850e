-- The boarding by value on the table in the row, and what it leaves.
use Rattle.planner.specs.Rows.{rows_of}
use Rattle.desk_boardings.specs.Boardings.{Tape}
use Rattle.boundary_desk.proofs.Answers.{can_settle, board_called}
use Rattle.boundary_desk.proofs.violstream_board.Goals as goal

pub settle-requires : goal.settle-requires
settle-requires c =
    let a = c.args in
    let tape : Tape = record { starts = a.starts.now; lengths = a.lengths.now; aggregates = a.aggregates.now } in
    can_settle a.tickets.now a.lasts.now tape a.head a.turn (rows_of a.detour_starts.now a.detour_ends.now a.times.now a.legs.now a.room.now) a.taken.now a.sums.now _ _ _ _ _ _ _
    c.table_at-row.ensures c.lasts_in-numbers.ensures c.places_if-with_lasts.ensures c.places_if-with_taken.ensures c.places_if-len.ensures c.board_in-done.ensures

pub returns : goal.returns
returns c =
    let a = c.args in
    let tape : Tape = record { starts = a.starts.now; lengths = a.lengths.now; aggregates = a.aggregates.now } in
    board_called a.tickets.now a.lasts.now tape a.head a.turn (rows_of a.detour_starts.now a.detour_ends.now a.times.now a.legs.now a.room.now) a.taken.now a.sums.now _ _ _ _ _ _ _
    c.table_at-row.ensures c.lasts_in-numbers.ensures c.places_if-with_lasts.ensures c.places_if-with_taken.ensures c.places_if-len.ensures c.board_in-done.ensures
    _ _ _ _ c.settle.ensures
