-- Out of the row, the boarding by value with the other rows lent on, back into the row.
use Rattle.desk_rows.proofs.Thin.{boarded_so_lem}
use Rattle.desk_rows.proofs.board.Goals as goal

pub returns : goal.returns
returns c = boarded_so_lem _ _ _ _ _ _ _ _ c.copy_out-row.ensures c.board_in-done.ensures c.copy_in.ensures
