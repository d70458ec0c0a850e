-- The boarding on a row that takes its text.
use Rattle.answer_desk.proofs.Rehearsing.{board_fits}
use Rattle.answer_desk.proofs.board.Goals as goal

pub returns : goal.returns
returns c =
    let a = c.args in
    board_fits a.len _ a.day a.boarding _ _ _ c.needed-bytes.ensures _ _ _ c.if-out-bytes.false c.board_now.ensures
