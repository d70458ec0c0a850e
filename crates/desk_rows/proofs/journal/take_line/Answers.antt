-- A remark is passed over, an event answered.
use Rattle.desk_rows.proofs.Remarks.{line_passed, line_answered}
use Rattle.desk_rows.proofs.journal.take_line.Goals as goal

pub returns-then-is_remark : goal.returns-then-is_remark
returns-then-is_remark c = rw c.accepted.ensures (line_passed _ _ _ _ _ _ _ c.is_remark.ensures c.if-is_remark.true)

pub returns : goal.returns
returns c = line_answered _ _ _ _ _ _ _ c.is_remark.ensures _ _ _ c.if-is_remark.false c.answer_held.ensures
