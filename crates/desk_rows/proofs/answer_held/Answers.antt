-- The answer on the table lent as a row.
use Rattle.std.proofs.Common.{rules}
use Rattle.desk_rows.proofs.Events.{held_so}
use Rattle.desk_rows.proofs.answer_held.Goals as goal

pub returns : goal.returns
returns c = held_so c.args.lasts _ _ _ _ _ _ c.args.row (search rules) _ c.answer-told.result c.answer-told.ensures _ c.told_row.ensures
