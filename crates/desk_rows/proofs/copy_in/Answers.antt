use Rattle.std.proofs.Common.{arith}
use Rattle.desk_rows.proofs.Places.{row_from_places}
use Rattle.desk_rows.proofs.copy_in.Goals as goal

pub returns : goal.returns
returns c = rw c.copy_from_slice.ensures.after (row_from_places c.args.ts.now c.min-n.result c.min-n.ensures c.args.row (omega arith))
