use Rattle.desk_rows.proofs.Places.{table_from_places}
use Rattle.desk_rows.proofs.copy_out.Goals as goal

pub returns : goal.returns
returns c = rw c.copy_from_slice.ensures.after (table_from_places c.args.ts.now c.min-n.result c.min-n.ensures)
