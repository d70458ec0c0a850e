use Rattle.tape_files.proofs.Placing.{placed_within}
use Rattle.tape_files.proofs.places.leave.Goals as goal

pub past_end-requires : goal.past_end-requires
past_end-requires c = rw c.place_in.ensures (placed_within _ _)
