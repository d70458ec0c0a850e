use Rattle.tape_files.proofs.Placing.{placed_within}
use Rattle.tape_files.proofs.places.next_child.Goals as goal

pub child_from-requires : goal.child_from-requires
child_from-requires c = rw c.place_in.ensures (placed_within _ _)
