use Rattle.tape_files.proofs.Placing.{placed_within}
use Rattle.tape_files.proofs.places.read_extent.Goals as goal

pub extent_from-requires : goal.extent_from-requires
extent_from-requires c = rw c.place_in.ensures (placed_within _ _)
