use Rattle.tape_files.proofs.Placing.{placed_within}
use Rattle.tape_files.proofs.places.next_byte.Goals as goal

pub byte_from-requires : goal.byte_from-requires
byte_from-requires c = rw c.place_in.ensures (placed_within _ _)
