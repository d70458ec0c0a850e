use Rattle.tape_files.proofs.Placing.{placed_within}
use Rattle.tape_files.proofs.places.next_named.Goals as goal

pub named_from-requires : goal.named_from-requires
named_from-requires c = rw c.place_in.ensures (placed_within _ _)
