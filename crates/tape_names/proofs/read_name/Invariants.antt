use Rattle.std.proofs.Common.{length}
use Rattle.tape_markup.specs.Places.{tokens_at}
use Rattle.tape_names.proofs.Names.{NameLeft}
use Rattle.tape_names.proofs.read_name.Given as goal

-- The bytes left make of what is known what all make.
abbrev pub invariant-loop-met : goal.invariant-loop-met
invariant-loop-met l = NameLeft l.list l.starts l.ends l.order l.fn.range l.text l.fn.place l.naming l.here

abbrev pub decreases-loop-met : goal.decreases-loop-met
decreases-loop-met l = length (tokens_at l.text l.here)
