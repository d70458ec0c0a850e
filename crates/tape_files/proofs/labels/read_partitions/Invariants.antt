use Rattle.std.proofs.Common.{length, [], ◌∷◌}
use Rattle.tape_markup.specs.Places.{tokens_at}
use Rattle.tape_files.specs.Index.{partitions_name, data_name}
use Rattle.tape_files.specs.Values.{letter_field}
use Rattle.tape_files.proofs.Bare.{ReadTo, field_step}
use Rattle.tape_files.proofs.labels.read_partitions.Given as goal

-- The elements left say, with what is known, what all say.
abbrev pub invariant-loop-inner : goal.invariant-loop-inner
invariant-loop-inner l = ReadTo (field_step letter_field (data_name ∷ [])) partitions_name l.text l.initial.here l.initial.partition l.partition l.here

abbrev pub decreases-loop-inner : goal.decreases-loop-inner
decreases-loop-inner l = length (tokens_at l.text l.here)
