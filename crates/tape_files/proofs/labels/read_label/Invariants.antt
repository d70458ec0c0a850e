use Rattle.std.proofs.Common.{length, [], ◌∷◌}
use Rattle.tape_markup.specs.Places.{tokens_at}
use Rattle.tape_files.specs.Index.{label_name, block_size_name, partitions_name, data_name}
use Rattle.tape_files.specs.Values.{number_field, letter_field}
use Rattle.tape_files.proofs.Bare.{ReadTo, field_step}
use Rattle.tape_files.proofs.labels.read_label.Given as goal

-- The elements left say, with what is known, what all say.
abbrev pub invariant-loop-inner : goal.invariant-loop-inner
invariant-loop-inner l = record {
  sizes : ReadTo (field_step number_field (block_size_name ∷ [])) label_name l.text l.initial.here l.initial.size l.size l.here;
  partitions : ReadTo (field_step letter_field (partitions_name ∷ data_name ∷ [])) label_name l.text l.initial.here l.initial.partition l.partition l.here;
}

abbrev pub decreases-loop-inner : goal.decreases-loop-inner
decreases-loop-inner l = length (tokens_at l.text l.here)
