use Rattle.std.proofs.Common.{ap, ◌∙◌, [], ◌∷◌}
use Rattle.tape_files.specs.Index.{block_size_name, partitions_name, data_name}
use Rattle.tape_files.specs.Values.{number_field, letter_field, first_field}
use Rattle.tape_files.proofs.Bare.{read_more, read_over, field_step}
use Rattle.tape_files.proofs.Whole.{label_whole}
use Rattle.tape_files.proofs.labels.read_label.Goals as goal

pub loop-inner-preserved : goal.loop-inner-preserved
loop-inner-preserved c =
    let left = c.read_partitions-partitions.ensures.1 in
    record {
      sizes = read_more (field_step number_field (block_size_name ∷ [])) _ _ _ _ _ _ c.loop-inner.invariant.sizes _ _ _ c.in-Ok.ensures left
          (c.first_field-size.ensures ∙ ap (first_field c.loop-inner.size) c.read_field-sizes.ensures.1);
      partitions = read_more (field_step letter_field (partitions_name ∷ data_name ∷ [])) _ _ _ _ _ _ c.loop-inner.invariant.partitions _ _ _ c.in-Ok.ensures left
          (c.first_field-partition.ensures ∙ ap (first_field c.loop-inner.partition) c.read_partitions-partitions.ensures.0);
    }

pub returns : goal.returns
returns c =
    label_whole _ _ _
    (read_over (field_step number_field (block_size_name ∷ [])) _ _ _ _ _ _ c.loop-inner.invariant.sizes _ c.in_default.ensures).0
    (read_over (field_step letter_field (partitions_name ∷ data_name ∷ [])) _ _ _ _ _ _ c.loop-inner.invariant.partitions _ c.in_default.ensures).0
