use Rattle.std.proofs.Common.{ap, ◌∙◌, [], ◌∷◌}
use Rattle.tape_files.specs.Index.{partitions_name, data_name}
use Rattle.tape_files.specs.Values.{letter_field, first_field}
use Rattle.tape_files.proofs.Bare.{read_more, read_over, field_step, field_said}
use Rattle.tape_files.proofs.labels.read_partitions.Goals as goal

pub loop-inner-preserved : goal.loop-inner-preserved
loop-inner-preserved c =
    read_more (field_step letter_field (data_name ∷ [])) _ _ _ _ _ _ c.loop-inner.invariant _ _ _ c.in-Ok.ensures c.read_field-read.ensures.2
    (c.first_field-partition.ensures ∙ ap (first_field c.loop-inner.partition) c.read_field-read.ensures.0)

pub returns-in-Err : goal.returns-in-Err
returns-in-Err c =
    let read = read_over (field_step letter_field (data_name ∷ [])) _ _ _ _ _ _ c.loop-inner.invariant _ c.in-Err.ensures in
    (read.0 ∙ field_said letter_field (data_name ∷ []) partitions_name _, read.1)
