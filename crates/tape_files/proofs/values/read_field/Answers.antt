use Rattle.std.proofs.Common.{ap, sym, ◌∙◌, []}
use Rattle.tape_files.specs.Values.{number_field, letter_field, first_field}
use Rattle.tape_files.proofs.Bare.{read_more, read_over, field_step, field_said, value_said}
use Rattle.tape_files.proofs.values.read_field.Goals as goal

pub loop-inner-preserved : goal.loop-inner-preserved
loop-inner-preserved c =
    let value = c.read_value-read.ensures in
    record {
      letters = read_more (field_step letter_field []) _ _ _ _ _ _ c.loop-inner.invariant.letters _ _ _ c.in-Ok.ensures value.2
          (c.first_field-letter.ensures ∙ ap (first_field c.loop-inner.letter) (value.0 ∙ sym (value_said letter_field _)));
      numbers = read_more (field_step number_field []) _ _ _ _ _ _ c.loop-inner.invariant.numbers _ _ _ c.in-Ok.ensures value.2
          (c.first_field-number.ensures ∙ ap (first_field c.loop-inner.number) (value.1 ∙ sym (value_said number_field _)));
    }

pub returns-in-Err : goal.returns-in-Err
returns-in-Err c =
    let letter = read_over (field_step letter_field []) _ _ _ _ _ _ c.loop-inner.invariant.letters _ c.in-Err.ensures in
    let number = read_over (field_step number_field []) _ _ _ _ _ _ c.loop-inner.invariant.numbers _ c.in-Err.ensures in
    (letter.0 ∙ field_said letter_field [] _ _, number.0 ∙ field_said number_field [] _ _, letter.1)
