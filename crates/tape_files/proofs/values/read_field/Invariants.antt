use Rattle.std.proofs.Common.{length, []}
use Rattle.tape_markup.specs.Places.{tokens_at}
use Rattle.tape_files.specs.Values.{number_field, letter_field}
use Rattle.tape_files.proofs.Bare.{ReadTo, field_step}
use Rattle.tape_files.proofs.values.read_field.Given as goal

-- The elements left say, with what is known, what all say.
abbrev pub invariant-loop-inner : goal.invariant-loop-inner
invariant-loop-inner l = record {
  letters : ReadTo (field_step letter_field []) l.name l.text l.initial.here l.initial.letter l.letter l.here;
  numbers : ReadTo (field_step number_field []) l.name l.text l.initial.here l.initial.number l.number l.here;
}

abbrev pub decreases-loop-inner : goal.decreases-loop-inner
decreases-loop-inner l = length (tokens_at l.text l.here)
