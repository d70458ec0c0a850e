-- What the values in an element say, and those of one name together: of a label, and of an extent.
use Rattle.std.specs.Prelude.{ℕ, Bool, true, false, cond, ◌&&◌, Option, Some, None, Result, Ok, Err, List, [], ◌∷◌}
use Rattle.text_bytes.specs.Text.{is_number, value_of}
use Rattle.tape_markup.specs.Tree.{Forest}
use Rattle.tape_files.specs.declared.BadValue.{BadValue}
use Rattle.tape_files.specs.declared.Label.{Label}
use Rattle.tape_files.specs.declared.ExtentSaid.{ExtentSaid}
use Rattle.tape_files.specs.Index.{values_at, is_partition, letter_of, block_sizes, data_partitions, partition_name, start_block_name, byte_offset_name, byte_count_name}

-- What one value says, and what the values of one name say: the first counts, and one that is bad spoils all. Where there is none, nothing is said.
abbrev pub Field : Type 0
Field = Result (Option ℕ) BadValue

abbrev pub bad_value : Field
bad_value = Err (record {})

unfoldable pub number_field : List ℕ → Field
number_field bytes = cond (is_number bytes) (Ok (Some (value_of bytes))) bad_value

unfoldable pub letter_field : List ℕ → Field
letter_field bytes = cond (is_partition bytes) (Ok (Some (letter_of bytes))) bad_value

abbrev pub first_field : Field → Field → Field
first_field (Ok None) later = later
first_field (Err bad) later = Err bad
first_field (Ok (Some n)) (Ok None) = Ok (Some n)
first_field (Ok (Some n)) (Ok (Some m)) = Ok (Some n)
first_field (Ok (Some n)) (Err bad) = Err bad

unfoldable pub field_from : (List ℕ → Field) → Field → List (List ℕ) → Field
field_from form field [] = field
field_from form field (value ∷ values) = field_from form (first_field field (form value)) values

-- What the values at the end of a path say.
unfoldable pub field_at : (List ℕ → Field) → List (List ℕ) → Forest → Field
field_at form path held = field_from form (Ok None) (values_at path held)

abbrev pub is_value : Field → Bool
is_value (Ok None) = false
is_value (Ok (Some n)) = true
is_value (Err bad) = false

abbrev pub value_in : Field → ℕ
value_in (Ok None) = 0
value_in (Ok (Some n)) = n
value_in (Err bad) = 0

-- What a whole label says.
unfoldable pub label_of : Forest → Label
label_of label =
    record {
      size = field_from number_field (Ok None) (block_sizes label);
      partition = field_from letter_field (Ok None) (data_partitions label);
    }

-- What an `extent` element says.
unfoldable pub extent_of : Forest → ExtentSaid
extent_of held =
    record {
      partition = field_at letter_field (partition_name ∷ []) held;
      block = field_at number_field (start_block_name ∷ []) held;
      offset = field_at number_field (byte_offset_name ∷ []) held;
      count = field_at number_field (byte_count_name ∷ []) held;
    }

unfoldable pub extent_is_good : ExtentSaid → Bool
extent_is_good extent =
    is_value extent.partition && is_value extent.block && is_value extent.offset && is_value extent.count
