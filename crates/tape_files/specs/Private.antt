-- For the contracts of private functions alone: the bytes of a value, the elements of an extent, and volumes. No public contract cites this file.
use Rattle.std.specs.Prelude.{ℕ, ◌+◌, ◌-◌, ◌*◌, ◌^◌, ◌≡◌, Bool, true, false, cond, ◌&&◌, Option, Some, None, is_some, unwrap_or, Result, Ok, Err, List, [], ◌∷◌, eqb, ltb}
use Prim.Native.Char.{code}
use Rattle.text_bytes.specs.Text.{is_text, is_digit}
use Rattle.tape_markup.specs.declared.Place.{Place}
use Rattle.tape_markup.specs.Places.{PlaceIn}
use Rattle.tape_markup.specs.Tree.{Forest, none, char, element, tree_of}
use Rattle.tape_files.specs.declared.ExtentSaid.{ExtentSaid}
use Rattle.tape_files.specs.declared.Use.{Use}
use Rattle.tape_files.specs.declared.values.Chars.{Chars}
use Rattle.tape_files.specs.Index.{chars_of, partition_name, start_block_name, byte_offset_name, byte_count_name}
use Rattle.tape_files.specs.Elements.{inside}
use Rattle.tape_files.specs.Volumes.{volumes_in}
use Rattle.tape_files.specs.Values.{Field, number_field, letter_field, first_field}

-- What is known before the first byte.
abbrev pub no_chars : Chars
no_chars = record { first = None; more = false; value = None }

-- The value of a byte that is a digit.
abbrev pub digit_of : ℕ → ℕ
digit_of byte = byte - code "0"

abbrev pub grows : ℕ → ℕ → Bool
grows value byte = is_digit byte && ltb (value * 10 + digit_of byte) (2 ^ 64)

abbrev pub grown : ℕ → ℕ → Option ℕ
grown value byte = cond (grows value byte) (Some (value * 10 + digit_of byte)) None

-- The number with one byte more: the first begins it, and nothing follows a leading zero.
abbrev pub number_with : Option ℕ → Option ℕ → ℕ → Option ℕ
number_with None value byte = grown 0 byte
number_with (Some first) None byte = None
number_with (Some first) (Some value) byte = cond (eqb first (code "0")) None (grown value byte)

unfoldable pub with_byte : Chars → ℕ → Chars
with_byte chars byte =
    record {
      first = Some (unwrap_or chars.first byte);
      more = is_some chars.first;
      value = number_with chars.first chars.value byte;
    }

unfoldable pub chars_from : Chars → List ℕ → Chars
chars_from chars [] = chars
chars_from chars (b ∷ bytes) = chars_from (with_byte chars b) bytes

abbrev pub enter_if : Bool → Use
enter_if true = Use.Enter
enter_if false = Use.Skip

-- What an extent says before its first element, with one element more, and with many.
abbrev pub joined_if : Bool → Field → Field → Field
joined_if named field later = cond named (first_field field later) field

abbrev pub nothing_said : ExtentSaid
nothing_said = record { partition = Ok None; block = Ok None; offset = Ok None; count = Ok None }

abbrev pub said_with : ExtentSaid → List ℕ → Field → Field → ExtentSaid
said_with said name letter number =
    record {
      partition = joined_if (is_text partition_name name) said.partition letter;
      block = joined_if (is_text start_block_name name) said.block number;
      offset = joined_if (is_text byte_offset_name name) said.offset number;
      count = joined_if (is_text byte_count_name name) said.count number;
    }

unfoldable pub said_from : ExtentSaid → Forest → ExtentSaid
said_from said none = said
said_from said (char b rest) = said_from said rest
said_from said (element name held rest) = said_from (said_with said name (letter_field (chars_of held)) (number_field (chars_of held))) rest

-- Where the first volume that a text says begins; or it says none.
pub record VolumeAt (root text : List ℕ) (next : Place) : Type 0 where
  pub within : PlaceIn text next
  pub others : List (List ℕ)
  pub here : volumes_in root (tree_of text) ≡ chars_of (inside text next) ∷ others

abbrev pub VolumeMet : List ℕ → List ℕ → Result Place Place → Type 0
VolumeMet root text (Ok next) = VolumeAt root text next
VolumeMet root text (Err next) = volumes_in root (tree_of text) ≡ []
