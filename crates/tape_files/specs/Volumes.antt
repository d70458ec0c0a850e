-- Which volume a text says, and whether label and index say different ones.
use Rattle.std.specs.Prelude.{ℕ, Bool, not, ◌&&◌, List, [], ◌∷◌}
use Rattle.text_bytes.specs.Text.{bytes, is_text}
use Rattle.tape_markup.specs.Tree.{Forest}
use Rattle.tape_files.specs.Index.{label_name, index_name, values_at, first_value, is_none}

-- Both texts say their volume directly in `ltfslabel` and `ltfsindex`, and what they say first differs, as it is written.
abbrev pub volume_name : List ℕ
volume_name = bytes "volumeuuid"

abbrev pub volumes_in : List ℕ → Forest → List (List ℕ)
volumes_in root forest = values_at (root ∷ volume_name ∷ []) forest

abbrev pub differ : List (List ℕ) → List (List ℕ) → Bool
differ label index = not (is_none label) && not (is_none index) && not (is_text (first_value label) (first_value index))

unfoldable pub other_volume : Forest → Forest → Bool
other_volume label index = differ (volumes_in label_name label) (volumes_in index_name index)
