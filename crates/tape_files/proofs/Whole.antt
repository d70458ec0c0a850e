-- The label: what is said at the end of its two paths.
use Prim.Native.Nat.{ℕ}
use mathlib.Core.Path.{◌≡◌}
use mathlib.Core.List.{List, [], ◌∷◌}
use Rattle.tape_markup.specs.declared.Place.{Place}
use Rattle.std.specs.Prelude.{None, Ok}
use Rattle.tape_markup.specs.Tree.{tree_of}
use Rattle.tape_files.specs.Index.{insides, label_name, block_size_name, partitions_name, data_name, block_sizes, data_partitions}
use Rattle.tape_markup.specs.Places.{tokens_at}
use Rattle.tape_files.specs.Elements.{frames_at, inside}
use Rattle.tape_files.specs.Values.{Field, number_field, letter_field, field_at, label_of}
use Rattle.tape_files.proofs.Bare.{folded, field_step, field_said}

pub label_whole : (text : List ℕ) (size partition : Field)
    → size ≡ folded (field_step number_field (block_size_name ∷ [])) (Ok None) (insides label_name (inside text (Place.Text 0)))
    → partition ≡ folded (field_step letter_field (partitions_name ∷ data_name ∷ [])) (Ok None) (insides label_name (inside text (Place.Text 0)))
    → record { size = size; partition = partition } ≡ label_of (tree_of text)
unfolding label_of block_sizes data_partitions field_at frames_at tokens_at tree_of
label_whole text size partition s p =
    rw (s, p, field_said number_field (block_size_name ∷ []) label_name (tree_of text), field_said letter_field (partitions_name ∷ data_name ∷ []) label_name (tree_of text))
