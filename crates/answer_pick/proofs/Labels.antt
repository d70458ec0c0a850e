-- What a label says, and an index that was read with it.
use Prim.Native.Nat.{ℕ}
use mathlib.Core.Path.{◌≡◌, refl, ap, sym, ◌∙◌}
use mathlib.Core.Bool.{Bool, true, false, not, ◌&&◌, ◌||◌, false≢true}
use mathlib.Core.List.{List}
use lib.Dec.{eqb}
use borrow.Author.Tests.{not-true, not-false}
use Rattle.text_bytes.specs.Text.{is_number, value_of}
use Rattle.text_bytes.proofs.Bytes.{and_true_both}
use Rattle.tape_markup.specs.Tree.{Forest, is_balanced, tree_of}
use Rattle.tape_files.specs.declared.Label.{Label}
use Rattle.tape_files.specs.Index.{index_name, is_none, insides, is_good_label, are_good, is_partition, letter_of, block_sizes, data_partitions, block_size_of, data_partition_of}
use Rattle.tape_files.specs.Values.{is_value, value_in, number_field, letter_field, label_of}
use Rattle.tape_files.proofs.Said.{field_good, field_value, number_form, letter_form}
use Rattle.tape_picks.specs.Picks.{FilesFound}
use Rattle.answer_pick.specs.Picks.{is_label, are_readable}
use Rattle.answer_pick.specs.Private.{label_says, IndexRead}

size_good : (label : Forest) → is_value (label_of label).size ≡ are_good is_number (block_sizes label)
unfolding label_of
size_good label = field_good number_field is_number value_of number_form (block_sizes label)

partition_good : (label : Forest) → is_value (label_of label).partition ≡ are_good is_partition (data_partitions label)
unfolding label_of
partition_good label = field_good letter_field is_partition letter_of letter_form (data_partitions label)

values_are : (label : Forest) → (is_value (label_of label).size && is_value (label_of label).partition) ≡ is_good_label label
unfolding is_good_label
values_are label = rw (size_good label, partition_good label)

module _ (label : Forest) (g : is_good_label label ≡ true) where
  both : (is_value (label_of label).size ≡ true) × (is_value (label_of label).partition ≡ true)
  both = and_true_both (is_value (label_of label).size) (is_value (label_of label).partition) (values_are label ∙ g)

  size_value_here : value_in (label_of label).size ≡ block_size_of label
  unfolding label_of block_size_of
  size_value_here = field_value number_field is_number value_of number_form (block_sizes label) (sym (size_good label) ∙ both.0)

  partition_value_here : value_in (label_of label).partition ≡ data_partition_of label
  unfolding label_of data_partition_of
  partition_value_here = field_value letter_field is_partition letter_of letter_form (data_partitions label) (sym (partition_good label) ∙ both.1)

pub label_is : (unit : ℕ) (label : List ℕ) → label_says unit label (label_of (tree_of label)) ≡ is_label unit label
unfolding is_label
label_is unit label = go (is_balanced label) (is_good_label (tree_of label)) refl refl
  where
    go : (a g : Bool) → is_balanced label ≡ a → is_good_label (tree_of label) ≡ g
        → label_says unit label (label_of (tree_of label)) ≡ (is_balanced label && is_good_label (tree_of label) && (eqb unit 0 || not (eqb (block_size_of (tree_of label)) 0)))
    go false g e f = rw e
    go true false e f = rw (values_are (tree_of label), e, f)
    go true true e f = rw (values_are (tree_of label), e, f, size_value_here (tree_of label) f)

label_good : (unit : ℕ) (label : List ℕ) → is_label unit label ≡ true → is_good_label (tree_of label) ≡ true
unfolding is_label
label_good unit label e =
    let a = and_true_both (is_balanced label && is_good_label (tree_of label)) (eqb unit 0 || not (eqb (block_size_of (tree_of label)) 0)) e in
    (and_true_both (is_balanced label) (is_good_label (tree_of label)) a.0).1

-- The index, read with that label.
module _ (unit : ℕ) (label index list states starts ends : List ℕ) (read : Label) (said : read ≡ label_of (tree_of label)) (l : Bool) (told : l ≡ label_says unit label read) where
  label_told : l ≡ is_label unit label
  label_told = told ∙ ap (label_says unit label) said ∙ label_is unit label

  pub label_bad : not l ≡ true → IndexRead unit label index list states starts ends false states starts ends
  unfolding are_readable
  label_bad e = record { judged = sym (rw (sym label_told ∙ not-true l e)); found = λ f. absurd (false≢true f) }

  module _ (good : not l ≡ false) (h : Bool) (has : h ≡ not (is_none (insides index_name (tree_of index)))) where
    is_label_here : is_label unit label ≡ true
    is_label_here = sym label_told ∙ not-false l good

    pub index_bad : not h ≡ true → IndexRead unit label index list states starts ends false states starts ends
    unfolding are_readable
    index_bad e = record { judged = sym (rw (is_label_here, sym has ∙ not-true h e)); found = λ f. absurd (false≢true f) }

    pub index_read : not h ≡ false → (size partition : ℕ) → size ≡ value_in read.size → partition ≡ value_in read.partition → (r : Bool) (states' starts' ends' : List ℕ)
        → FilesFound (record { unit = unit; size = size; partition = partition }) index list states starts ends r states' starts' ends'
        → IndexRead unit label index list states starts ends r states' starts' ends'
    unfolding are_readable
    index_read e size partition s p r states' starts' ends' f =
        let g = label_good unit label is_label_here in
        let size_is : size ≡ block_size_of (tree_of label) = s ∙ ap (λ (k : Label). value_in k.size) said ∙ size_value_here (tree_of label) g in
        let partition-is : partition ≡ data_partition_of (tree_of label) = p ∙ ap (λ (k : Label). value_in k.partition) said ∙ partition_value_here (tree_of label) g in
        record {
          judged = f.judged ∙ sym (rw (is_label_here, sym has ∙ not-false h e));
          found = λ t. rw (← size_is, ← partition-is, ← t) f;
        }
