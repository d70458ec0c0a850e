-- What the test of both texts tells: what L1 asks of them, and a block size where one is needed.
use Prim.Native.Nat.{ℕ}
use mathlib.Core.Path.{◌≡◌}
use mathlib.Core.Bool.{true, not, ◌&&◌, ◌||◌, false≢true}
use mathlib.Core.List.{List}
use native.Mathlib.Omega.{arith}
use native.Mathlib.Decide.{dec_lt}
use lib.Dec.{eqb}
use borrow.Author.Tests.{ne_eqb, eq-eqb}
use Rattle.text_bytes.proofs.Bytes.{and_true_both}
use Rattle.tape_markup.specs.Tree.{is_balanced, tree_of}
use Rattle.tape_markup.proofs.Balanced.{balanced_exactly}
use Rattle.tape_files.specs.Index.{index_name, is_none, insides, every, index_files, is_good_extent, is_good_label, is_good_index, block_size_of}
use Rattle.tape_picks.specs.Picks.{is_readable}
use Rattle.answer_pick.specs.Picks.{is_label, are_readable}
use Rattle.answer_pick.specs.Applies.{TextsAreGood}

-- A size that is needed is not 0.
size_told : (unit size : ℕ) → (eqb unit 0 || not (eqb size 0)) ≡ true → (unit ≡ 0 → ⊥) → size ≡ 0 → ⊥
size_told unit size e n z = false≢true (rw (ne_eqb unit 0 n, eq-eqb size 0 z) at e)

told_size : (unit size : ℕ) → ((unit ≡ 0 → ⊥) → size ≡ 0 → ⊥) → (eqb unit 0 || not (eqb size 0)) ≡ true
told_size unit size n =
    elim (dec_lt 0 unit) [
      | yes u ↦ let some : unit ≡ 0 → ⊥ = λ z. omega (arith, u, z) in rw (ne_eqb unit 0 some, ne_eqb size 0 (n some))
      | no u ↦ rw (eq-eqb unit 0 (omega arith))
    ]

module _ (unit : ℕ) (label index : List ℕ) where
  pub readable_good : are_readable unit label index ≡ true → TextsAreGood unit label index
  unfolding are_readable is_label is_readable is_good_index
  readable_good e =
      let sized = eqb unit 0 || not (eqb (block_size_of (tree_of label)) 0) in
      let rooted = not (is_none (insides index_name (tree_of index))) in
      let all = and_true_both (is_balanced label && is_good_label (tree_of label) && sized && rooted) (is_balanced index && every (every is_good_extent) (index_files (tree_of index))) e in
      let front = and_true_both (is_balanced label && is_good_label (tree_of label) && sized) rooted all.0 in
      let both = and_true_both (is_balanced label && is_good_label (tree_of label)) sized front.0 in
      let label-parts = and_true_both (is_balanced label) (is_good_label (tree_of label)) both.0 in
      let index-parts = and_true_both (is_balanced index) (every (every is_good_extent) (index_files (tree_of index))) all.1 in
      record {
        label_says = (balanced_exactly label).0 label-parts.0;
        index_says = (balanced_exactly index).0 index-parts.0;
        label_values = label-parts.1;
        index_values = rw (front.1, index-parts.1);
        sized = size_told unit (block_size_of (tree_of label)) both.1;
      }

  pub good_readable : TextsAreGood unit label index → are_readable unit label index ≡ true
  unfolding are_readable is_label is_readable is_good_index
  good_readable t =
      let parts = and_true_both (not (is_none (insides index_name (tree_of index)))) (every (every is_good_extent) (index_files (tree_of index))) t.index_values in
      rw (
        (balanced_exactly label).1 t.label_says,
        (balanced_exactly index).1 t.index_says,
        t.label_values,
        told_size unit (block_size_of (tree_of label)) t.sized,
        parts.0,
        parts.1,
      )
