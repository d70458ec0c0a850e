-- An input that is put together as described is taken apart into what it was put together from.
use Prim.Native.Nat.{ℕ, ◌<◌, ◌^◌}
use mathlib.Core.Path.{◌≡◌, refl, ap, ◌∙◌}
use mathlib.Core.Bool.{true, false}
use mathlib.Core.List.{List, [], ◌++◌, append-nil}
use native.Mathlib.Omega.{arith}
use lib.ListN.{length, length-append}
use lib.Seq.{take_at, drop_at}
use borrow.Author.Tests.{le-leb}
use Rattle.text_bytes.specs.Text.{line_feed, has, all_of, between, is_name, is_name_byte, decimal}
use Rattle.text_bytes.proofs.Bytes.{and_true_both}
use Rattle.text_bytes.proofs.Decimals.{has_none, decimal_without}
use Rattle.text_pages.specs.Printing.{number_line}
use Rattle.sheet_reader.specs.Lines.{tape_key, is_tape_line}
use Rattle.sheet_writer.proofs.Reread.{line_first, line_behind_lem, key_begins, key_value, number_back, value_back}
use Rattle.answer_ltfs.specs.Input.{label_key, index_key, is_counted, counted_text, after_counted, is_framed}
use Rattle.answer_ltfs.specs.Framed.{InputTakenApart}

-- A counted text, in front of what follows it.
record CountedBack (key text rest input : List ℕ) : Type 0 where
  good : is_counted key input ≡ true
  same : counted_text key input ≡ text
  after : after_counted key input ≡ rest

counted_back : (key text rest : List ℕ) → has line_feed key ≡ false → length text < 2 ^ 64 → CountedBack key text rest (number_line key (length text) ++ (text ++ rest))
unfolding is_counted counted_text after_counted
counted_back key text rest plain small =
    let flat : has line_feed (decimal (length text)) ≡ false = decimal_without line_feed (length text) refl in
    let first = line_first key (decimal (length text)) (text ++ rest) plain flat in
    let more = line_behind_lem key (decimal (length text)) (text ++ rest) plain flat in
    let value = value_back key (length text) small in
    record {
      good = rw (first, more, number_back key (length text) small, value, le-leb (length text) (length (text ++ rest)) (rw (length-append text rest) (omega arith)));
      same = rw (first, more, value) (take_at text rest (length text) refl);
      after = rw (first, more, value) (drop_at text rest (length text) refl);
    }

pub input_taken_apart : InputTakenApart
unfolding is_framed is_tape_line is_name has
input_taken_apart name label index n small few =
    let flat : has line_feed name ≡ false = has_none is_name_byte line_feed refl name (and_true_both (between 1 16 (length name)) (all_of is_name_byte name) n).1 in
    let last = number_line index_key (length index) ++ index in
    let rest = number_line label_key (length label) ++ (label ++ last) in
    let first = line_first tape_key name rest refl flat in
    let more = line_behind_lem tape_key name rest refl flat in
    let a = counted_back label_key label last refl small in
    let b = rw (append-nil index) at (counted_back index_key index [] refl few) in
    record {
      first = rw (first, key_begins tape_key name, key_value tape_key name) n;
      framed = rw (more, a.good, a.after, b.good, b.after);
      same_name = rw first (key_value tape_key name);
      same_label = ap (counted_text label_key) more ∙ a.same;
      same_index = ap (λ (l : List ℕ). counted_text index_key (after_counted label_key l)) more ∙ ap (counted_text index_key) a.after ∙ b.same;
    }
