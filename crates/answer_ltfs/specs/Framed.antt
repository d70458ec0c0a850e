-- What is promised of an input that is put together as described: it is taken apart into the same name, label and index. Proved in proofs/Apart.antt.
use Rattle.std.specs.Prelude.{ℕ, ◌<◌, ◌^◌, ◌≡◌, true, List, ◌++◌, length}
use Rattle.text_bytes.specs.Text.{line_feed, behind, is_name}
use Rattle.text_lines.specs.Lines.{line_of}
use Rattle.text_pages.specs.Printing.{line, number_line}
use Rattle.sheet_reader.specs.Lines.{tape_key, is_tape_line}
use Rattle.answer_ltfs.specs.Input.{label_key, index_key, is_framed, input_name, input_label, input_index}

-- `tape=NAME` LF, `label=N` LF and N bytes, `index=M` LF and M bytes.
abbrev pub input_text : List ℕ → List ℕ → List ℕ → List ℕ
input_text name label index =
    line tape_key name ++ (number_line label_key (length label) ++ (label ++ (number_line index_key (length index) ++ index)))

pub record TakenApart (name label index input : List ℕ) : Type 0 where
  pub first : is_tape_line (line_of input) ≡ true
  pub framed : is_framed (behind line_feed input) ≡ true
  pub same_name : input_name input ≡ name
  pub same_label : input_label input ≡ label
  pub same_index : input_index input ≡ index

abbrev pub InputTakenApart : Type 0
InputTakenApart =
    (name label index : List ℕ)
    → is_name name ≡ true
    → length label < 2 ^ 64
    → length index < 2 ^ 64
    → TakenApart name label index (input_text name label index)
