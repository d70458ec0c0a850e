-- What the functions that take an input apart find, and the page that its sheet is put on. No public contract cites this file.
use Rattle.std.specs.Prelude.{ℕ, ◌-◌, ◌≤◌, ◌≡◌, true, false, List, length, take, drop, Option, Some, None}
use Rattle.sheet_writer.specs.Writing.{written_row}
use Rattle.answer_ltfs.specs.declared.Report.{Report}
use Rattle.answer_ltfs.specs.declared.input.Counted.{Counted}
use Rattle.answer_ltfs.specs.declared.input.Texts.{Texts}
use Rattle.answer_ltfs.specs.TapeTable.{ltfs_sheet, ltfs_report}
use Rattle.answer_ltfs.specs.Input.{is_counted, counted_text, after_counted, framed_label, framed_index, bad_frame, input_name, input_label, input_index, tape_input_verdict}

-- A counted text, and where it stands.
pub record CountedAt (key input : List ℕ) (at from to : ℕ) : Type 0 where
  pub good : is_counted key (drop at input) ≡ true
  pub ordered : from ≤ to
  pub within : to ≤ length input
  pub text : take (to - from) (drop from input) ≡ counted_text key (drop at input)
  pub rest : drop to input ≡ after_counted key (drop at input)

abbrev pub CountedFound : List ℕ → List ℕ → ℕ → Option Counted → Type 0
CountedFound key input at (Some text) = CountedAt key input at text.from text.to
CountedFound key input at None = is_counted key (drop at input) ≡ false

-- The label from one position to another, the index from one to the end.
pub record TextsAt (input : List ℕ) (at from to index : ℕ) : Type 0 where
  pub good : bad_frame input (drop at input) ≡ false
  pub ordered : from ≤ to
  pub within : to ≤ length input
  pub start : index ≤ length input
  pub label : take (to - from) (drop from input) ≡ framed_label (drop at input)
  pub last : drop index input ≡ framed_index (drop at input)

abbrev pub TextsFound : List ℕ → ℕ → Option Texts → Type 0
TextsFound input at (Some texts) = TextsAt input at texts.from texts.to texts.index
TextsFound input at None = bad_frame input (drop at input) ≡ true

-- The sheet of an input on a page that holds every sheet, and what is said of it.
abbrev pub input_report : List ℕ → Report
input_report input = ltfs_report (tape_input_verdict input) (input_name input) (input_label input) (input_index input)

pub record Drafted (input page : List ℕ) (r : Report) (page' : List ℕ) : Type 0 where
  pub report : r ≡ input_report input
  pub left : page' ≡ written_row (tape_input_verdict input) (ltfs_sheet (input_name input) (input_label input) (input_index input)) page
