-- What the reader of a line finds, by cases of its answer.
use Rattle.std.specs.Prelude.{ℕ, ◌+◌, ◌-◌, ◌≤◌, ◌<◌, ◌≡◌, Bool, true, false, ◌&&◌, List, length, take, drop, Option, Some, None, Result, Ok, Err}
use Rattle.text_lines.specs.declared.Keyed.{Keyed}
use Rattle.text_lines.specs.declared.NumberLine.{NumberLine}
use Rattle.text_lines.specs.declared.PairLine.{PairLine}
use Rattle.text_lines.specs.declared.TripleLine.{TripleLine}
use Rattle.text_lines.specs.declared.BadLine.{BadLine}
use Rattle.text_bytes.specs.Text.{line_feed, has, behind, starts_with}
use Rattle.text_lines.specs.Lines.{line_of, after_lines, value_text, is_pair_line, first_in, second_in, is_triple_line, middle_in, third_in, first_bad_of, filled_row, pairs_filled}

-- A line that has its LF and begins with a key: where its value starts and its LF stands.
pub record ValueAt (key text : List ℕ) (at from end : ℕ) : Type 0 where
  pub ended : has line_feed (drop at text) ≡ true
  pub begun : starts_with key (line_of (drop at text)) ≡ true
  pub start : from ≡ at + length key
  pub ordered : from ≤ end
  pub within : end < length text
  pub value : take (end - from) (drop from text) ≡ value_text key (line_of (drop at text))
  pub rest : drop (end + 1) text ≡ behind line_feed (drop at text)

abbrev pub ValueFound : List ℕ → List ℕ → ℕ → Option Keyed → Type 0
ValueFound key text at (Some value) = ValueAt key text at value.from value.end
ValueFound key text at None = (has line_feed (drop at text) && starts_with key (line_of (drop at text))) ≡ false

-- A line that passed its test, and where the next one starts.
pub record Passed (test : List ℕ → Bool) (text : List ℕ) (at next : ℕ) : Type 0 where
  pub good : test (line_of (drop at text)) ≡ true
  pub within : next ≤ length text
  pub rest : drop next text ≡ behind line_feed (drop at text)

abbrev pub NumberLineFound : (List ℕ → Bool) → (List ℕ → ℕ) → List ℕ → ℕ → Option NumberLine → Type 0
NumberLineFound test value text at (Some line) = Passed test text at line.next × (line.number ≡ value (line_of (drop at text)))
NumberLineFound test value text at None = test (line_of (drop at text)) ≡ false

pub record PairAt (key text : List ℕ) (at first second next : ℕ) : Type 0 where
  pub passed : Passed (is_pair_line key) text at next
  pub left : first ≡ first_in key (line_of (drop at text))
  pub right : second ≡ second_in key (line_of (drop at text))

abbrev pub PairLineFound : List ℕ → List ℕ → ℕ → Option PairLine → Type 0
PairLineFound key text at (Some line) = PairAt key text at line.first line.second line.next
PairLineFound key text at None = is_pair_line key (line_of (drop at text)) ≡ false

pub record TripleAt (key text : List ℕ) (at first second third next : ℕ) : Type 0 where
  pub passed : Passed (is_triple_line key) text at next
  pub left : first ≡ first_in key (line_of (drop at text))
  pub middle : second ≡ middle_in key (line_of (drop at text))
  pub right : third ≡ third_in key (line_of (drop at text))

abbrev pub TripleLineFound : List ℕ → List ℕ → ℕ → Option TripleLine → Type 0
TripleLineFound key text at (Some line) = TripleAt key text at line.first line.second line.third line.next
TripleLineFound key text at None = is_triple_line key (line_of (drop at text)) ≡ false

-- So many lines of one kind: none is bad, and what follows them; or which is the first bad one.
pub record LinesPassed (test : List ℕ → Bool) (text : List ℕ) (at count next : ℕ) : Type 0 where
  pub none : first_bad_of test count (drop at text) ≡ 0
  pub within : next ≤ length text
  pub rest : drop next text ≡ after_lines count (drop at text)

pub record LineBad (test : List ℕ → Bool) (text : List ℕ) (at count line : ℕ) : Type 0 where
  pub first : first_bad_of test count (drop at text) ≡ line
  pub some : 0 < line
  pub most : line ≤ count

abbrev pub LinesFound : (List ℕ → Bool) → List ℕ → ℕ → ℕ → Result ℕ BadLine → Type 0
LinesFound test text at count (Ok next) = LinesPassed test text at count next
LinesFound test text at count (Err bad) = LineBad test text at count bad.line

-- Two rows afterwards: the pairs of the lines that go into them, then the later entries as they were.
pub record PairsRead (key text : List ℕ) (at count : ℕ) (firsts seconds firsts' seconds' : List ℕ) : Type 0 where
  pub left : firsts' ≡ filled_row (first_in key) (drop at text) (pairs_filled key (drop at text) count firsts seconds) firsts
  pub right : seconds' ≡ filled_row (second_in key) (drop at text) (pairs_filled key (drop at text) count firsts seconds) seconds
