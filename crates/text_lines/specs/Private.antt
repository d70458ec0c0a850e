-- What the readers of two and of three numbers find. No public contract cites this file.
use Rattle.std.specs.Prelude.{ℕ, ◌≡◌, ◌≤◌, Bool, true, false, List, length, drop, Option, Some, None}
use Rattle.text_bytes.specs.Text.{comma, before, behind, value_of}
use Rattle.text_lines.specs.Lines.{line_of, is_pair, is_triple}
use Rattle.text_lines.specs.Found.{Passed}

-- A text that is a pair of numbers, and which.
pub record PairIs (text : List ℕ) (first second : ℕ) : Type 0 where
  pub good : is_pair text ≡ true
  pub left : first ≡ value_of (before comma text)
  pub right : second ≡ value_of (behind comma text)

abbrev pub PairFound : List ℕ → Option (ℕ × ℕ) → Type 0
PairFound text (Some (first, second)) = PairIs text first second
PairFound text None = is_pair text ≡ false

-- A text that is three numbers, and which.
pub record TripleIs (text : List ℕ) (first second third : ℕ) : Type 0 where
  pub good : is_triple text ≡ true
  pub left : first ≡ value_of (before comma text)
  pub middle : second ≡ value_of (before comma (behind comma text))
  pub right : third ≡ value_of (behind comma (behind comma text))

abbrev pub TripleFound : List ℕ → Option (ℕ × ℕ × ℕ) → Type 0
TripleFound text (Some (first, second, third)) = TripleIs text first second third
TripleFound text None = is_triple text ≡ false

-- Where the next line starts, behind one that passes a test.
abbrev pub PassFound : (List ℕ → Bool) → List ℕ → ℕ → Option ℕ → Type 0
PassFound test text at (Some next) = Passed test text at next
PassFound test text at None = test (line_of (drop at text)) ≡ false

-- A function that answers so at any position.
abbrev pub Passes : (List ℕ → Bool) → List ℕ → (ℕ → Option ℕ → Type 0) → Type 0
Passes test text post = (at : ℕ) (r : Option ℕ) → at ≤ length text → post at r → PassFound test text at r
