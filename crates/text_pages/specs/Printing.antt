-- The texts that are put on a page: lines of a key and a text, a number, two or three; and what putting a text on a page leaves.
use Rattle.std.specs.Prelude.{ℕ, ◌+◌, ◌≤◌, ◌<◌, ◌≡◌, List, [], ◌∷◌, ◌++◌, length, take, drop}
use Rattle.text_bytes.specs.Text.{line_feed, comma, decimal}

-- A line with its LF: a key and a text, a key and a number, a key and two or three numbers.
abbrev pub line : List ℕ → List ℕ → List ℕ
line key text = key ++ text ++ (line_feed ∷ [])

abbrev pub number_line : List ℕ → ℕ → List ℕ
number_line key n = line key (decimal n)

abbrev pub pair_text : ℕ → ℕ → List ℕ
pair_text first second = decimal first ++ (comma ∷ []) ++ decimal second

abbrev pub pair_line : List ℕ → ℕ → ℕ → List ℕ
pair_line key first second = line key (pair_text first second)

abbrev pub triple_text : ℕ → ℕ → ℕ → List ℕ
triple_text first second third = pair_text first second ++ (comma ∷ []) ++ decimal third

abbrev pub triple_line : List ℕ → ℕ → ℕ → ℕ → List ℕ
triple_line key first second third = line key (triple_text first second third)

-- A line for each pair of two rows, and for each triple of three.
unfoldable pub pair_lines : List ℕ → List ℕ → List ℕ → List ℕ
pair_lines key [] seconds = []
pair_lines key (a ∷ firsts) [] = []
pair_lines key (a ∷ firsts) (b ∷ seconds) = pair_line key a b ++ pair_lines key firsts seconds

unfoldable pub triple_lines : List ℕ → List ℕ → List ℕ → List ℕ → List ℕ
triple_lines key [] seconds thirds = []
triple_lines key (a ∷ firsts) [] thirds = []
triple_lines key (a ∷ firsts) (b ∷ seconds) [] = []
triple_lines key (a ∷ firsts) (b ∷ seconds) (c ∷ thirds) = triple_line key a b c ++ triple_lines key firsts seconds thirds

-- A text stands on a page behind what stood before a position, in at most so many bytes: where it ends, what stands up to there, and what
-- stands from there on, which is as it was.
pub record Wrote (page : List ℕ) (at : ℕ) (text : List ℕ) (most : ℕ) (page' : List ℕ) (next : ℕ) : Type 0 where
  pub after : next ≡ at + length text
  pub bytes : take next page' ≡ take at page ++ text
  pub later : drop next page' ≡ drop next page
  pub within : next ≤ at + most

-- Putting a text, whose kind takes at most so many bytes, on a page: it stands there where the page has room for so many; else the page stays.
pub record Put (page : List ℕ) (at : ℕ) (text : List ℕ) (most : ℕ) (page' : List ℕ) (next : ℕ) : Type 0 where
  pub room : at + most ≤ length page → Wrote page at text most page' next
  pub full : length page < at + most → (page' ≡ page) × (next ≡ at)
