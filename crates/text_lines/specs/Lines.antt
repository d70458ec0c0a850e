-- The lines of a text, and what each kind of line must be. A line is the text before its LF.
use Rattle.std.specs.Prelude.{ℕ, suc, zero, min, Bool, cond, not, ◌&&◌, List, [], ◌∷◌, ◌++◌, length, drop}
use Rattle.refusals.specs.Refusals.{first_where}
use Rattle.text_bytes.specs.Text.{line_feed, comma, has, before, behind, starts_with, is_number, value_of}

-- The first line of a text. Where no LF ends it there is none, and the empty line that stands for it holds no number: so a line that is
-- missing and a last line without LF are refused alike.
unfoldable pub line_of : List ℕ → List ℕ
line_of text = cond (has line_feed text) (before line_feed text) []

-- What follows so many lines of a text, and the line that stands there.
unfoldable pub after_lines : ℕ → List ℕ → List ℕ
after_lines zero text = text
after_lines (suc n) text = behind line_feed (after_lines n text)

abbrev pub line_after : ℕ → List ℕ → List ℕ
line_after n text = line_of (after_lines n text)

-- What stands behind a key.
abbrev pub value_text : List ℕ → List ℕ → List ℕ
value_text key line = drop (length key) line

-- A key and a number.
unfoldable pub is_number_line : List ℕ → List ℕ → Bool
is_number_line key line = starts_with key line && is_number (value_text key line)

abbrev pub number_behind : List ℕ → List ℕ → ℕ
number_behind key line = value_of (value_text key line)

-- Two numbers with a comma between them.
unfoldable pub is_pair : List ℕ → Bool
is_pair text = is_number (before comma text) && is_number (behind comma text)

-- A key and a pair of numbers.
unfoldable pub is_pair_line : List ℕ → List ℕ → Bool
is_pair_line key line = starts_with key line && is_pair (value_text key line)

abbrev pub first_in : List ℕ → List ℕ → ℕ
first_in key line = value_of (before comma (value_text key line))

abbrev pub second_in : List ℕ → List ℕ → ℕ
second_in key line = value_of (behind comma (value_text key line))

-- Three numbers with two commas between them: a number, a comma and a pair.
unfoldable pub is_triple : List ℕ → Bool
is_triple text = is_number (before comma text) && is_pair (behind comma text)

-- A key and three numbers: the first as above, the one between the commas, and the last.
unfoldable pub is_triple_line : List ℕ → List ℕ → Bool
is_triple_line key line = starts_with key line && is_triple (value_text key line)

abbrev pub middle_in : List ℕ → List ℕ → ℕ
middle_in key line = value_of (before comma (behind comma (value_text key line)))

abbrev pub third_in : List ℕ → List ℕ → ℕ
third_in key line = value_of (behind comma (behind comma (value_text key line)))

-- The first of so many lines that does not pass a test, counted from 1; 0 where all do.
unfoldable pub first_bad_of : (List ℕ → Bool) → ℕ → List ℕ → ℕ
first_bad_of test count text = first_where (λ i. not (test (line_after i text))) count

-- What a number of lines hold, one value for each.
unfoldable pub each_of : (ℕ → ℕ) → ℕ → List ℕ
each_of value zero = []
each_of value (suc n) = each_of value n ++ (value n ∷ [])

-- Of so many lines at most, how many come before the first that is not as described (0: they all are).
abbrev pub lines_before : ℕ → ℕ → ℕ
lines_before most zero = most
lines_before most (suc line) = line

-- A row with a value of each of so many lines in its first entries.
abbrev pub filled_row : (List ℕ → ℕ) → List ℕ → ℕ → List ℕ → List ℕ
filled_row value text count row = each_of (λ i. value (line_after i text)) count ++ drop count row

-- How many of so many lines two rows have entries for.
abbrev pub held_in : ℕ → List ℕ → List ℕ → ℕ
held_in count firsts seconds = min count (min (length firsts) (length seconds))

-- How many of them go into the rows: those before the first that is no pair.
unfoldable pub pairs_filled : List ℕ → List ℕ → ℕ → List ℕ → List ℕ → ℕ
pairs_filled key text count firsts seconds =
    lines_before (held_in count firsts seconds) (first_bad_of (is_pair_line key) (held_in count firsts seconds) text)
