-- Where the paths of a list stand in its text, and two rows that hold the positions.
use Rattle.std.specs.Prelude.{ℕ, ◌+◌, ◌-◌, ◌≡◌, false, List, ◌++◌, length, drop, Option, Some, None}
use Rattle.text_lines.specs.Lines.{line_of, after_lines, line_after, first_bad_of, each_of, lines_before, held_in}
use Rattle.text_lines.specs.Found.{Passed}
use Rattle.text_paths.specs.declared.PathLine.{PathLine}
use Rattle.text_paths.specs.Paths.{slashes_of, is_asked}

-- The path of the line at a position, from behind its `/` to its LF.
pub record PathAt (text : List ℕ) (at from end : ℕ) : Type 0 where
  pub passed : Passed is_asked text at (end + 1)
  pub start : from ≡ at + slashes_of (line_of (drop at text))
  pub stop : end ≡ at + length (line_of (drop at text))

abbrev pub PathFound : List ℕ → ℕ → Option PathLine → Type 0
PathFound text at (Some path) = PathAt text at path.from path.end
PathFound text at None = is_asked (line_of (drop at text)) ≡ false

-- The position at which line i starts, counted from 0, and those between which its path stands.
unfoldable pub line_start : List ℕ → ℕ → ℕ
line_start text i = length text - length (after_lines i text)

unfoldable pub path_start : List ℕ → ℕ → ℕ
path_start text i = line_start text i + slashes_of (line_after i text)

unfoldable pub path_end : List ℕ → ℕ → ℕ
path_end text i = line_start text i + length (line_after i text)

-- How many of so many lines go into two rows: those before the first that asks for nothing, and no more than both rows have entries for.
unfoldable pub paths_filled : List ℕ → ℕ → List ℕ → List ℕ → ℕ
paths_filled text count starts ends = lines_before (held_in count starts ends) (first_bad_of is_asked (held_in count starts ends) text)

-- Two rows afterwards: where those paths start and end, then the later entries as they were.
pub record PathsRead (text : List ℕ) (count : ℕ) (starts ends starts' ends' : List ℕ) : Type 0 where
  pub left : starts' ≡ each_of (path_start text) (paths_filled text count starts ends) ++ drop (paths_filled text count starts ends) starts
  pub right : ends' ≡ each_of (path_end text) (paths_filled text count starts ends) ++ drop (paths_filled text count starts ends) ends
