-- A list has a path on each line; each line is one read. What a path is, how many lines a list has, and what it is refused with.
use Rattle.std.specs.Prelude.{ℕ, suc, Bool, true, false, cond, not, ◌&&◌, ◌||◌, List, [], ◌∷◌, drop, eqb, ltb}
use Prim.Native.Char.{code}
use Rattle.refusals.specs.declared.Refusal.TheVariants.{BadLine, TooManyReads}
use Rattle.refusals.specs.declared.Verdict.{Verdict}
use Rattle.refusals.specs.Refusals.{refuse_if, refuse_at, first_of}
use Rattle.text_bytes.specs.Text.{line_feed}
use Rattle.text_lines.specs.Lines.{line_after, first_bad_of}

abbrev pub slash : ℕ
slash = code "/"

-- Names joined by `/`, none of them empty: read from left to right, with whether a name has begun.
unfoldable pub names_from : Bool → List ℕ → Bool
names_from begun [] = begun
names_from begun (b ∷ text) = (begun || not (eqb b slash)) && names_from (not (eqb b slash)) text

abbrev pub is_path : List ℕ → Bool
is_path text = names_from false text

-- One `/` before a path means nothing.
unfoldable pub slashes_of : List ℕ → ℕ
slashes_of [] = 0
slashes_of (b ∷ line) = cond (eqb b slash) 1 0

unfoldable pub asked_path : List ℕ → List ℕ
asked_path line = drop (slashes_of line) line

-- A line that asks for something. An empty line asks for nothing, and so does one without its LF, for which an empty line stands.
unfoldable pub is_asked : List ℕ → Bool
is_asked line = is_path (asked_path line)

-- How many lines a list has: as many as LFs, and one more where bytes stand behind the last.
unfoldable pub lines_from : Bool → List ℕ → ℕ
lines_from begun [] = cond begun 1 0
lines_from begun (b ∷ text) = cond (eqb b line_feed) (suc (lines_from false text)) (lines_from true text)

abbrev pub line_count : List ℕ → ℕ
line_count text = lines_from false text

-- The path that line i asks for, counted from 0.
abbrev pub path_after : ℕ → List ℕ → List ℕ
path_after i text = asked_path (line_after i text)

-- No list has more lines, since no run has more reads.
abbrev pub most_lines : ℕ
most_lines = 1024

-- 11 with the first line that asks for nothing, then 5 for too many lines.
unfoldable pub paths_verdict : List ℕ → Verdict
paths_verdict text = first_of (refuse_at (first_bad_of is_asked (line_count text) text) BadLine ∷ refuse_if (ltb most_lines (line_count text)) TooManyReads ∷ [])
