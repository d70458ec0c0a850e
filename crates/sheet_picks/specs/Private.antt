-- What the private functions ask and leave. No public contract cites this file.
use Rattle.std.specs.Prelude.{ℕ, ◌+◌, ◌-◌, ◌≤◌, ◌<◌, ◌≡◌, Bool, true, false, cond, List, [], ◌∷◌, ◌++◌, length, get_or, take, drop}
use Rattle.text_bytes.specs.Text.{bytes, comma}
use Rattle.text_pages.specs.Printing.{pair_text, Wrote}
use Rattle.text_paths.specs.Paths.{line_count, path_after}
use Rattle.sheet_picks.specs.Entries.{EntriesOf}
use Rattle.sheet_picks.specs.Names.{same_path, is_first_line, lines_where}

-- Two rows that say where the path of each line of a list stands in it.
pub record PathStands (list : List ℕ) (from end i : ℕ) : Type 0 where
  pub ordered : from ≤ end
  pub within : end ≤ length list
  pub path : take (end - from) (drop from list) ≡ path_after i list

pub record PathRows (list froms tos : List ℕ) : Type 0 where
  pub left : line_count list ≤ length froms
  pub right : line_count list ≤ length tos
  pub stands : (i : ℕ) → i < line_count list → PathStands list (get_or froms i 0) (get_or tos i 0) i

-- How many lines ask for the path of line i; 0 where an earlier line does.
abbrev pub first_reads : List ℕ → ℕ → ℕ
first_reads list i = cond (is_first_line list i) (lines_where (same_path list i) (line_count list)) 0

-- Two rows of entries, none of which ends before it begins.
pub record EntryRows (firsts lasts : List ℕ) : Type 0 where
  pub even : length firsts ≡ length lasts
  pub ordered : (i : ℕ) → i < length firsts → get_or firsts i 0 ≤ get_or lasts i 0

-- So many entries at the beginning of two rows.
pub record EntriesFilled (starts ends : List ℕ) (count : ℕ) (firsts lasts : List ℕ) : Type 0 where
  pub within : count ≤ length firsts
  pub even : length firsts ≡ length lasts
  pub entries : EntriesOf starts ends (take count firsts) (take count lasts)

-- Where a text of so many bytes ends that begins at a position, or a position behind the row's end where it goes over that.
pub record NextAt (room at size next : ℕ) : Type 0 where
  pub fits : at + size ≤ room → next ≡ at + size
  pub over : room < at + size → room < next

-- The beginning of a line of names.
abbrev pub name_head : ℕ → ℕ → List ℕ
name_head entry reads = bytes "name=" ++ pair_text entry reads ++ (comma ∷ [])

-- A text measured against a row, and put on it where it is to be put and goes in.
pub record Laid (writing : Bool) (row : List ℕ) (at : ℕ) (text row' : List ℕ) (next : ℕ) : Type 0 where
  pub long : length row' ≡ length row
  pub measured : NextAt (length row) at (length text) next
  pub kept : writing ≡ false → row' ≡ row
  pub put : writing ≡ true → at + length text ≤ length row → Wrote row at text (length text) row' next

-- No sheet of 64 entries is longer than this: 112 bytes for the first lines, 68 for each file, 27 for the number of wants and 47 for each want.
abbrev pub sheet_most : ℕ
sheet_most = 7499
