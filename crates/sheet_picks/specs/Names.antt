-- The names: for each entry the lines whose file lies in it, each path once, at its first line, with the number of its lines.
use Rattle.std.specs.Prelude.{ℕ, zero, suc, Bool, cond, ◌&&◌, List, [], ◌∷◌, ◌++◌, get_or, eqb, ltb, leb}
use Rattle.refusals.specs.Refusals.{first_where}
use Rattle.text_bytes.specs.Text.{bytes, comma, is_text}
use Rattle.text_pages.specs.Printing.{line, pair_text}
use Rattle.text_paths.specs.Paths.{line_count, path_after}

-- A line of the names: `name=ENTRY,READS,PATH`.
abbrev pub name_line : ℕ → ℕ → List ℕ → List ℕ
name_line entry reads path = line (bytes "name=") (pair_text entry reads ++ (comma ∷ path))

-- Lines of one path; the first of them.
abbrev pub same_path : List ℕ → ℕ → ℕ → Bool
same_path list i h = is_text (path_after i list) (path_after h list)

abbrev pub is_first_line : List ℕ → ℕ → Bool
is_first_line list i = eqb (first_where (same_path list i) (suc i)) (suc i)

-- How many of so many lines are of a kind, and a text for each of so many lines.
unfoldable pub lines_where : (ℕ → Bool) → ℕ → ℕ
lines_where kind zero = 0
lines_where kind (suc n) = cond (kind n) (suc (lines_where kind n)) (lines_where kind n)

unfoldable pub texts_of : (ℕ → List ℕ) → ℕ → List ℕ
texts_of text zero = []
texts_of text (suc n) = texts_of text n ++ text n

abbrev pub lies_in_entry : List ℕ → ℕ → ℕ → ℕ → Bool
lies_in_entry starts first last i = leb first (get_or starts i 0) && ltb (get_or starts i 0) last

-- What the names of an entry say of line i.
unfoldable pub name_of_line : List ℕ → List ℕ → ℕ → ℕ → ℕ → ℕ → List ℕ
name_of_line list starts number first last i =
    cond (lies_in_entry starts first last i && is_first_line list i) (name_line number (lines_where (same_path list i) (line_count list)) (path_after i list)) []

unfoldable pub names_of_entry : List ℕ → List ℕ → ℕ → ℕ → ℕ → List ℕ
names_of_entry list starts number first last = texts_of (name_of_line list starts number first last) (line_count list)

-- The names of the entries from a number on.
unfoldable pub names_onward : List ℕ → List ℕ → ℕ → List ℕ → List ℕ → List ℕ
names_onward list starts number [] lasts = []
names_onward list starts number (first ∷ firsts) [] = []
names_onward list starts number (first ∷ firsts) (last ∷ lasts) = names_of_entry list starts number first last ++ names_onward list starts (suc number) firsts lasts

abbrev pub names_text : List ℕ → List ℕ → List ℕ → List ℕ → List ℕ
names_text list starts firsts lasts = names_onward list starts 1 firsts lasts
