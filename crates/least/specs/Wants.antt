-- How often a run wants a stop, by the stop's name, and how often a file, by its number: how two runs over one tape compare.
use Rattle.std.specs.Prelude.{ℕ, ◌+◌, cond, List, [], ◌∷◌, eqb}
use Rattle.runs.specs.Run.{Stop}

-- The count of the stop of that name; 0 where there is none, since it is not wanted.
unfoldable pub reads_of : List Stop → ℕ → ℕ
reads_of [] f = 0
reads_of (s ∷ ss) f = cond (eqb s.file f) s.count (reads_of ss f)

-- The same of a file as it is handed in, alone or in an aggregate: the counts of its wants, added.
unfoldable pub reads_of_file : List ℕ → List ℕ → ℕ → ℕ
reads_of_file [] cs f = 0
reads_of_file (n ∷ ns) [] f = 0
reads_of_file (n ∷ ns) (c ∷ cs) f = cond (eqb n f) c 0 + reads_of_file ns cs f
