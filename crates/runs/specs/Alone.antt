-- Files that lie in no aggregate: the run of such files, its stops and its judging, which is document 01's rule as it was before there were aggregates.
use Rattle.std.specs.Prelude.{ℕ, ◌-◌, not, ◌||◌, List, [], ◌∷◌, length, get_or, replicate, ltb, eqb}
use Rattle.refusals.specs.declared.Refusal.TheVariants.{FileRows, BadFile}
use Rattle.refusals.specs.declared.Verdict.{Verdict}
use Rattle.refusals.specs.Refusals.{refuse_if, refuse_at, first_of, first_where}
use Rattle.runs.specs.Run.{Run, Stop, run_of, most_files, end_at}
use Rattle.runs.specs.Rows.{Lent}
use Rattle.runs.specs.Judging.{bad_place, wants_checks, head_checks, right_end}

-- The run of files that lie in no aggregate: a row of zeros.
abbrev pub zeros : ℕ → List ℕ
zeros n = replicate n 0

abbrev pub alone_of : List ℕ → List ℕ → List ℕ → List ℕ → ℕ → ℕ → Run
alone_of starts lengths numbers counts head turn = run_of starts lengths (zeros (length starts)) numbers counts head turn

abbrev pub alone_at : {S L N C : Type 0} → Lent S → Lent L → Lent N → Lent C → ℕ → ℕ → Run
alone_at starts lengths numbers counts head turn = alone_of starts.entry.now lengths.entry.now numbers.entry.now counts.entry.now head turn

-- The stops of files that lie in no aggregate: one for each want, with that file's own number, start and end.
abbrev pub lone_stop : List ℕ → List ℕ → ℕ → ℕ → Stop
lone_stop starts lengths f c =
    record { file = f; start = get_or starts (f - 1) 0; end = end_at starts lengths (f - 1); count = c }

unfoldable pub lone_stops : List ℕ → List ℕ → List ℕ → List ℕ → List Stop
lone_stops starts lengths [] cs = []
lone_stops starts lengths (f ∷ fs) [] = []
lone_stops starts lengths (f ∷ fs) (c ∷ cs) = lone_stop starts lengths f c ∷ lone_stops starts lengths fs cs

-- Judged by their own places.
abbrev pub place_checks : List ℕ → List ℕ → List Verdict
place_checks starts lengths =
    refuse_if (ltb most_files (length starts) || not (eqb (length starts) (length lengths))) FileRows
    ∷ refuse_at (first_where (bad_place starts lengths) (length starts)) BadFile
    ∷ []

unfoldable pub judge_alone : List ℕ → List ℕ → List ℕ → List ℕ → ℕ → ℕ → Verdict
judge_alone starts lengths numbers counts head turn =
    first_of
    (first_of (place_checks starts lengths)
    ∷ first_of (wants_checks (length starts) numbers counts)
    ∷ first_of (head_checks turn head (right_end (lone_stops starts lengths numbers counts)))
    ∷ [])
