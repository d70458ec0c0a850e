-- Judging a run: refusals 1 to 7 in the order of the table, each by its own condition. Sums here are whole numbers and never wrap.
use Rattle.std.specs.Prelude.{ℕ, suc, zero, Bool, not, ◌||◌, ◌&&◌, List, [], ◌∷◌, length, get_or, leb, ltb, eqb}
use Rattle.refusals.specs.declared.Refusal.TheVariants.{FileRows, BadFile, WantRows, BadWant, TooManyReads, TurnPrice, HeadPlace}
use Rattle.refusals.specs.declared.Verdict.{Verdict}
use Rattle.refusals.specs.Refusals.{refuse_if, refuse_at, first_of, first_where}
use Rattle.runs.specs.Run.{Run, Stop, most_files, most_aggregates, most_wants, most_reads, last_place, highest_turn, total, end_at, goes_on, stops_of}
use Rattle.runs.specs.Lists.{any_below}

-- The end of the rightmost stop; 0 where there is none.
unfoldable pub right_end : List Stop → ℕ
right_end [] = 0
right_end (s ∷ []) = s.end
right_end (s ∷ t ∷ ts) = right_end (t ∷ ts)

-- The end of the file before the one at an index; the first file has none before it.
abbrev pub end_before : List ℕ → List ℕ → ℕ → ℕ
end_before starts lengths zero = 0
end_before starts lengths (suc i) = end_at starts lengths i

-- 2, by its place: length 0, start before the previous end, or end above the limit.
abbrev pub bad_place : List ℕ → List ℕ → ℕ → Bool
bad_place starts lengths i =
    eqb (get_or lengths i 0) 0 || ltb (get_or starts i 0) (end_before starts lengths i) || ltb last_place (end_at starts lengths i)

-- A number, other than 0, that returns after another entry: the entry does not go on with the one before it, and an earlier one has the number.
abbrev pub returns : List ℕ → ℕ → Bool
returns aggregates i =
    not (eqb (get_or aggregates i 0) 0) && not (goes_on aggregates i) && any_below (λ j. eqb (get_or aggregates j 0) (get_or aggregates i 0)) i

-- 2, by its aggregate number: over the limit, or it returns.
abbrev pub bad_number : List ℕ → ℕ → Bool
bad_number aggregates i = ltb most_aggregates (get_or aggregates i 0) || returns aggregates i

abbrev pub bad_file : List ℕ → List ℕ → List ℕ → ℕ → Bool
bad_file starts lengths aggregates i = bad_place starts lengths i || bad_number aggregates i

-- The number before the one at an index; before the first stands 0.
abbrev pub number_before : List ℕ → ℕ → ℕ
number_before numbers zero = 0
number_before numbers (suc i) = get_or numbers i 0

-- 4: file number not in the table or not ascending, or count 0.
abbrev pub bad_want : ℕ → List ℕ → List ℕ → ℕ → Bool
bad_want files numbers counts i =
    eqb (get_or numbers i 0) 0 || ltb files (get_or numbers i 0) || leb (get_or numbers i 0) (number_before numbers i) || eqb (get_or counts i 0) 0

-- 1 and 2: the table of files.
abbrev pub table_checks : List ℕ → List ℕ → List ℕ → List Verdict
table_checks starts lengths aggregates =
    refuse_if (ltb most_files (length starts) || not (eqb (length starts) (length lengths)) || not (eqb (length starts) (length aggregates))) FileRows
    ∷ refuse_at (first_where (bad_file starts lengths aggregates) (length starts)) BadFile
    ∷ []

-- 3, 4 and 5: the wants, for a table of so many files.
abbrev pub wants_checks : ℕ → List ℕ → List ℕ → List Verdict
wants_checks files numbers counts =
    refuse_if (ltb most_wants (length numbers) || not (eqb (length numbers) (length counts))) WantRows
    ∷ refuse_at (first_where (bad_want files numbers counts) (length numbers)) BadWant
    ∷ refuse_if (ltb most_reads (total counts)) TooManyReads
    ∷ []

-- 6 and 7: the turn price and the head place, for a rightmost wanted end (0 with no wants).
abbrev pub head_checks : ℕ → ℕ → ℕ → List Verdict
head_checks turn head rightmost =
    refuse_if (ltb highest_turn turn) TurnPrice
    ∷ refuse_if (ltb last_place head || ltb head rightmost) HeadPlace
    ∷ []

-- The first refusal of 1 to 7 that applies to a run. The head is judged after joining.
unfoldable pub judge_of : Run → Verdict
judge_of r =
    first_of
    (first_of (table_checks r.starts r.lengths r.aggregates)
    ∷ first_of (wants_checks (length r.starts) r.numbers r.counts)
    ∷ first_of (head_checks r.turn r.head (right_end (stops_of r)))
    ∷ [])
