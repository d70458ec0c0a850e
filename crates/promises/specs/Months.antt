-- The request on a month's page (L13): each total is the same figure taken over the list of runs; what is added part by part is that, for the
-- whole input's division into sheets, 25 with its place included; and the order of the sheets matters only for the tie.
use Rattle.std.specs.Prelude.{ℕ, zero, suc, ◌+◌, ◌-◌, ◌*◌, ◌≤◌, ◌<◌, ◌≡◌, Bool, true, false, cond, not, ◌&&◌, ◌⊎◌, Some, None, Result, Ok, Err, List, [], ◌∷◌, ◌++◌, length, get_or, take, drop, eqb, leb}
use Rattle.refusals.specs.declared.Refusal.TheVariants.{Accepted, BadSheetCount}
use Rattle.refusals.specs.declared.Verdict.{Verdict}
use Rattle.refusals.specs.Refusals.{number_of, is_refusal}
use Rattle.text_bytes.specs.Text.{line_feed, is_empty, has, before, behind, is_number, value_of}
use Rattle.answer_outcome.specs.declared.Outcome.{Outcome}
use Rattle.answer_outcome.specs.Outcomes.{OutcomeOf}
use Rattle.answer_month.specs.declared.Month.{Month}
use Rattle.answer_month.specs.declared.Mean.{Mean}
use Rattle.answer_month.specs.declared.CutOff.{CutOff}
use Rattle.answer_month.specs.Month.{empty_month, added_all}
use Rattle.answer_month.specs.Parts.{part_of, SheetAdded, input_verdict}
use Rattle.answer_month.specs.Page.{mean_of, page_text, PagePut}

-- A condition on every member of a list, and on the members of two lists one by one.
abbrev pub Every : {A : Type 0} → (A → Type 0) → List A → Type 0
Every P [] = Unit {0}
Every P (x ∷ xs) = P x × Every P xs

abbrev pub OneByOne : {A B : Type 0} → (A → B → Type 0) → List A → List B → Type 0
OneByOne P [] [] = Unit {0}
OneByOne P [] (y ∷ ys) = ⊥
OneByOne P (x ∷ xs) [] = ⊥
OneByOne P (x ∷ xs) (y ∷ ys) = P x y × OneByOne P xs ys

-- The outcomes of sheets.
abbrev pub Outcomes : List (List ℕ) → List Outcome → Type 0
Outcomes sheets runs = OneByOne OutcomeOf sheets runs

-- How many runs pass a test, and a figure of the accepted ones in all.
unfoldable pub how_many_runs : (Outcome → Bool) → List Outcome → ℕ
how_many_runs test [] = 0
how_many_runs test (run ∷ runs) = cond (test run) 1 0 + how_many_runs test runs

abbrev pub is_accepted_run : Outcome → Bool
is_accepted_run run = not (is_refusal run.refusal)

-- A figure of a run: 0 where it is refused.
abbrev pub of_accepted : (Outcome → ℕ) → Outcome → ℕ
of_accepted figure run = cond (is_refusal run.refusal) 0 (figure run)

unfoldable pub in_all : (Outcome → ℕ) → List Outcome → ℕ
in_all figure [] = 0
in_all figure (run ∷ runs) = of_accepted figure run + in_all figure runs

abbrev pub is_refused_by : ℕ → Outcome → Bool
is_refused_by n run = is_refusal run.refusal && eqb (number_of run.refusal) n

-- The longest time of a run; a refused one has none.
abbrev pub longest_time : Outcome → ℕ
longest_time run = of_accepted (λ r. r.time) run

-- No run has a time: 0, no name and 0.
pub record NoneRead (runs : List Outcome) (m : Month) : Type 0 where
  pub none : Every (λ r. longest_time r ≡ 0) runs
  pub time : m.time ≡ 0
  pub file : m.file ≡ 0
  pub letters : m.letters ≡ 0

-- Or a run has the longest: all before it have a shorter time, and none behind it has a longer one.
pub record FirstLongest (runs : List Outcome) (m : Month) : Type 0 where
  pub earlier : List Outcome
  pub run : Outcome
  pub later : List Outcome
  pub stands : runs ≡ earlier ++ (run ∷ later)
  pub read : 0 < longest_time run
  pub shorter : Every (λ r. longest_time r < longest_time run) earlier
  pub longest : Every (λ r. longest_time r ≤ longest_time run) later
  pub time : m.time ≡ longest_time run
  pub file : m.file ≡ run.file
  pub letters : m.letters ≡ run.letters
  pub tape : m.tape ≡ run.tape

-- A month has the figures of a list of runs, exactly: no total has passed 2 to the 64.
pub record MonthFigures (runs : List Outcome) (m : Month) : Type 0 where
  pub sheets : m.sheets ≡ length runs
  pub accepted : m.accepted ≡ how_many_runs is_accepted_run runs
  pub refused : (n : ℕ) → get_or m.refused n 0 ≡ how_many_runs (is_refused_by n) runs
  pub reads : m.reads ≡ in_all (λ r. r.reads) runs
  pub sum : m.sum ≡ in_all (λ r. r.sum) runs
  pub saved : m.saved ≡ in_all (λ r. r.saved) runs
  pub longest : NoneRead runs m ⊎ FirstLongest runs m
  pub exact : m.over ≡ false

-- Of up to 1,000 sheets a month has the figures of the runs.
abbrev pub MonthCounts : Type 0
MonthCounts =
    (sheets : List (List ℕ)) (runs : List Outcome)
    → length sheets ≤ 1000
    → Outcomes sheets runs
    → MonthFigures runs (added_all empty_month runs)

-- With no reads: 0, no name and 0.
abbrev pub NoReadsNoName : Type 0
NoReadsNoName =
    (sheets : List (List ℕ)) (runs : List Outcome)
    → length sheets ≤ 1000
    → Outcomes sheets runs
    → (added_all empty_month runs).reads ≡ 0
    → NoneRead runs (added_all empty_month runs)

-- With reads a run is named: each read takes its time, so some time is above 0.
abbrev pub ReadsNameARun : Type 0
ReadsNameARun =
    (sheets : List (List ℕ)) (runs : List Outcome)
    → length sheets ≤ 1000
    → Outcomes sheets runs
    → 0 < (added_all empty_month runs).reads
    → FirstLongest runs (added_all empty_month runs)

-- The mean: the sum is so many times the reads and a remainder below them; 0 and 0 where nothing is read.
pub record MeanIs (sum reads : ℕ) (mean : Mean) : Type 0 where
  pub none : reads ≡ 0 → (mean.whole ≡ 0) × (mean.rest ≡ 0)
  pub some : 0 < reads → (sum ≡ mean.whole * reads + mean.rest) × (mean.rest < reads)

abbrev pub MeanExact : Type 0
MeanExact = (sum reads : ℕ) → MeanIs sum reads (mean_of sum reads)

-- The whole input, divided: a number, an LF and so many bytes, again and again. It is good where it ends behind a sheet, after at most so many.
pub record Division : Type 0 where
  pub sheets : List (List ℕ)
  pub good : Bool

abbrev pub is_whole : List ℕ → Bool
is_whole input = has line_feed input && is_number (before line_feed input) && leb (value_of (before line_feed input)) (length (behind line_feed input))

abbrev pub sheet_in : List ℕ → List ℕ
sheet_in input = take (value_of (before line_feed input)) (behind line_feed input)

abbrev pub behind_sheet : List ℕ → List ℕ
behind_sheet input = drop (value_of (before line_feed input)) (behind line_feed input)

unfoldable pub divided : ℕ → List ℕ → Division
divided zero input = record { sheets = []; good = is_empty input }
divided (suc n) input =
    cond (is_empty input) (record { sheets = []; good = true })
    (cond (is_whole input)
    (record { sheets = sheet_in input ∷ (divided n (behind_sheet input)).sheets; good = (divided n (behind_sheet input)).good })
    (record { sheets = []; good = false }))

-- What the program holds of the input: a line up to its LF, at most 21 bytes of it; behind a byte count the sheet's bytes, of which it keeps 16,385.
abbrev pub line_held : List ℕ → List ℕ
line_held input = take 21 (cond (has line_feed input) (before line_feed input ++ (line_feed ∷ [])) input)

abbrev pub rest_of : List ℕ → List ℕ
rest_of input = drop (length (line_held input)) input

abbrev pub kept_of : ℕ → List ℕ → List ℕ
kept_of bytes rest = take 16385 (take bytes rest)

-- Reading part by part, by what the functions of the crate answer: from a month and the rest of the input to the month and whether the input was good.
pub data ReadsOn : Month → List ℕ → Month → Bool → Type 0 where
  at_end : {m : Month} {input : List ℕ} → part_of m.sheets (line_held input) ≡ Ok None → ReadsOn m input m true
  no_part : {m : Month} {input : List ℕ} → part_of m.sheets (line_held input) ≡ Err (record {}) → ReadsOn m input m false
  cut_short : {m : Month} {input : List ℕ} {bytes : ℕ} → part_of m.sheets (line_held input) ≡ Ok (Some bytes)
      → SheetAdded m bytes (length (take bytes (rest_of input))) (kept_of bytes (rest_of input)) (Err (record { month = m })) → ReadsOn m input m false
  one_more : {m next m' : Month} {input : List ℕ} {bytes : ℕ} {good : Bool} → part_of m.sheets (line_held input) ≡ Ok (Some bytes)
      → SheetAdded m bytes (length (take bytes (rest_of input))) (kept_of bytes (rest_of input)) (Ok next)
      → ReadsOn next (drop bytes (rest_of input)) m' good → ReadsOn m input m' good

-- What was read is the month of the sheets that the input divides into; it is refused where that is not good, by 25 with the number of the sheet behind them.
pub record MonthOfInput (input : List ℕ) (m : Month) (good : Bool) : Type 0 where
  pub runs : List Outcome
  pub outcomes : Outcomes (divided 1000 input).sheets runs
  pub month : m ≡ added_all empty_month runs
  pub figures : MonthFigures runs m
  pub whole : good ≡ (divided 1000 input).good
  pub passes : good ≡ true → (input_verdict m good).refusal ≡ Accepted
  pub place : good ≡ false → input_verdict m good ≡ record { refusal = BadSheetCount; place = length (divided 1000 input).sheets + 1 }

abbrev pub PartByPart : Type 0
PartByPart = (input : List ℕ) (m : Month) (good : Bool) → ReadsOn empty_month input m good → MonthOfInput input m good

-- And every input is so read, to its end or to where it is not good.
abbrev pub EveryInputIsRead : Type 0
EveryInputIsRead = (input : List ℕ) → (m : Month) × ((good : Bool) × ReadsOn empty_month input m good)

-- A list in another order: neighbours change places, again and again.
pub data Reordered {A : Type 0} : List A → List A → Type 0 where
  same : {xs : List A} → Reordered xs xs
  behind_first : {x : A} {xs ys : List A} → Reordered xs ys → Reordered (x ∷ xs) (x ∷ ys)
  swapped : {x y : A} {xs : List A} → Reordered (x ∷ (y ∷ xs)) (y ∷ (x ∷ xs))
  both : {xs ys zs : List A} → Reordered xs ys → Reordered ys zs → Reordered xs zs

-- The same but for the longest time's file and tape.
pub record SameTotals (m m' : Month) : Type 0 where
  pub sheets : m.sheets ≡ m'.sheets
  pub accepted : m.accepted ≡ m'.accepted
  pub refused : (n : ℕ) → get_or m.refused n 0 ≡ get_or m'.refused n 0
  pub reads : m.reads ≡ m'.reads
  pub sum : m.sum ≡ m'.sum
  pub saved : m.saved ≡ m'.saved
  pub time : m.time ≡ m'.time

pub record SameNames (m m' : Month) : Type 0 where
  pub file : m.file ≡ m'.file
  pub letters : m.letters ≡ m'.letters
  pub tape : 0 < m.time → m.tape ≡ m'.tape

-- No two runs share the longest time.
abbrev pub OneLongest : List Outcome → Month → Type 0
OneLongest runs m = how_many_runs (λ r. eqb (longest_time r) m.time) runs ≤ 1

abbrev pub OrderIsTie : Type 0
OrderIsTie =
    (sheets sheets' : List (List ℕ)) (runs runs' : List Outcome)
    → length sheets ≤ 1000
    → Reordered sheets sheets'
    → Outcomes sheets runs
    → Outcomes sheets' runs'
    → SameTotals (added_all empty_month runs) (added_all empty_month runs')
    × (OneLongest runs (added_all empty_month runs) → SameNames (added_all empty_month runs) (added_all empty_month runs'))

-- The page's text is the month's and the verdict's: two rows that fit hold the same bytes.
abbrev pub OnePage : Type 0
OnePage =
    (m : Month) (v : Verdict) (row : List ℕ) (n n' : ℕ) (row' row'' : List ℕ)
    → PagePut m v row n row'
    → PagePut m v row n' row''
    → (n ≡ n') × (row' ≡ row'')

-- So is a sheet that is added: two results that fit are equal.
abbrev pub OneSheetMore : Type 0
OneSheetMore =
    (m : Month) (bytes there : ℕ) (sheet : List ℕ) (r s : Result Month CutOff)
    → SheetAdded m bytes there sheet r
    → SheetAdded m bytes there sheet s
    → r ≡ s
