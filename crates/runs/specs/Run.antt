-- The tape and the run, aggregates, and the stops: what is wanted, with its places and counts, left to right.
use Rattle.std.specs.Prelude.{ℕ, zero, suc, ◌+◌, ◌-◌, List, [], ◌∷◌, Bool, false, not, cond, ◌&&◌, length, get_or, eqb}

-- What is handed in. Entry f - 1 of `starts`, `lengths` and `aggregates` is the start of file f, its length and the number of its aggregate, 0 for
-- none. An entry of `numbers` and `counts` is a want: the file that it names, and how often that is to be read.
pub record Run : Type 0 where
  pub starts : List ℕ
  pub lengths : List ℕ
  pub aggregates : List ℕ
  pub numbers : List ℕ
  pub counts : List ℕ
  pub head : ℕ
  pub turn : ℕ

abbrev pub run_of : List ℕ → List ℕ → List ℕ → List ℕ → List ℕ → ℕ → ℕ → Run
run_of starts lengths aggregates numbers counts head turn =
    record { starts = starts; lengths = lengths; aggregates = aggregates; numbers = numbers; counts = counts; head = head; turn = turn }

-- The limits of 01, "The tape and the run", and of aggregate numbers. All of them are inclusive.
abbrev pub most_files : ℕ
most_files = 4096

abbrev pub most_aggregates : ℕ
most_aggregates = 4096

abbrev pub most_wants : ℕ
most_wants = 64

abbrev pub most_reads : ℕ
most_reads = 1024

abbrev pub last_place : ℕ
last_place = 1099511627776

abbrev pub highest_turn : ℕ
highest_turn = 4294967296

-- The total of a row, as a whole number.
abbrev pub total : List ℕ → ℕ
total [] = 0
total (c ∷ cs) = c + total cs

-- The end of the file at an index of the table, r = l + s, as a whole number.
abbrev pub end_at : List ℕ → List ℕ → ℕ → ℕ
end_at starts lengths i = get_or starts i 0 + get_or lengths i 0

-- Whether the entry at an index goes on with the one before it: both have the same number, other than 0.
unfoldable pub goes_on : List ℕ → ℕ → Bool
goes_on aggregates zero = false
goes_on aggregates (suc i) = not (eqb (get_or aggregates (suc i) 0) 0) && eqb (get_or aggregates i 0) (get_or aggregates (suc i) 0)

-- The first entry of the aggregate of the entry at an index: as far left as entries go on. An entry in no aggregate is its own.
unfoldable pub first_member : List ℕ → ℕ → ℕ
first_member aggregates zero = 0
first_member aggregates (suc i) = cond (goes_on aggregates (suc i)) (first_member aggregates i) (suc i)

-- The last: as far right as entries go on, in at most so many steps. No entry past the row goes on.
unfoldable pub last_within : List ℕ → ℕ → ℕ → ℕ
last_within aggregates zero i = i
last_within aggregates (suc n) i = cond (goes_on aggregates (suc i)) (last_within aggregates n (suc i)) i

abbrev pub last_member : List ℕ → ℕ → ℕ
last_member aggregates i = last_within aggregates (length aggregates) i

-- The number of the first file of a file's aggregate. Lists and ties speak of an aggregate by it.
abbrev pub first_file : List ℕ → ℕ → ℕ
first_file aggregates zero = 0
first_file aggregates (suc i) = suc (first_member aggregates i)

-- A stop: an aggregate, or a file in none, that is wanted. Its first file, its start, its end and how often it is wanted.
pub record Stop : Type 0 where
  pub file : ℕ
  pub start : ℕ
  pub end : ℕ
  pub count : ℕ

-- A want of a file is a want of its aggregate, from the first start to the last end.
abbrev pub stop_of : List ℕ → List ℕ → List ℕ → ℕ → ℕ → Stop
stop_of starts lengths aggregates f c =
    record {
      file = first_file aggregates f;
      start = get_or starts (first_member aggregates (f - 1)) 0;
      end = end_at starts lengths (last_member aggregates (f - 1));
      count = c;
    }

-- One for each want handed in.
unfoldable pub want_stops : List ℕ → List ℕ → List ℕ → List ℕ → List ℕ → List Stop
want_stops starts lengths aggregates [] cs = []
want_stops starts lengths aggregates (f ∷ fs) [] = []
want_stops starts lengths aggregates (f ∷ fs) (c ∷ cs) = stop_of starts lengths aggregates f c ∷ want_stops starts lengths aggregates fs cs

-- Two wants of one aggregate are one stop, and their counts add up.
abbrev pub merged : Stop → Stop → Stop
merged s t = record { file = s.file; start = s.start; end = s.end; count = s.count + t.count }

unfoldable pub join_to : Stop → List Stop → List Stop
join_to s [] = s ∷ []
join_to s (t ∷ ts) = cond (eqb s.file t.file) (merged s t ∷ ts) (s ∷ t ∷ ts)

unfoldable pub joined : List Stop → List Stop
joined [] = []
joined (s ∷ ss) = join_to s (joined ss)

-- The stops of a run. Unwanted files, gaps and the members of an aggregate disappear here and nowhere else.
abbrev pub want_stops_of : Run → List Stop
want_stops_of r = want_stops r.starts r.lengths r.aggregates r.numbers r.counts

abbrev pub stops_of : Run → List Stop
stops_of r = joined (want_stops_of r)
