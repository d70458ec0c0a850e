-- Functions for a caller in Rattle that other functions go by, each by conditions of its own: what is handed out for a verdict, a run judged with its head anywhere, stops
-- joined in four rows, the longest of some times, and a month with one outcome more.
use Rattle.std.specs.Prelude.{ℕ, Result, Ok, Err, ◌+◌, ◌-◌, ◌^◌, ◌≤◌, ◌<◌, ◌≡◌, true, false, ◌⊎◌, ◌↔◌, List, [], ◌∷◌, ◌++◌, length, get_or, drop}
use Rattle.refusals.specs.declared.Refusal.{Refusal}
use Rattle.refusals.specs.declared.Refusal.TheVariants.{Accepted, FileRows, BadFile, WantRows, BadWant, TooManyReads, TurnPrice, HeadPlace, ShortRow}
use Rattle.refusals.specs.declared.Verdict.{Verdict}
use Rattle.refusals.specs.Refusals.{number_of, is_refusal, accepted}
use Rattle.runs.specs.Run.{Run, Stop, stops_of}
use Rattle.runs.specs.Rows.{stop_at}
use Rattle.runs.specs.AnyHead.{judge_any_of}
use Rattle.engine_stops.specs.Joining.{JoinRows, join_answer, join_rows_of}
use Rattle.sheet_reader.specs.Sheet.{sheet_run}
use Rattle.sheet_writer.specs.declared.Written.{Written}
use Rattle.sheet_writer.specs.Writing.{written_of, written_answer, row_verdict, Handed}
use Rattle.answer_outcome.specs.declared.Outcome.{Outcome}
use Rattle.answer_outcome.specs.declared.Longest.{Longest}
use Rattle.answer_outcome.specs.Outcomes.{longest_of}
use Rattle.answer_month.specs.declared.Month.{Month}
use Rattle.answer_month.specs.Month.{added, added_all}
use Rattle.demands.specs.RefusalTable.{HasStops, RunApplies, FirstThatApplies}
use Rattle.demands.specs.Judged.{run_order}
use Rattle.demands.specs.AnyHead.{RunAppliesAny}
use Rattle.promises.specs.MonthLongest.{FirstOfLongest}
use Rattle.promises.specs.Answers.{example_sheet, LinesHanded}

-- What is handed out for a verdict: so many bytes where it accepts; of a refusal its kind and place, and no bytes.
pub record ToldFor (v : Verdict) (n : ℕ) (w : Written) : Type 0 where
  pub written : is_refusal v.refusal ≡ false → w ≡ record { refusal = Accepted; place = 0; bytes = n }
  pub refused : is_refusal v.refusal ≡ true → w ≡ record { refusal = v.refusal; place = v.place; bytes = 0 }

abbrev pub BytesAreHanded : Type 0
BytesAreHanded = (v : Verdict) (n : ℕ) → ToldFor v n (written_of v n)

abbrev pub TextsAreHanded : Type 0
TextsAreHanded = (v : Verdict) (text : List ℕ) → ToldFor v (length text) (written_answer v text)

-- A text handed out in any row: in its first bytes, the later ones as they were; 8 where the row is shorter, which is then as it was.
abbrev pub TextIsHandedOut : Type 0
TextIsHandedOut = (text row : List ℕ) (w : Written) (row' : List ℕ) → Handed (row_verdict text row) text row w row' → LinesHanded text row w row'

-- A run with its head anywhere: 1 to 7, the first that applies.
abbrev pub JudgedAnyByTheTable : Type 0
JudgedAnyByTheTable = (r : Run) → FirstThatApplies (RunAppliesAny r) run_order (judge_any_of r).refusal (judge_any_of r).place

-- Joining: 1 to 7, then 8 where a row is shorter than the stops that the wants make.
pub data JoinApplies (r : Run) (rows : JoinRows) : Refusal → ℕ → Type 0 where
  run : {kind : Refusal} {place : ℕ} → RunApplies r kind place → JoinApplies r rows kind place
  short_firsts : {stops : ℕ} → HasStops r stops → length rows.firsts < stops → JoinApplies r rows ShortRow 0
  short_lefts : {stops : ℕ} → HasStops r stops → length rows.lefts < stops → JoinApplies r rows ShortRow 0
  short_spans : {stops : ℕ} → HasStops r stops → length rows.spans < stops → JoinApplies r rows ShortRow 0
  short_reads : {stops : ℕ} → HasStops r stops → length rows.reads < stops → JoinApplies r rows ShortRow 0

abbrev pub join_order : List Refusal
join_order = FileRows ∷ BadFile ∷ WantRows ∷ BadWant ∷ TooManyReads ∷ TurnPrice ∷ HeadPlace ∷ ShortRow ∷ []

-- A row afterwards: in its first entries a number of each stop, in their order; the later ones as they were.
pub record HasOfEach (number : Stop → ℕ) (stops : List Stop) (row row' : List ℕ) : Type 0 where
  pub first : (j : ℕ) → j < length stops → get_or row' j 0 ≡ number (stop_at stops j)
  pub behind : drop (length stops) row' ≡ drop (length stops) row

-- The four rows: the stop's file, its start, its length and its reads.
pub record StopsInRows (stops : List Stop) (before after : JoinRows) : Type 0 where
  pub firsts : HasOfEach (λ s. s.file) stops before.firsts after.firsts
  pub lefts : HasOfEach (λ s. s.start) stops before.lefts after.lefts
  pub spans : HasOfEach (λ s. s.end - s.start) stops before.spans after.spans
  pub reads : HasOfEach (λ s. s.count) stops before.reads after.reads

-- The verdict of an answer: acceptance where it is a number.
abbrev pub verdict_told : Result ℕ Verdict → Verdict
verdict_told (Ok n) = accepted
verdict_told (Err v) = v

-- The first refusal that applies, and then no number of stops and every row as it was; or the number of stops that the wants make, and the run's stops in the rows.
pub record JoinAnswers (r : Run) (before : JoinRows) (answer : Result ℕ Verdict) (after : JoinRows) : Type 0 where
  pub first : FirstThatApplies (JoinApplies r before) join_order (verdict_told answer).refusal (verdict_told answer).place
  pub kept : (v : Verdict) → answer ≡ Err v → (v.refusal ≡ Accepted → ⊥) × (after ≡ before)
  pub counted : (stops : ℕ) → answer ≡ Ok stops → HasStops r stops × (stops ≡ length (stops_of r))
  pub joined : (stops : ℕ) → answer ≡ Ok stops → StopsInRows (stops_of r) before after

abbrev pub JoinTells : Type 0
JoinTells =
    (r : Run) (before : JoinRows) (answer : Result ℕ Verdict) (after : JoinRows)
    → answer ≡ join_answer r before
    → after ≡ join_rows_of r before
    → JoinAnswers r before answer after

-- The stops of the sheet of document 01 in rows of four entries.
abbrev pub four_rows : List ℕ → List ℕ → List ℕ → List ℕ → JoinRows
four_rows firsts lefts spans reads = record { firsts = firsts; lefts = lefts; spans = spans; reads = reads }

abbrev pub JoinsTheExample : Type 0
JoinsTheExample =
    (answer : Result ℕ Verdict) (after : JoinRows)
    → answer ≡ join_answer (sheet_run example_sheet) (four_rows (6 ∷ 6 ∷ 6 ∷ 6 ∷ []) (7 ∷ 7 ∷ 7 ∷ 7 ∷ []) (8 ∷ 8 ∷ 8 ∷ 8 ∷ []) (9 ∷ 9 ∷ 9 ∷ 9 ∷ []))
    → after ≡ join_rows_of (sheet_run example_sheet) (four_rows (6 ∷ 6 ∷ 6 ∷ 6 ∷ []) (7 ∷ 7 ∷ 7 ∷ 7 ∷ []) (8 ∷ 8 ∷ 8 ∷ 8 ∷ []) (9 ∷ 9 ∷ 9 ∷ 9 ∷ []))
    → (answer ≡ Ok 3) × (after ≡ four_rows (1 ∷ 2 ∷ 3 ∷ 6 ∷ []) (0 ∷ 10 ∷ 20 ∷ 7 ∷ []) (10 ∷ 4 ∷ 30 ∷ 8 ∷ []) (1 ∷ 3 ∷ 1 ∷ 9 ∷ []))

-- The longest of some times, of any two rows: a file without a time counts as one with 0, and a time without a file not at all. None is longer; where it is above 0,
-- it is the first of the longest; else there is no file.
pub record IsLongestOf (files times : List ℕ) (l : Longest) : Type 0 where
  pub longest : (i : ℕ) → i < length files → get_or times i 0 ≤ l.time
  pub some : 0 < l.time → FirstOfLongest files times l.time l.file
  pub none : l.time ≡ 0 → l.file ≡ 0

abbrev pub LongestIsFirst : Type 0
LongestIsFirst = (files times : List ℕ) → IsLongestOf files times (longest_of files times)

-- A total with some more: their sum, or the total as it was where that would reach 2 to the 64.
abbrev pub Overflows : ℕ → ℕ → Type 0
Overflows total more = 2 ^ 64 ≤ total + more

pub record Grows (total more total' : ℕ) : Type 0 where
  pub within : total + more < 2 ^ 64 → total' ≡ total + more
  pub beyond : Overflows total more → total' ≡ total

-- The longest time with its names.
pub record NamesStay (m m' : Month) : Type 0 where
  pub time : m'.time ≡ m.time
  pub file : m'.file ≡ m.file
  pub letters : m'.letters ≡ m.letters
  pub tape : m'.tape ≡ m.tape

pub record NamesOf (o : Outcome) (m' : Month) : Type 0 where
  pub time : m'.time ≡ o.time
  pub file : m'.file ≡ o.file
  pub letters : m'.letters ≡ o.letters
  pub tape : m'.tape ≡ o.tape

-- One refused run more: one sheet and one of its number, and nothing else.
pub record RefusedMore (m : Month) (number : ℕ) (m' : Month) : Type 0 where
  pub sheets : Grows m.sheets 1 m'.sheets
  pub its_number : number < length m.refused → Grows (get_or m.refused number 0) 1 (get_or m'.refused number 0)
  pub others : (n : ℕ) → (n ≡ number → ⊥) → get_or m'.refused n 0 ≡ get_or m.refused n 0
  pub accepted : m'.accepted ≡ m.accepted
  pub reads : m'.reads ≡ m.reads
  pub sum : m'.sum ≡ m.sum
  pub saved : m'.saved ≡ m.saved
  pub names : NamesStay m m'
  pub over : (m'.over ≡ true) ↔ ((m.over ≡ true) ⊎ (Overflows m.sheets 1 ⊎ Overflows (get_or m.refused number 0) 1))

-- One accepted run more: its reads, its sum and what it saves; its longest time, with file and tape, where that is longer.
pub record TotalsMore (m : Month) (o : Outcome) (m' : Month) : Type 0 where
  pub sheets : Grows m.sheets 1 m'.sheets
  pub accepted : Grows m.accepted 1 m'.accepted
  pub reads : Grows m.reads o.reads m'.reads
  pub sum : Grows m.sum o.sum m'.sum
  pub saved : Grows m.saved o.saved m'.saved
  pub refused : m'.refused ≡ m.refused
  pub over : (m'.over ≡ true)
      ↔ ((m.over ≡ true) ⊎ (((Overflows m.sheets 1 ⊎ Overflows m.accepted 1) ⊎ (Overflows m.reads o.reads ⊎ Overflows m.sum o.sum)) ⊎ Overflows m.saved o.saved))

pub record AcceptedMore (m : Month) (o : Outcome) (m' : Month) : Type 0 where
  pub totals : TotalsMore m o m'
  pub longer : m.time < o.time → NamesOf o m'
  pub no_longer : o.time ≤ m.time → NamesStay m m'

pub record WithOneMore (m : Month) (o : Outcome) (m' : Month) : Type 0 where
  pub refused : is_refusal o.refusal ≡ true → RefusedMore m (number_of o.refusal) m'
  pub accepted : is_refusal o.refusal ≡ false → AcceptedMore m o m'

abbrev pub OutcomeIsAdded : Type 0
OutcomeIsAdded = (m : Month) (o : Outcome) → WithOneMore m o (added m o)

-- Several are added one behind the other.
abbrev pub AddedInTurn : Type 0
AddedInTurn = (m : Month) (runs : List Outcome) (o : Outcome) → (added_all m [] ≡ m) × (added_all m (runs ++ (o ∷ [])) ≡ added (added_all m runs) o)
