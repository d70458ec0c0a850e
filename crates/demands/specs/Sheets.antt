-- The sheets' share of the demands: the reader and the two writers refuse by the table, first that applies, and change nothing then
-- (demand 1); and what the run sheet writer writes reads back (demand 2).
use Rattle.std.specs.Prelude.{ℕ, ◌≤◌, ◌<◌, ◌≡◌, true, false, List, [], ◌∷◌, ◌++◌, length, take, drop}
use Rattle.refusals.specs.declared.Refusal.{Refusal}
use Rattle.refusals.specs.declared.Refusal.TheVariants.{Accepted, FileRows, BadFile, WantRows, BadWant, TooManyReads, TurnPrice, HeadPlace, ShortRow, BadEntry, BadLine, LongSheet, BadName, RetiredRule}
use Rattle.runs.specs.Run.{Run, run_of}
use Rattle.sheet_reader.specs.declared.Reading.{Reading}
use Rattle.sheet_writer.specs.declared.Written.{Written}
use Rattle.text_bytes.specs.Text.{is_name}
use Rattle.sheet_reader.specs.Lines.{sweep_text, least_text}
use Rattle.sheet_reader.specs.Sheet.{sheet_files, sheet_wants, sheet_run}
use Rattle.sheet_reader.specs.Reading.{read_verdict, read_answer, read_row, RunRows, SheetRead, read_name}
use Rattle.sheet_writer.specs.Writing.{sheet_text, write_verdict, written_answer, written_row, SheetWritten}
use Rattle.sheet_writer.specs.PlanSheet.{plan_text, plan_sheet_verdict}
use Rattle.demands.specs.RefusalTable.{FirstBad, RunApplies, NothingApplies, ListIsBad, FirstThatApplies}
use Rattle.demands.specs.Lines.{LineIsBad, lines_due, Ruled}

-- The reader: 12, then 11 with the first line that is not as described, then 19 with the fourth line where that names the retired rule, then 8.
abbrev pub read_order : List Refusal
read_order = LongSheet ∷ BadLine ∷ RetiredRule ∷ ShortRow ∷ []

pub data ReadApplies (sheet : List ℕ) (rows : RunRows) : Refusal → ℕ → Type 0 where
  too_long : 16384 < length sheet → ReadApplies sheet rows LongSheet 0
  bad_line : {place : ℕ} → FirstBad (LineIsBad sheet) (lines_due sheet) place → ReadApplies sheet rows BadLine place
  retired_rule : Ruled sweep_text sheet → ReadApplies sheet rows RetiredRule 4
  short_starts : length rows.starts < sheet_files sheet → ReadApplies sheet rows ShortRow 0
  short_lengths : length rows.lengths < sheet_files sheet → ReadApplies sheet rows ShortRow 0
  short_aggregates : length rows.aggregates < sheet_files sheet → ReadApplies sheet rows ShortRow 0
  short_numbers : length rows.numbers < sheet_wants sheet → ReadApplies sheet rows ShortRow 0
  short_counts : length rows.counts < sheet_wants sheet → ReadApplies sheet rows ShortRow 0

-- A refusal of the reader: every other number 0.
pub record NothingRead (answer : Reading) : Type 0 where
  pub head : answer.head ≡ 0
  pub turn : answer.turn ≡ 0
  pub files : answer.files ≡ 0
  pub wants : answer.wants ≡ 0

pub record ReadAnswers (sheet : List ℕ) (before : RunRows) (answer : Reading) (after : RunRows) : Type 0 where
  pub first : FirstThatApplies (ReadApplies sheet before) read_order answer.refusal answer.place
  pub kept : (answer.refusal ≡ Accepted → ⊥) → NothingRead answer × (after ≡ before)

abbrev pub Demand1Read : Type 0
Demand1Read = (sheet : List ℕ) (before : RunRows) (answer : Reading) (after : RunRows) → SheetRead sheet before answer after → ReadAnswers sheet before answer after

-- There is one rule: an accepted sheet names it.
abbrev pub OneRule : Type 0
OneRule =
    (sheet : List ℕ) (before : RunRows) (reading : Reading) (after : RunRows)
    → SheetRead sheet before reading after
    → reading.refusal ≡ Accepted
    → Ruled least_text sheet

-- The run sheet writer: 1 to 7, then 13, then 8. The writers of plan sheets and of figure sheets (Buys): 1 to 7, then 13, then 10, then 8.
abbrev pub write_order : List Refusal
write_order = FileRows ∷ BadFile ∷ WantRows ∷ BadWant ∷ TooManyReads ∷ TurnPrice ∷ HeadPlace ∷ BadName ∷ ShortRow ∷ []

abbrev pub list_sheet_order : List Refusal
list_sheet_order = FileRows ∷ BadFile ∷ WantRows ∷ BadWant ∷ TooManyReads ∷ TurnPrice ∷ HeadPlace ∷ BadName ∷ BadEntry ∷ ShortRow ∷ []

pub data WriteApplies (name : List ℕ) (r : Run) (row : List ℕ) : Refusal → ℕ → Type 0 where
  run : {kind : Refusal} {place : ℕ} → RunApplies r kind place → WriteApplies name r row kind place
  many_files : 256 < length r.starts → WriteApplies name r row BadName 0
  bad_name : is_name name ≡ false → WriteApplies name r row BadName 0
  short_row : length row < length (sheet_text name r) → WriteApplies name r row ShortRow 0

pub data ListSheetApplies (name : List ℕ) (r : Run) (froms tos text row : List ℕ) : Refusal → ℕ → Type 0 where
  run : {kind : Refusal} {place : ℕ} → RunApplies r kind place → ListSheetApplies name r froms tos text row kind place
  bad_name : is_name name ≡ false → ListSheetApplies name r froms tos text row BadName 0
  bad_list : {place : ℕ} → ListIsBad r froms tos place → ListSheetApplies name r froms tos text row BadEntry place
  short_row : length row < length text → ListSheetApplies name r froms tos text row ShortRow 0

-- A writer's refusal: no bytes, and the row as it was.
pub record WriteAnswers (applies : Refusal → ℕ → Type 0) (order : List Refusal) (row : List ℕ) (answer : Written) (out : List ℕ) : Type 0 where
  pub first : FirstThatApplies applies order answer.refusal answer.place
  pub kept : (answer.refusal ≡ Accepted → ⊥) → (answer.bytes ≡ 0) × (out ≡ row)

abbrev pub Demand1Write : Type 0
Demand1Write =
    (name : List ℕ) (r : Run) (row : List ℕ) (answer : Written) (out : List ℕ)
    → answer ≡ written_answer (write_verdict name r row) (sheet_text name r)
    → out ≡ written_row (write_verdict name r row) (sheet_text name r) row
    → WriteAnswers (WriteApplies name r row) write_order row answer out

abbrev pub Demand1PlanSheet : Type 0
Demand1PlanSheet =
    (name : List ℕ) (r : Run) (froms tos row : List ℕ) (answer : Written) (out : List ℕ)
    → answer ≡ written_answer (plan_sheet_verdict name r froms tos row) (plan_text name r froms tos)
    → out ≡ written_row (plan_sheet_verdict name r froms tos row) (plan_text name r froms tos) row
    → WriteAnswers (ListSheetApplies name r froms tos (plan_text name r froms tos) row) list_sheet_order row answer out

-- What the writer wrote, where it accepts: as many bytes as it says, and they are the sheet.
abbrev pub Demand2Written : Type 0
Demand2Written =
    (name : List ℕ) (r : Run) (row : List ℕ) (answer : Written) (out : List ℕ)
    → answer ≡ written_answer (write_verdict name r row) (sheet_text name r)
    → out ≡ written_row (write_verdict name r row) (sheet_text name r) row
    → answer.refusal ≡ Accepted
    → take answer.bytes out ≡ sheet_text name r

-- What the reader gives for the sheet that the writer writes, in rows that are long enough: that run and that name.
pub record GivesBack (name : List ℕ) (r : Run) (starts lengths aggregates numbers counts : List ℕ) : Type 0 where
  pub answer : read_answer (read_verdict (sheet_text name r) starts lengths aggregates numbers counts) (sheet_text name r)
      ≡ record { refusal = Accepted; place = 0; head = r.head; turn = r.turn; files = length r.starts; wants = length r.numbers }
  pub starts_are : read_row (read_verdict (sheet_text name r) starts lengths aggregates numbers counts) (sheet_run (sheet_text name r)).starts starts ≡ r.starts ++ drop (length r.starts) starts
  pub lengths_are : read_row (read_verdict (sheet_text name r) starts lengths aggregates numbers counts) (sheet_run (sheet_text name r)).lengths lengths ≡ r.lengths ++ drop (length r.lengths) lengths
  pub aggregates_are : read_row (read_verdict (sheet_text name r) starts lengths aggregates numbers counts) (sheet_run (sheet_text name r)).aggregates aggregates ≡ r.aggregates ++ drop (length r.aggregates) aggregates
  pub numbers_are : read_row (read_verdict (sheet_text name r) starts lengths aggregates numbers counts) (sheet_run (sheet_text name r)).numbers numbers ≡ r.numbers ++ drop (length r.numbers) numbers
  pub counts_are : read_row (read_verdict (sheet_text name r) starts lengths aggregates numbers counts) (sheet_run (sheet_text name r)).counts counts ≡ r.counts ++ drop (length r.counts) counts
  pub name_is : read_name (sheet_text name r) ≡ name

abbrev pub Demand2RoundTrip : Type 0
Demand2RoundTrip =
    (name : List ℕ) (r : Run)
    → NothingApplies r
    → length r.starts ≤ 256
    → is_name name ≡ true
    → (starts lengths aggregates numbers counts : List ℕ)
    → length r.starts ≤ length starts
    → length r.lengths ≤ length lengths
    → length r.aggregates ≤ length aggregates
    → length r.numbers ≤ length numbers
    → length r.counts ≤ length counts
    → GivesBack name r starts lengths aggregates numbers counts

-- Write, then read. The run that a reading answers and leaves in the rows: as many entries of each as it says.
abbrev pub run_read : Reading → RunRows → Run
run_read answer rows =
    run_of (take answer.files rows.starts) (take answer.files rows.lengths) (take answer.files rows.aggregates)
    (take answer.wants rows.numbers) (take answer.wants rows.counts) answer.head answer.turn

pub record LongEnough (r : Run) (rows : RunRows) : Type 0 where
  pub starts : length r.starts ≤ length rows.starts
  pub lengths : length r.lengths ≤ length rows.lengths
  pub aggregates : length r.aggregates ≤ length rows.aggregates
  pub numbers : length r.numbers ≤ length rows.numbers
  pub counts : length r.counts ≤ length rows.counts

-- What the writer leaves in its row, read into rows that are long enough, gives back the run and the name; its rule is least.
pub record RunComesBack (name : List ℕ) (r : Run) (sheet : List ℕ) (answer : Reading) (after : RunRows) : Type 0 where
  pub accepted : answer.refusal ≡ Accepted
  pub run : run_read answer after ≡ r
  pub ruled : Ruled least_text sheet
  pub named : read_name sheet ≡ name

abbrev pub WriteThenRead : Type 0
WriteThenRead =
    (name : List ℕ) (r : Run) (row : List ℕ) (written : Written) (out : List ℕ)
    → SheetWritten name r row written out
    → written.refusal ≡ Accepted
    → (before : RunRows) (answer : Reading) (after : RunRows)
    → LongEnough r before
    → SheetRead (take written.bytes out) before answer after
    → RunComesBack name r (take written.bytes out) answer after
