-- What a run sheet says, line by line: the run that the reader leaves in its rows has the numbers that stand on the lines, whatever the planner says of that run, and
-- later entries of each row are as they were. How the contracts take the numbers out of the text nobody need believe.
use Rattle.std.specs.Prelude.{ℕ, ◌+◌, ◌≤◌, ◌<◌, ◌≡◌, ◌⊎◌, List, [], ◌∷◌, ◌++◌, length, get_or, take, drop}
use Rattle.refusals.specs.declared.Refusal.TheVariants.{Accepted}
use Rattle.runs.specs.Run.{Run}
use Rattle.text_bytes.specs.Text.{comma, value_of, decimal}
use Rattle.sheet_reader.specs.declared.Reading.{Reading}
use Rattle.sheet_reader.specs.Lines.{tape_key, head_key, turn_key, files_key, file_key, wants_key, want_key}
use Rattle.sheet_reader.specs.Sheet.{sheet_files, sheet_wants, sheet_name, sheet_run}
use Rattle.sheet_reader.specs.Reading.{RunRows, SheetRead, read_name}
use Rattle.demands.specs.RefusalTable.{FirstBad}
use Rattle.demands.specs.Lines.{Stands, Name, Number, LineIsBad, lines_due}
use Rattle.demands.specs.Sheets.{run_read}

-- Numbers on a line, with commas between them.
abbrev pub two_numbers : ℕ → ℕ → List ℕ
two_numbers a b = decimal a ++ (comma ∷ decimal b)

abbrev pub three_numbers : ℕ → ℕ → ℕ → List ℕ
three_numbers a b c = decimal a ++ (comma ∷ two_numbers b c)

-- A price is left out, and is then the drives' own; or it is the number that stands there.
abbrev pub PriceText : ℕ → List ℕ → Type 0
PriceText turn text = ((text ≡ []) × (turn ≡ 12000)) ⊎ (text ≡ decimal turn)

-- A name and a run stand on a sheet: the name and the head, the price, how many files, each file's start, length and aggregate, how many wants, each want's file and
-- count.
pub record OnItsLines (sheet name : List ℕ) (r : Run) : Type 0 where
  pub tape : Stands tape_key (λ text. Name text × (text ≡ name)) sheet 0
  pub head : Stands head_key (λ text. text ≡ decimal r.head) sheet 1
  pub turn : Stands turn_key (PriceText r.turn) sheet 2
  pub files : Stands files_key (λ text. text ≡ decimal (length r.starts)) sheet 4
  pub file : (i : ℕ) → i < length r.starts → Stands file_key (λ text. text ≡ three_numbers (get_or r.starts i 0) (get_or r.lengths i 0) (get_or r.aggregates i 0)) sheet (5 + i)
  pub wants : Stands wants_key (λ text. text ≡ decimal (length r.numbers)) sheet (5 + length r.starts)
  pub want : (i : ℕ) → i < length r.numbers → Stands want_key (λ text. text ≡ two_numbers (get_or r.numbers i 0) (get_or r.counts i 0)) sheet (6 + length r.starts + i)
  pub lengths : length r.lengths ≡ length r.starts
  pub aggregates : length r.aggregates ≡ length r.starts
  pub counts : length r.counts ≡ length r.numbers

-- As many entries are filled as are told, and behind them every row is as it was.
pub record BehindRead (answer : Reading) (before after : RunRows) : Type 0 where
  pub files : answer.files ≡ length (take answer.files after.starts)
  pub wants : answer.wants ≡ length (take answer.wants after.numbers)
  pub starts : drop answer.files after.starts ≡ drop answer.files before.starts
  pub lengths : drop answer.files after.lengths ≡ drop answer.files before.lengths
  pub aggregates : drop answer.files after.aggregates ≡ drop answer.files before.aggregates
  pub numbers : drop answer.wants after.numbers ≡ drop answer.wants before.numbers
  pub counts : drop answer.wants after.counts ≡ drop answer.wants before.counts

-- The reader, of every sheet that it accepts.
abbrev pub ReadHoldsItsLines : Type 0
ReadHoldsItsLines =
    (sheet : List ℕ) (before : RunRows) (answer : Reading) (after : RunRows)
    → SheetRead sheet before answer after
    → answer.refusal ≡ Accepted
    → OnItsLines sheet (read_name sheet) (run_read answer after) × BehindRead answer before after

-- The name and the run that other statements take a sheet to hold, of every sheet that 11 does not apply to.
abbrev pub NoBadLine : List ℕ → Type 0
NoBadLine sheet = (place : ℕ) → FirstBad (LineIsBad sheet) (lines_due sheet) place → ⊥

abbrev pub SheetHoldsItsLines : Type 0
SheetHoldsItsLines = (sheet : List ℕ) → NoBadLine sheet → OnItsLines sheet (sheet_name sheet) (sheet_run sheet)

-- What 11 takes the two counts to be: of any sheet that has such a line, the number on it.
pub record CountsSaid (sheet : List ℕ) : Type 0 where
  pub files : (line : Stands files_key Number sheet 4) → sheet_files sheet ≡ value_of line.value
  pub wants : (line : Stands wants_key Number sheet (5 + sheet_files sheet)) → sheet_wants sheet ≡ value_of line.value

abbrev pub CountsAreSaid : Type 0
CountsAreSaid = (sheet : List ℕ) → CountsSaid sheet

-- The name that is handed out beside the answer: that of the first line, with 19 too, and none where 12 or 11 applies.
pub record NameRead (sheet : List ℕ) : Type 0 where
  pub read : length sheet ≤ 16384 → NoBadLine sheet → Stands tape_key (λ text. Name text × (text ≡ read_name sheet)) sheet 0
  pub long : 16384 < length sheet → read_name sheet ≡ []
  pub bad : (place : ℕ) → FirstBad (LineIsBad sheet) (lines_due sheet) place → read_name sheet ≡ []

abbrev pub NameIsRead : Type 0
NameIsRead = (sheet : List ℕ) → NameRead sheet
