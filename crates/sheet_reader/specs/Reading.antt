-- What the sheet reader answers, for every input of bytes, and the rows that it leaves.
use Rattle.std.specs.Prelude.{ℕ, ◌+◌, ◌≡◌, Bool, cond, ◌||◌, List, [], ◌∷◌, ◌++◌, length, drop, ltb}
use Rattle.refusals.specs.declared.Refusal.TheVariants.{Accepted, BadLine, LongSheet, ShortRow, RetiredRule}
use Rattle.refusals.specs.declared.Verdict.{Verdict}
use Rattle.refusals.specs.Refusals.{is_refusal, refuse_if, refuse_at, first_of}
use Rattle.sheet_reader.specs.declared.Reading.{Reading}
use Rattle.sheet_reader.specs.Lines.{tape_key, empty_turn}
use Rattle.sheet_reader.specs.Sheet.{longest_sheet, sheet_head, sheet_turn_with, says_sweep, sheet_files, sheet_wants, first_bad_line, sheet_run_with, sheet_name}

-- 12, then 11 with its line.
unfoldable pub sheet_verdict : List ℕ → Verdict
sheet_verdict sheet =
    first_of (refuse_if (ltb longest_sheet (length sheet)) LongSheet ∷ refuse_at (first_bad_line sheet) BadLine ∷ [])

-- Then 19, with the fourth line, where that names the retired rule.
unfoldable pub rule_verdict : List ℕ → Verdict
rule_verdict sheet = refuse_at (cond (says_sweep sheet) 4 0) RetiredRule

-- Whether one of two rows is shorter than so many entries.
abbrev pub short_pair_rows : ℕ → List ℕ → List ℕ → Bool
short_pair_rows count firsts seconds = ltb (length firsts) count || ltb (length seconds) count

-- Or one of three.
abbrev pub short_triple_rows : ℕ → List ℕ → List ℕ → List ℕ → Bool
short_triple_rows count firsts seconds thirds = short_pair_rows count firsts seconds || ltb (length thirds) count

-- Then 8: a row shorter than the files or wants read.
unfoldable pub read_verdict : List ℕ → List ℕ → List ℕ → List ℕ → List ℕ → List ℕ → Verdict
read_verdict sheet starts lengths aggregates numbers counts =
    first_of
    (sheet_verdict sheet
    ∷ rule_verdict sheet
    ∷ refuse_if (short_triple_rows (sheet_files sheet) starts lengths aggregates || short_pair_rows (sheet_wants sheet) numbers counts) ShortRow
    ∷ [])

-- A refusal's answer: kind and place, every other number 0.
abbrev pub refused_reading : Verdict → Reading
refused_reading v =
    record { refusal = v.refusal; place = v.place; head = 0; turn = 0; files = 0; wants = 0 }

-- What a sheet says, where an empty price means e.
abbrev pub read_answer_with : ℕ → Verdict → List ℕ → Reading
read_answer_with e v sheet =
    cond (is_refusal v.refusal) (refused_reading v)
    (record {
      refusal = Accepted;
      place = 0;
      head = sheet_head sheet;
      turn = sheet_turn_with e sheet;
      files = sheet_files sheet;
      wants = sheet_wants sheet;
    })

unfoldable pub read_answer : Verdict → List ℕ → Reading
read_answer v sheet = read_answer_with empty_turn v sheet

-- A row afterwards: the values read, then the later entries as they were; on a refusal the whole row as it was.
unfoldable pub read_row : Verdict → List ℕ → List ℕ → List ℕ
read_row v values row = cond (is_refusal v.refusal) row (values ++ drop (length values) row)

-- The rows that the reader is lent: starts, lengths and aggregates of the files, numbers and counts of the wants.
pub record RunRows : Type 0 where
  pub starts : List ℕ
  pub lengths : List ℕ
  pub aggregates : List ℕ
  pub numbers : List ℕ
  pub counts : List ℕ

abbrev pub run_rows : List ℕ → List ℕ → List ℕ → List ℕ → List ℕ → RunRows
run_rows starts lengths aggregates numbers counts =
    record { starts = starts; lengths = lengths; aggregates = aggregates; numbers = numbers; counts = counts }

abbrev pub rows_verdict : List ℕ → RunRows → Verdict
rows_verdict sheet rows = read_verdict sheet rows.starts rows.lengths rows.aggregates rows.numbers rows.counts

-- What a reader to whom an empty price means e answers, and the rows that it leaves.
pub record ReadWith (e : ℕ) (sheet : List ℕ) (rows : RunRows) (r : Reading) (rows' : RunRows) : Type 0 where
  pub answer : r ≡ read_answer_with e (rows_verdict sheet rows) sheet
  pub starts : rows'.starts ≡ read_row (rows_verdict sheet rows) (sheet_run_with e sheet).starts rows.starts
  pub lengths : rows'.lengths ≡ read_row (rows_verdict sheet rows) (sheet_run_with e sheet).lengths rows.lengths
  pub aggregates : rows'.aggregates ≡ read_row (rows_verdict sheet rows) (sheet_run_with e sheet).aggregates rows.aggregates
  pub numbers : rows'.numbers ≡ read_row (rows_verdict sheet rows) (sheet_run_with e sheet).numbers rows.numbers
  pub counts : rows'.counts ≡ read_row (rows_verdict sheet rows) (sheet_run_with e sheet).counts rows.counts

-- The reader.
abbrev pub SheetRead : List ℕ → RunRows → Reading → RunRows → Type 0
SheetRead sheet rows r rows' = ReadWith empty_turn sheet rows r rows'

-- The name: an empty part where 12 or 11 applies. With 19 it is handed on.
unfoldable pub read_name : List ℕ → List ℕ
read_name sheet = cond (is_refusal (sheet_verdict sheet).refusal) [] (sheet_name sheet)

-- Where the name's part starts in the sheet: behind the key, or at the front where it is empty.
unfoldable pub read_from : List ℕ → ℕ
read_from sheet = cond (is_refusal (sheet_verdict sheet).refusal) 0 (length tape_key)

-- A part of a slice lies in the same memory, so many bytes on.
abbrev pub place_on : ℕ → ℕ × ℕ → ℕ × ℕ
place_on from place = (place.0, from + place.1)
