-- What the reader of a loose sheet answers, for every input of bytes, and the two rows that it leaves.
use Rattle.std.specs.Prelude.{ℕ, ◌-◌, ◌≡◌, cond, false, List, [], ◌∷◌, length, ltb}
use Rattle.refusals.specs.declared.Refusal.TheVariants.{BadLine, LongSheet, ShortRow}
use Rattle.refusals.specs.declared.Verdict.{Verdict}
use Rattle.refusals.specs.Refusals.{is_refusal, accepted, refuse_if, refuse_at, first_of}
use Rattle.text_lines.specs.Lines.{after_lines}
use Rattle.sheet_reader.specs.Sheet.{longest_sheet, sheet_turn, says_sweep, sheet_files, file_text}
use Rattle.sheet_reader.specs.Reading.{short_pair_rows, read_row}
use Rattle.sheet_loose.specs.declared.Parts.{Parts}
use Rattle.sheet_loose.specs.Loose.{loose_files, loose_wants_text, loose_want_text, loose_wants, wants_said, price_left_out, first_bad_loose, wanted_files, wanted_counts}

-- 12, then 11 with its line.
unfoldable pub loose_verdict : List ℕ → Verdict
loose_verdict sheet =
    first_of (refuse_if (ltb longest_sheet (length sheet)) LongSheet ∷ refuse_at (first_bad_loose sheet) BadLine ∷ [])

-- Then 8: a row shorter than the want lines.
unfoldable pub want_rows_verdict : List ℕ → List ℕ → List ℕ → Verdict
want_rows_verdict sheet wanted counts =
    first_of (loose_verdict sheet ∷ refuse_if (short_pair_rows (loose_wants sheet) wanted counts) ShortRow ∷ [])

-- Where a text that ends a sheet starts in it.
abbrev pub begins_at : List ℕ → List ℕ → ℕ
begins_at sheet text = length sheet - length text

-- A refusal's parts: every number 0.
abbrev pub refused_parts : Verdict → Parts
refused_parts v =
    record {
      verdict = v;
      third = 0;
      turn = 0;
      empty = false;
      sweep = false;
      listed = 0;
      table = 0;
      files = 0;
      tail = 0;
      asked = 0;
      body = 0;
      wants = 0;
    }

-- The parts of a sheet.
abbrev pub sheet_parts : List ℕ → Parts
sheet_parts sheet =
    record {
      verdict = accepted;
      third = begins_at sheet (after_lines 2 sheet);
      turn = sheet_turn sheet;
      empty = price_left_out sheet;
      sweep = says_sweep sheet;
      listed = sheet_files sheet;
      table = begins_at sheet (file_text sheet);
      files = loose_files sheet;
      tail = begins_at sheet (loose_wants_text sheet);
      asked = wants_said sheet;
      body = begins_at sheet (loose_want_text sheet);
      wants = loose_wants sheet;
    }

unfoldable pub loose_parts : Verdict → List ℕ → Parts
loose_parts v sheet = cond (is_refusal v.refusal) (refused_parts v) (sheet_parts sheet)

-- The answer, and the rows: the want lines, then the later entries as they were; on a refusal the whole row as it was.
pub record LooseRead (sheet wanted counts : List ℕ) (r : Parts) (wanted' counts' : List ℕ) : Type 0 where
  pub answer : r ≡ loose_parts (want_rows_verdict sheet wanted counts) sheet
  pub files : wanted' ≡ read_row (want_rows_verdict sheet wanted counts) (wanted_files sheet) wanted
  pub reads : counts' ≡ read_row (want_rows_verdict sheet wanted counts) (wanted_counts sheet) counts
