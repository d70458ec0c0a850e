-- The text of a run sheet, what the run sheet writer answers, for every input, and the row that it leaves.
use Rattle.std.specs.Prelude.{ℕ, ◌≡◌, Result, Ok, Err, cond, not, ◌||◌, List, [], ◌∷◌, ◌++◌, length, drop, ltb}
use Rattle.refusals.specs.declared.Refusal.TheVariants.{Accepted, BadName, ShortRow}
use Rattle.refusals.specs.declared.Verdict.{Verdict}
use Rattle.refusals.specs.Refusals.{is_refusal, checked, refuse_if, first_of}
use Rattle.runs.specs.Run.{Run}
use Rattle.runs.specs.Judging.{judge_of}
use Rattle.sheet_writer.specs.declared.Written.{Written}
use Rattle.text_bytes.specs.Text.{is_name}
use Rattle.text_pages.specs.Printing.{line, number_line, pair_lines, triple_lines}
use Rattle.sheet_reader.specs.Lines.{tape_key, head_key, turn_key, rule_key, least_text, files_key, file_key, wants_key, want_key}
use Rattle.sheet_reader.specs.Sheet.{most_sheet_files}

-- The first five lines, and the whole sheet. A number always stands after `turn=`, and the rule is least.
unfoldable pub top_text : List ℕ → ℕ → ℕ → ℕ → List ℕ
top_text name head turn files =
    line tape_key name
    ++ number_line head_key head
    ++ number_line turn_key turn
    ++ line rule_key least_text
    ++ number_line files_key files

unfoldable pub sheet_text : List ℕ → Run → List ℕ
sheet_text name run =
    top_text name run.head run.turn (length run.starts)
    ++ triple_lines file_key run.starts run.lengths run.aggregates
    ++ number_line wants_key (length run.numbers)
    ++ pair_lines want_key run.numbers run.counts

-- A check behind one whose refusal is handed on.
abbrev pub checked_after : Result Unit Verdict → Verdict → Result Unit Verdict
checked_after (Ok u) v = checked v
checked_after (Err before) v = Err before

-- 8: a row shorter than the sheet.
unfoldable pub row_verdict : List ℕ → List ℕ → Verdict
row_verdict text row = refuse_if (ltb (length row) (length text)) ShortRow

-- 1 to 7, then 13, then 8.
unfoldable pub write_verdict : List ℕ → Run → List ℕ → Verdict
write_verdict name run row =
    first_of
    (judge_of run
    ∷ refuse_if (ltb most_sheet_files (length run.starts) || not (is_name name)) BadName
    ∷ row_verdict (sheet_text name run) row
    ∷ [])

-- A refusal's answer: kind and place, and 0 bytes.
abbrev pub refused_writing : Verdict → Written
refused_writing v = record { refusal = v.refusal; place = v.place; bytes = 0 }

-- The answer to a verdict: so many bytes, unless it is a refusal; and to a verdict and a text.
abbrev pub written_of : Verdict → ℕ → Written
written_of v n = cond (is_refusal v.refusal) (refused_writing v) (record { refusal = Accepted; place = 0; bytes = n })

unfoldable pub written_answer : Verdict → List ℕ → Written
written_answer v text = written_of v (length text)

-- The row afterwards: the text, then the later bytes as they were; on a refusal the whole row as it was.
unfoldable pub written_row : Verdict → List ℕ → List ℕ → List ℕ
written_row v text row = cond (is_refusal v.refusal) row (text ++ drop (length text) row)

-- What a writer answers and the row that it leaves, for a verdict and a text.
pub record Handed (v : Verdict) (text row : List ℕ) (r : Written) (row' : List ℕ) : Type 0 where
  pub answer : r ≡ written_answer v text
  pub left : row' ≡ written_row v text row

-- The run sheet writer.
abbrev pub SheetWritten : List ℕ → Run → List ℕ → Written → List ℕ → Type 0
SheetWritten name run row r row' = Handed (write_verdict name run row) (sheet_text name run) row r row'
