-- The two lines that a refusal prints, what their writer answers, for every input, and the row that it leaves (with Writing's `Handed`).
use Rattle.std.specs.Prelude.{ℕ, List, ◌++◌}
use Rattle.refusals.specs.declared.Verdict.{Verdict}
use Rattle.refusals.specs.Refusals.{number_of}
use Rattle.text_bytes.specs.Text.{bytes}
use Rattle.sheet_writer.specs.declared.Written.{Written}
use Rattle.text_pages.specs.Printing.{number_line}
use Rattle.sheet_writer.specs.Writing.{row_verdict, Handed}

-- The keys.
abbrev pub refused_key : List ℕ
refused_key = bytes "refused="

abbrev pub place_key : List ℕ
place_key = bytes "place="

-- `refused` is the number that the table gives the kind, `place` the file, want, entry or line that it speaks of.
unfoldable pub refusal_text : Verdict → List ℕ
refusal_text v = number_line refused_key (number_of v.refusal) ++ number_line place_key v.place

-- The writer: 8 where the row is shorter than the lines.
abbrev pub RefusalWritten : Verdict → List ℕ → Written → List ℕ → Type 0
RefusalWritten v row r row' = Handed (row_verdict (refusal_text v) row) (refusal_text v) row r row'
