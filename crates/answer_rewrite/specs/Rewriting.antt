-- An old run sheet rewritten: byte for byte the same, with a 0 after an empty `turn=`; what is answered, for every input of bytes, and the row
-- that takes the result (with Writing's `Handed`).
use Rattle.std.specs.Prelude.{ℕ, ◌+◌, ◌-◌, Bool, cond, List, [], ◌∷◌, ◌++◌, length, take, drop, ltb}
use Prim.Native.Char.{code}
use Rattle.refusals.specs.declared.Refusal.TheVariants.{LongSheet}
use Rattle.refusals.specs.declared.Verdict.{Verdict}
use Rattle.refusals.specs.Refusals.{refuse_if, first_of}
use Rattle.text_bytes.specs.Text.{is_text}
use Rattle.text_lines.specs.Lines.{after_lines, line_after}
use Rattle.sheet_reader.specs.Lines.{turn_key}
use Rattle.sheet_reader.specs.Sheet.{longest_sheet}
use Rattle.sheet_reader.specs.Reading.{sheet_verdict}
use Rattle.sheet_writer.specs.declared.Written.{Written}
use Rattle.sheet_writer.specs.Writing.{row_verdict, Handed}

-- An empty `turn=`: the third line is the key alone.
unfoldable pub price_is_empty : List ℕ → Bool
price_is_empty sheet = is_text turn_key (line_after 2 sheet)

-- How many bytes of a sheet stand before the price: two lines and the key.
unfoldable pub bytes_before : List ℕ → ℕ
bytes_before sheet = length sheet - length (after_lines 2 sheet) + length turn_key

-- A 0 put in behind so many bytes.
abbrev pub zero_at : ℕ → List ℕ → List ℕ
zero_at n sheet = take n sheet ++ (code "0" ∷ drop n sheet)

unfoldable pub rewritten : List ℕ → List ℕ
rewritten sheet = cond (price_is_empty sheet) (zero_at (bytes_before sheet) sheet) sheet

-- 12, then 11 with its line, as the reader gives them; then 12 for a result over the limit, then 8. Neither the run is judged nor the rule: a sheet
-- with `rule=sweep` is rewritten like any other.
unfoldable pub rewrite_verdict : List ℕ → List ℕ → Verdict
rewrite_verdict sheet row =
    first_of
    (sheet_verdict sheet
    ∷ refuse_if (ltb longest_sheet (length (rewritten sheet))) LongSheet
    ∷ row_verdict (rewritten sheet) row
    ∷ [])

-- The answer to a sheet, and the row that is left.
abbrev pub SheetRewritten : List ℕ → List ℕ → Written → List ℕ → Type 0
SheetRewritten sheet row r row' = Handed (rewrite_verdict sheet row) (rewritten sheet) row r row'
