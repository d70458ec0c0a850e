-- What is answered to a run sheet and a detour list, whatever their bytes are: the plan sheet of that list, or the two lines of the first refusal
-- that applies; and the row that takes the answer. The head may stand anywhere.
use Rattle.std.specs.Prelude.{ℕ, ◌≡◌, cond, List, [], ◌∷◌}
use Rattle.refusals.specs.declared.Verdict.{Verdict}
use Rattle.refusals.specs.Refusals.{is_refusal}
use Rattle.runs.specs.Run.{Run}
use Rattle.sheet_reader.specs.Sheet.{sheet_run, sheet_name}
use Rattle.sheet_writer.specs.RefusalLines.{refusal_text}
use Rattle.answer_plan.specs.Recall.{verdict_by, bytes_put, row_put}
use Rattle.sheet_lists.specs.Form.{list_froms, list_tos}
use Rattle.sheet_lists.specs.Reading.{list_form}
use Rattle.answer_check.specs.RunRules.{RunRules, head_anywhere}

-- The list's 12 and 11, then 1 to 7, then 10. Behind a sheet's own 12, 11 and 19.
abbrev pub price_checks : RunRules → List ℕ → Run → List Verdict
price_checks rules list run = list_form list ∷ rules.judged run ∷ rules.ruled run (list_froms list) (list_tos list) ∷ []

abbrev pub pricing_verdict : RunRules → List ℕ → List ℕ → Verdict
pricing_verdict rules sheet list = verdict_by (price_checks rules list) sheet

-- The text of the answer, under a verdict.
unfoldable pub price_text : RunRules → Verdict → List ℕ → Run → List ℕ → List ℕ
price_text rules v name run list = cond (is_refusal v.refusal) (refusal_text v) (rules.sheet_of name run (list_froms list) (list_tos list))

-- A text in the first bytes of a row, and how many they are. A row shorter than the text takes none of it, and the number is then 0.
pub record RowHolds (text row : List ℕ) (n : ℕ) (row' : List ℕ) : Type 0 where
  pub bytes : n ≡ bytes_put text row
  pub left : row' ≡ row_put text row

-- The answer to a sheet and a list, by some rules; and by those for a head anywhere.
abbrev pub PriceGiven : RunRules → List ℕ → List ℕ → List ℕ → ℕ → List ℕ → Type 0
PriceGiven rules sheet list row n row' = RowHolds (price_text rules (pricing_verdict rules sheet list) (sheet_name sheet) (sheet_run sheet) list) row n row'

abbrev pub SheetPriced : List ℕ → List ℕ → List ℕ → ℕ → List ℕ → Type 0
SheetPriced sheet list row n row' = PriceGiven head_anywhere sheet list row n row'
