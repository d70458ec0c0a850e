-- What the readers of a detour list and of a plan sheet answer, for every input of bytes, and the rows that they leave.
use Rattle.std.specs.Prelude.{ℕ, ◌≡◌, cond, List, [], ◌∷◌, length, ltb}
use Rattle.refusals.specs.declared.Refusal.TheVariants.{BadLine, LongSheet, ShortRow}
use Rattle.refusals.specs.declared.Verdict.{Verdict}
use Rattle.refusals.specs.Refusals.{is_refusal, refuse_if, refuse_at, first_of}
use Rattle.sheet_reader.specs.Sheet.{longest_sheet}
use Rattle.sheet_reader.specs.Reading.{read_row, short_pair_rows}
use Rattle.sheet_lists.specs.declared.ListReading.{ListReading}
use Rattle.sheet_lists.specs.Form.{detours_told, detour_text, plan_bad_line, list_detours, list_text, list_bad_line, starts_on, ends_on}

-- 12, then 11 with its line.
abbrev pub form_checks : ℕ → List ℕ → List Verdict
form_checks bad text = refuse_if (ltb longest_sheet (length text)) LongSheet ∷ refuse_at bad BadLine ∷ []

unfoldable pub plan_form : List ℕ → Verdict
plan_form plan = first_of (form_checks (plan_bad_line plan) plan)

unfoldable pub list_form : List ℕ → Verdict
list_form list = first_of (form_checks (list_bad_line list) list)

-- Then 8: a row shorter than the list.
abbrev pub pairs_verdict : Verdict → ℕ → List ℕ → List ℕ → Verdict
pairs_verdict form detours froms tos = first_of (form ∷ refuse_if (short_pair_rows detours froms tos) ShortRow ∷ [])

-- What a reader answers, for a verdict: the number of detours, 0 on a refusal; and the rows: starts and ends in the first entries, the later ones as
-- they were, on a refusal all of them.
pub record ReadBy (v : Verdict) (many : ℕ) (text row₁ row₂ : List ℕ) (r : ListReading) (row₁' row₂' : List ℕ) : Type 0 where
  pub verdict : r.verdict ≡ v
  pub detours : r.detours ≡ cond (is_refusal v.refusal) 0 many
  pub froms : row₁' ≡ read_row v (starts_on many text) row₁
  pub tos : row₂' ≡ read_row v (ends_on many text) row₂

-- The reader of plan sheets, and that of lists.
abbrev pub PlanRead : List ℕ → List ℕ → List ℕ → ListReading → List ℕ → List ℕ → Type 0
PlanRead plan froms tos r froms' tos' = ReadBy (pairs_verdict (plan_form plan) (detours_told plan) froms tos) (detours_told plan) (detour_text plan) froms tos r froms' tos'

abbrev pub ListRead : List ℕ → List ℕ → List ℕ → ListReading → List ℕ → List ℕ → Type 0
ListRead list froms tos r froms' tos' = ReadBy (pairs_verdict (list_form list) (list_detours list) froms tos) (list_detours list) (list_text list) froms tos r froms' tos'
