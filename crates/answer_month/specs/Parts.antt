-- The parts of the input: a line with a byte count, and so many bytes, which are a sheet.
use Rattle.std.specs.Prelude.{ℕ, ◌<◌, ◌≤◌, ◌≡◌, Bool, cond, Option, Some, None, Result, Ok, Err, ◌&&◌, List, leb}
use Rattle.refusals.specs.declared.Refusal.TheVariants.{BadSheetCount}
use Rattle.refusals.specs.declared.Verdict.{Verdict}
use Rattle.refusals.specs.Refusals.{accepted}
use Rattle.text_bytes.specs.Text.{line_feed, is_empty, has, before, behind, is_number, value_of}
use Rattle.answer_outcome.specs.declared.Outcome.{Outcome}
use Rattle.answer_outcome.specs.Outcomes.{OutcomeOf}
use Rattle.answer_month.specs.declared.Month.{Month}
use Rattle.answer_month.specs.declared.BadPart.{BadPart}
use Rattle.answer_month.specs.declared.CutOff.{CutOff}
use Rattle.answer_month.specs.Month.{grown, added}

abbrev pub most_sheets : ℕ
most_sheets = 1000

-- A byte count: a number and an LF, and nothing behind it.
unfoldable pub is_count : List ℕ → Bool
is_count line = has line_feed line && is_empty (behind line_feed line) && is_number (before line_feed line)

unfoldable pub count_of : List ℕ → Result (Option ℕ) BadPart
count_of line = cond (is_count line) (Ok (Some (value_of (before line_feed line)))) (Err (record {}))

-- What stands behind so many sheets: nothing, a sheet of so many bytes, or what has no place there. After 1,000 sheets that is anything.
unfoldable pub part_of : ℕ → List ℕ → Result (Option ℕ) BadPart
part_of sheets line = cond (is_empty line) (Ok None) (cond (leb most_sheets sheets) (Err (record {})) (count_of line))

-- A sheet that has fewer bytes than its count says adds nothing; else its outcome is added.
pub record SheetAdded (m : Month) (bytes there : ℕ) (sheet : List ℕ) (r : Result Month CutOff) : Type 0 where
  pub cut : there < bytes → r ≡ Err (record { month = m })
  pub whole : bytes ≤ there → (o : Outcome) × (OutcomeOf sheet o × (r ≡ Ok (added m o)))

-- 25, with the number of the sheet behind those of the month.
unfoldable pub input_verdict : Month → Bool → Verdict
input_verdict m good = cond good accepted (record { refusal = BadSheetCount; place = grown m.sheets 1 })
