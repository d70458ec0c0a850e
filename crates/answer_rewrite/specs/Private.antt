-- What the functions that look for the price and write the result ask and leave. No public contract cites this file.
use Rattle.std.specs.Prelude.{ℕ, ◌≤◌, ◌≡◌, false, Option, Some, None, IfSome, List, [], ◌∷◌, ◌++◌, length, drop, ltb}
use Rattle.refusals.specs.declared.Refusal.TheVariants.{LongSheet, ShortRow}
use Rattle.refusals.specs.declared.Verdict.{Verdict}
use Rattle.refusals.specs.Refusals.{is_refusal, refuse_if}
use Rattle.text_lines.specs.Lines.{after_lines}
use Rattle.sheet_reader.specs.Sheet.{longest_sheet}
use Rattle.sheet_reader.specs.Reading.{sheet_verdict}
use Rattle.answer_rewrite.specs.Rewriting.{zero_at, rewritten}

-- A sheet that 12 and 11 accept.
abbrev pub Readable : List ℕ → Type 0
Readable sheet = is_refusal (sheet_verdict sheet).refusal ≡ false

-- Where the third line starts.
pub record LineAt (sheet : List ℕ) (at : ℕ) : Type 0 where
  pub within : at ≤ length sheet
  pub rest : drop at sheet ≡ after_lines 2 sheet

-- A sheet with a 0 put in, or as it is.
abbrev pub priced : Option ℕ → List ℕ → List ℕ
priced (Some at) sheet = zero_at at sheet
priced None sheet = sheet

-- An empty price stands within its sheet.
abbrev pub PriceWithin : List ℕ → Option ℕ → Type 0
PriceWithin sheet price = IfSome price (λ at. at ≤ length sheet)

-- Where an empty price stands, and that it is the rewritten sheet which a 0 there makes, if one is due.
pub record PriceFound (sheet : List ℕ) (price : Option ℕ) : Type 0 where
  pub within : PriceWithin sheet price
  pub result : priced price sheet ≡ rewritten sheet

-- 12 and 8 for a result of so many bytes and a row of so many.
abbrev pub result_verdict : ℕ → ℕ → List Verdict
result_verdict bytes row = refuse_if (ltb longest_sheet bytes) LongSheet ∷ refuse_if (ltb row bytes) ShortRow ∷ []

-- A text in the first bytes of a row.
abbrev pub filled_row : List ℕ → List ℕ → List ℕ
filled_row text row = text ++ drop (length text) row
