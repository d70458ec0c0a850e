-- From sheets' bytes to texts' for a program in C, with the head anywhere: the code, the row that takes the text, the room, and the text's length in the first
-- word of a row. 8 comes last, for the text's row and for that word's. A sheet mended has two texts and two lengths.
use Rattle.std.specs.Prelude.{ℕ, ◌≡◌, true, false, cond, ◌||◌, List, [], ◌∷◌, length, drop, ltb}
use Rattle.refusals.specs.declared.Refusal.TheVariants.{ShortRow, LongSheet}
use Rattle.refusals.specs.declared.Verdict.{Verdict}
use Rattle.refusals.specs.Refusals.{is_refusal, refuse_if, first_of}
use Rattle.sheet_reader.specs.Sheet.{longest_sheet, sheet_run, sheet_name}
use Rattle.sheet_reader.specs.Reading.{read_row}
use Rattle.sheet_writer.specs.Writing.{written_row}
use Rattle.sheet_loose.specs.Reading.{loose_verdict}
use Rattle.sheet_lists.specs.Form.{plan_froms, plan_tos}
use Rattle.answer_any.specs.AnyRun.{any_verdict, PlanAnyOf, room_left}
use Rattle.answer_buys_any.specs.AnyBuys.{BuysAnyOf}
use Rattle.answer_check.specs.RunRules.{head_anywhere}
use Rattle.answer_check.specs.Checking.{VerdictOf, verdict_on, room_checked}
use Rattle.answer_mend.specs.Mending.{mended_text, changes_text, wants_verdicts}
use Rattle.boundary.specs.Boundary.{code_of}

-- 8: a row shorter than the text, or none for its length.
abbrev pub text_verdict : List ℕ → List ℕ → List ℕ → Verdict
text_verdict text out sizes = refuse_if (ltb (length out) (length text) || ltb (length sizes) 1) ShortRow

-- A text that was asked for, with its length; or 8, and both rows as they were.
pub record TextCalled (Asked : List ℕ → Type 0) (out sizes : List ℕ) (code : ℕ) (out' sizes' : List ℕ) : Type 0 where
  pub text : List ℕ
  pub asked : Asked text
  pub says : code ≡ code_of (text_verdict text out sizes)
  pub out_is : out' ≡ written_row (text_verdict text out sizes) text out
  pub sizes_are : sizes' ≡ cond (is_refusal (text_verdict text out sizes).refusal) sizes (length text ∷ drop 1 sizes)

-- The sheets' refusal, and both rows as they were.
pub record SheetRefused (v : Verdict) (out sizes : List ℕ) (code : ℕ) (out' sizes' : List ℕ) : Type 0 where
  pub says : code ≡ code_of v
  pub out_is : out' ≡ out
  pub sizes_are : sizes' ≡ sizes

-- By the verdict on the sheets the one or the other.
pub record SheetCalled (v : Verdict) (Asked : List ℕ → Type 0) (out sizes : List ℕ) (code : ℕ) (out' sizes' : List ℕ) : Type 0 where
  pub refused : is_refusal v.refusal ≡ true → SheetRefused v out sizes code out' sizes'
  pub answered : is_refusal v.refusal ≡ false → TextCalled Asked out sizes code out' sizes'

-- A run sheet to its plan sheet, and the room as the planner leaves it.
pub record AnswerCalled (sheet out room sizes : List ℕ) (code : ℕ) (out' room' sizes' : List ℕ) : Type 0 where
  pub called : SheetCalled (any_verdict (length room) sheet) (PlanAnyOf (sheet_name sheet) (sheet_run sheet)) out sizes code out' sizes'
  pub cleared : room' ≡ room_left sheet room

-- A run sheet to the figure sheet of its plan, under the same verdict.
pub record BuysCalled (sheet out room sizes : List ℕ) (code : ℕ) (out' room' sizes' : List ℕ) : Type 0 where
  pub called : SheetCalled (any_verdict (length room) sheet) (BuysAnyOf (sheet_name sheet) (sheet_run sheet)) out sizes code out' sizes'
  pub cleared : room' ≡ room_left sheet room

-- A run sheet and a plan sheet to the verdict on the latter.
pub record CheckCalled (sheet plan out room sizes : List ℕ) (code : ℕ) (out' room' sizes' : List ℕ) : Type 0 where
  pub called : SheetCalled (verdict_on (length room) sheet plan) (VerdictOf head_anywhere (sheet_name sheet) (sheet_run sheet) plan (plan_froms plan) (plan_tos plan)) out sizes code out' sizes'
  pub cleared : room' ≡ room_checked sheet plan room

-- A run sheet mended: 12 where the mended one would be too long, then 8 where a row is shorter than its text, or there are no two words for the lengths.
abbrev pub both_verdicts : List ℕ → List ℕ → List ℕ → List ℕ → List ℕ → List Verdict
both_verdicts text changes out notes sizes =
    refuse_if (ltb longest_sheet (length text)) LongSheet
    ∷ refuse_if ((ltb (length out) (length text) || ltb (length notes) (length changes)) || ltb (length sizes) 2) ShortRow
    ∷ []

unfoldable pub mend_call : List ℕ → List ℕ → List ℕ → List ℕ → Verdict
mend_call sheet out notes sizes =
    first_of (loose_verdict sheet ∷ first_of (wants_verdicts sheet) ∷ first_of (both_verdicts (mended_text sheet) (changes_text sheet) out notes sizes) ∷ [])

-- Both texts with their lengths; on a refusal every row as it was.
pub record MendCalled (sheet out notes sizes : List ℕ) (code : ℕ) (out' notes' sizes' : List ℕ) : Type 0 where
  pub says : code ≡ code_of (mend_call sheet out notes sizes)
  pub out_is : out' ≡ read_row (mend_call sheet out notes sizes) (mended_text sheet) out
  pub notes_are : notes' ≡ read_row (mend_call sheet out notes sizes) (changes_text sheet) notes
  pub sizes_are : sizes' ≡ cond (is_refusal (mend_call sheet out notes sizes).refusal) sizes (length (mended_text sheet) ∷ length (changes_text sheet) ∷ drop 2 sizes)
