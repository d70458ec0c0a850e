-- Demand 1 at the calls that take sheets: violstream_answer, violstream_buys, violstream_check and violstream_mend. Each code is that of the first refusal that applies, by its own
-- condition, and then every row is as it was; where none of the sheets' applies, the text that was asked for stands in front of its row and its length in front of
-- the row of sizes, or one of them is too short, which is 8.
use Rattle.std.specs.Prelude.{ℕ, ◌+◌, ◌*◌, ◌≤◌, ◌<◌, ◌≡◌, ◌⊎◌, List, ◌∷◌, ◌++◌, length, drop, replicate}
use Rattle.refusals.specs.declared.Refusal.{Refusal}
use Rattle.refusals.specs.declared.Refusal.TheVariants.{ShortRow, LongSheet}
use Rattle.runs.specs.Run.{Run, total}
use Rattle.sheet_reader.specs.Sheet.{sheet_run, sheet_name}
use Rattle.sheet_lists.specs.Form.{plan_froms, plan_tos}
use Rattle.answer_mend.specs.Mending.{mended_text, changes_text}
use Rattle.boundary_texts.specs.Texts.{AnswerCalled, BuysCalled, CheckCalled, MendCalled}
use Rattle.demands.specs.RefusalTable.{HasStops, SomeApplies}
use Rattle.promises.specs.Answers.{room_order}
use Rattle.promises.specs.AnswersAny.{AnyApplies}
use Rattle.promises.specs.PlanLines.{PlanAnyPrinted, FiguresAnyPrinted}
use Rattle.promises.specs.CheckWhole.{VerdictText}
use Rattle.promises.specs.ListLines.{PlanFormApplies, form_order}
use Rattle.promises.specs.TwoTexts.{EarlyApplies, early_order, PlannedApplies, planned_order}
use Rattle.promises.specs.Mender.{SheetApplies, sheet_order, texts_order}
use Rattle.promises_calls.specs.CallRefusals.{CodeSays}

-- Refused: the first that applies, and nothing that was lent has changed.
pub record RefusedSo (Applies : Refusal → ℕ → Type 0) (order : List Refusal) (out room sizes : List ℕ) (code : ℕ) (out' room' sizes' : List ℕ) : Type 0 where
  pub says : CodeSays Applies order code
  pub out_stays : out' ≡ out
  pub room_stays : room' ≡ room
  pub sizes_stay : sizes' ≡ sizes

-- A text that was asked for: 8 where its row is shorter, or there is no word for its length; else it is told whole, and later bytes and words stay.
pub record TextTold (Asked : List ℕ → Type 0) (out sizes : List ℕ) (code : ℕ) (out' sizes' : List ℕ) : Type 0 where
  pub text : List ℕ
  pub asked : Asked text
  pub short : (length out < length text) ⊎ (length sizes < 1) → (code ≡ 8) × ((out' ≡ out) × (sizes' ≡ sizes))
  pub whole : length text ≤ length out → 1 ≤ length sizes → (code ≡ 0) × ((out' ≡ text ++ drop (length text) out) × (sizes' ≡ length text ∷ drop 1 sizes))

-- The room then, by 8 too: zero in the words that the plan of a run takes, the later ones as they were.
abbrev pub RoomCleared : Run → List ℕ → List ℕ → Type 0
RoomCleared run room room' =
    (stops : ℕ) → HasStops run stops → room' ≡ replicate (stops * stops * (total run.counts + 1)) 0 ++ drop (stops * stops * (total run.counts + 1)) room

-- A run sheet to a text that was asked for of its least list: 12, 11, 19, 1 to 7 and 9.
pub record AnswerTold (Asked : List ℕ → Run → List ℕ → Type 0) (sheet out room sizes : List ℕ) (code : ℕ) (out' room' sizes' : List ℕ) : Type 0 where
  pub refused : SomeApplies (AnyApplies (length room) sheet) room_order → RefusedSo (AnyApplies (length room) sheet) room_order out room sizes code out' room' sizes'
  pub answered : (SomeApplies (AnyApplies (length room) sheet) room_order → ⊥)
      → TextTold (Asked (sheet_name sheet) (sheet_run sheet)) out sizes code out' sizes' × RoomCleared (sheet_run sheet) room room'

-- The plan sheet.
abbrev pub AnswerCallAnswers : Type 0
AnswerCallAnswers =
    (sheet out room sizes : List ℕ) (code : ℕ) (out' room' sizes' : List ℕ)
    → AnswerCalled sheet out room sizes code out' room' sizes'
    → AnswerTold PlanAnyPrinted sheet out room sizes code out' room' sizes'

-- The figure sheet.
abbrev pub BuysCallAnswers : Type 0
BuysCallAnswers =
    (sheet out room sizes : List ℕ) (code : ℕ) (out' room' sizes' : List ℕ)
    → BuysCalled sheet out room sizes code out' room' sizes'
    → AnswerTold FiguresAnyPrinted sheet out room sizes code out' room' sizes'

-- A run sheet and a plan sheet to the verdict: 12, 11 and 19 of the former, 12 and 11 of the latter, 1 to 7 and 9. A `no` is no refusal.
pub record CheckTold (sheet plan out room sizes : List ℕ) (code : ℕ) (out' room' sizes' : List ℕ) : Type 0 where
  pub of_sheet : SomeApplies (EarlyApplies sheet) early_order → RefusedSo (EarlyApplies sheet) early_order out room sizes code out' room' sizes'
  pub of_plan : (SomeApplies (EarlyApplies sheet) early_order → ⊥) → SomeApplies (PlanFormApplies plan) form_order
      → RefusedSo (PlanFormApplies plan) form_order out room sizes code out' room' sizes'
  pub of_run : (SomeApplies (EarlyApplies sheet) early_order → ⊥) → (SomeApplies (PlanFormApplies plan) form_order → ⊥) → SomeApplies (PlannedApplies (length room) (sheet_run sheet)) planned_order
      → RefusedSo (PlannedApplies (length room) (sheet_run sheet)) planned_order out room sizes code out' room' sizes'
  pub answered : (SomeApplies (EarlyApplies sheet) early_order → ⊥) → (SomeApplies (PlanFormApplies plan) form_order → ⊥) → (SomeApplies (PlannedApplies (length room) (sheet_run sheet)) planned_order → ⊥)
      → TextTold (VerdictText (sheet_name sheet) (sheet_run sheet) plan (plan_froms plan) (plan_tos plan)) out sizes code out' sizes' × RoomCleared (sheet_run sheet) room room'

abbrev pub CheckCallAnswers : Type 0
CheckCallAnswers =
    (sheet plan out room sizes : List ℕ) (code : ℕ) (out' room' sizes' : List ℕ)
    → CheckCalled sheet plan out room sizes code out' room' sizes'
    → CheckTold sheet plan out room sizes code out' room' sizes'

-- A run sheet mended: behind the sheet's 12, 11, 3 and 5 come 12 of the mended one, and 8 where a row is shorter than its text or there are no two words for the
-- lengths.
pub data BothApply (text changes out notes sizes : List ℕ) : Refusal → ℕ → Type 0 where
  long_text : 16384 < length text → BothApply text changes out notes sizes LongSheet 0
  short_row : ((length out < length text) ⊎ (length notes < length changes)) ⊎ (length sizes < 2) → BothApply text changes out notes sizes ShortRow 0

pub record MendTold (text changes sheet out notes sizes : List ℕ) (code : ℕ) (out' notes' sizes' : List ℕ) : Type 0 where
  pub of_sheet : SomeApplies (SheetApplies sheet) sheet_order → CodeSays (SheetApplies sheet) sheet_order code
  pub of_texts : (SomeApplies (SheetApplies sheet) sheet_order → ⊥) → CodeSays (BothApply text changes out notes sizes) texts_order code
  pub kept : (code ≡ 0 → ⊥) → (out' ≡ out) × ((notes' ≡ notes) × (sizes' ≡ sizes))
  pub told : code ≡ 0 → (out' ≡ text ++ drop (length text) out) × ((notes' ≡ changes ++ drop (length changes) notes) × (sizes' ≡ length text ∷ length changes ∷ drop 2 sizes))

abbrev pub MendCallAnswers : Type 0
MendCallAnswers =
    (sheet out notes sizes : List ℕ) (code : ℕ) (out' notes' sizes' : List ℕ)
    → MendCalled sheet out notes sizes code out' notes' sizes'
    → MendTold (mended_text sheet) (changes_text sheet) sheet out notes sizes code out' notes' sizes'
