-- `price` and `check`, by the table: the run sheet's 12, 11 and 19; then 12 and 11 of the list or the plan sheet; then 1 to 7 of a run whose head may stand
-- anywhere, and 10 or 9. Then `check` for a caller, as a record, with 8 of the row last.
use Rattle.std.specs.Prelude.{ℕ, ◌+◌, ◌*◌, ◌≤◌, ◌<◌, ◌≡◌, ◌⊎◌, List, [], ◌∷◌, ◌++◌, length, take, drop, replicate}
use Rattle.refusals.specs.declared.Refusal.{Refusal}
use Rattle.refusals.specs.declared.Refusal.TheVariants.{Accepted, FileRows, BadFile, WantRows, BadWant, TooManyReads, TurnPrice, HeadPlace, ShortRow, ShortRoom, BadEntry, BadLine, LongSheet, RetiredRule}
use Rattle.runs.specs.Run.{Run, total}
use Rattle.text_bytes.specs.Text.{bytes}
use Rattle.sheet_reader.specs.Lines.{sweep_text}
use Rattle.sheet_reader.specs.Sheet.{sheet_run, sheet_name}
use Rattle.sheet_writer.specs.declared.Written.{Written}
use Rattle.sheet_writer.specs.AnyHead.{plan_any_text}
use Rattle.sheet_lists.specs.Form.{plan_froms, plan_tos, list_froms, list_tos}
use Rattle.answer_check.specs.Pricing.{SheetPriced}
use Rattle.answer_check.specs.Checking.{SheetChecked, CheckAnswered}
use Rattle.refusals.specs.Refusals.{accepted}
use Rattle.sheet_reader.specs.Reading.{sheet_verdict, rule_verdict}
use Rattle.demands.specs.RefusalTable.{FirstBad, HasStops, FirstThatApplies, SomeApplies}
use Rattle.demands.specs.AnyHead.{RunAppliesAny, ListIsBadAny}
use Rattle.demands.specs.Lines.{LineIsBad, lines_due, Ruled}
use Rattle.promises.specs.Rooms.{RoomOfPlan}
use Rattle.promises.specs.Lengths.{price_row, check_row}
use Rattle.promises.specs.Answers.{WordsApply, two_lines, example_sheet}
use Rattle.promises.specs.CheckWhole.{VerdictText}
use Rattle.promises.specs.ListLines.{PlanFormApplies, ListFormApplies, form_order}

-- The run sheet by itself.
pub data EarlyApplies (sheet : List ℕ) : Refusal → ℕ → Type 0 where
  too_long : 16384 < length sheet → EarlyApplies sheet LongSheet 0
  bad_line : {place : ℕ} → FirstBad (LineIsBad sheet) (lines_due sheet) place → EarlyApplies sheet BadLine place
  retired_rule : Ruled sweep_text sheet → EarlyApplies sheet RetiredRule 4

abbrev pub early_order : List Refusal
early_order = LongSheet ∷ BadLine ∷ RetiredRule ∷ []

-- What reads back, as statements on single crates say it (`SheetReadsBack`, `SheetsReadBack`): neither 12 and 11 nor 19 apply.
abbrev pub AcceptedIsRead : Type 0
AcceptedIsRead = (sheet : List ℕ) → sheet_verdict sheet ≡ accepted → rule_verdict sheet ≡ accepted → SomeApplies (EarlyApplies sheet) early_order → ⊥

-- The run with a list, and the run with the room.
pub data PricedApplies (r : Run) (froms tos : List ℕ) : Refusal → ℕ → Type 0 where
  run : {kind : Refusal} {place : ℕ} → RunAppliesAny r kind place → PricedApplies r froms tos kind place
  bad_list : {place : ℕ} → ListIsBadAny r froms tos place → PricedApplies r froms tos BadEntry place

abbrev pub priced_order : List Refusal
priced_order = FileRows ∷ BadFile ∷ WantRows ∷ BadWant ∷ TooManyReads ∷ TurnPrice ∷ HeadPlace ∷ BadEntry ∷ []

pub data PlannedApplies (words : ℕ) (r : Run) : Refusal → ℕ → Type 0 where
  run : {kind : Refusal} {place : ℕ} → RunAppliesAny r kind place → PlannedApplies words r kind place
  room : {kind : Refusal} {place : ℕ} → WordsApply words r kind place → PlannedApplies words r kind place

abbrev pub planned_order : List Refusal
planned_order = FileRows ∷ BadFile ∷ WantRows ∷ BadWant ∷ TooManyReads ∷ TurnPrice ∷ HeadPlace ∷ ShortRoom ∷ []

-- What is printed is the two lines of the first that applies: of the run sheet; where nothing of that applies, of the other text; where nothing of either
-- applies, of the run. Else it is what was asked for.
pub record InThreeStages (OfSheet OfText OfRun : Refusal → ℕ → Type 0) (order : List Refusal) (Asked : List ℕ → Type 0) (printed : List ℕ) : Type 0 where
  pub kind : Refusal
  pub place : ℕ
  pub of_sheet : SomeApplies OfSheet early_order → FirstThatApplies OfSheet early_order kind place
  pub of_text : (SomeApplies OfSheet early_order → ⊥) → SomeApplies OfText form_order → FirstThatApplies OfText form_order kind place
  pub of_run : (SomeApplies OfSheet early_order → ⊥) → (SomeApplies OfText form_order → ⊥) → FirstThatApplies OfRun order kind place
  pub refused : (kind ≡ Accepted → ⊥) → printed ≡ two_lines kind place
  pub asked : kind ≡ Accepted → Asked printed

-- The first n bytes of a row as long as the program's are printed: the plan sheet of the list handed in, or the verdict on the plan sheet.
abbrev pub PriceByTheTable : Type 0
PriceByTheTable =
    (sheet list row : List ℕ) (n : ℕ) (row' : List ℕ)
    → SheetPriced sheet list row n row'
    → price_row ≤ length row
    → InThreeStages (EarlyApplies sheet) (ListFormApplies list) (PricedApplies (sheet_run sheet) (list_froms list) (list_tos list)) priced_order
    (λ printed. printed ≡ plan_any_text (sheet_name sheet) (sheet_run sheet) (list_froms list) (list_tos list)) (take n row')

abbrev pub CheckByTheTable : Type 0
CheckByTheTable =
    (sheet plan row room : List ℕ) (n : ℕ) (row' room' : List ℕ)
    → SheetChecked sheet plan row room n row' room'
    → check_row ≤ length row
    → InThreeStages (EarlyApplies sheet) (PlanFormApplies plan) (PlannedApplies (length room) (sheet_run sheet)) planned_order
    (VerdictText (sheet_name sheet) (sheet_run sheet) plan (plan_froms plan) (plan_tos plan)) (take n row')

-- `check` for a caller, beside what is printed of the same sheets: the verdict in the first bytes of its row, the later ones as they were; 8 where the row is
-- shorter than that, and then nothing else is refused; or the refusal whose two lines are printed. By any refusal the row is as it was. A `no` is no refusal.
pub record AsPrinted (Asked : List ℕ → Type 0) (row : List ℕ) (w : Written) (row' printed : List ℕ) : Type 0 where
  pub text : w.refusal ≡ Accepted → (take w.bytes row' ≡ printed) × Asked printed
  pub counted : w.refusal ≡ Accepted → (w.bytes ≡ length printed) × (w.place ≡ 0)
  pub short : w.refusal ≡ ShortRow → (w.place ≡ 0) × (length row < length printed) × Asked printed
  pub lines : (w.refusal ≡ Accepted → ⊥) → (w.refusal ≡ ShortRow → ⊥) → printed ≡ two_lines w.refusal w.place
  pub unwritten : (w.refusal ≡ Accepted → ⊥) → (w.bytes ≡ 0) × (row' ≡ row)
  pub behind : drop w.bytes row' ≡ drop w.bytes row

-- The room that is left: by any refusal but 8 as it was; else zero in the words that the plan takes, the later ones as they were.
pub record RoomAfterwards (run : Run) (kind : Refusal) (room room' : List ℕ) : Type 0 where
  pub kept : (kind ≡ Accepted → ⊥) → (kind ≡ ShortRow → ⊥) → room' ≡ room
  pub cleared : (stops : ℕ) → HasStops run stops → (kind ≡ Accepted) ⊎ (kind ≡ ShortRow)
      → room' ≡ replicate (stops * stops * (total run.counts + 1)) 0 ++ drop (stops * stops * (total run.counts + 1)) room

-- Behind the program's answer, in a row of any length: where a refusal applies as it was, else as the plan leaves it.
pub record RoomOfCheck (sheet plan room room' : List ℕ) : Type 0 where
  pub kept : SomeApplies (EarlyApplies sheet) early_order ⊎ (SomeApplies (PlanFormApplies plan) form_order ⊎ SomeApplies (PlannedApplies (length room) (sheet_run sheet)) planned_order)
      → room' ≡ room
  pub cleared : (SomeApplies (EarlyApplies sheet) early_order → ⊥)
      → (SomeApplies (PlanFormApplies plan) form_order → ⊥)
      → (SomeApplies (PlannedApplies (length room) (sheet_run sheet)) planned_order → ⊥)
      → RoomOfPlan (sheet_run sheet) room room'

abbrev pub CheckLeavesTheRoom : Type 0
CheckLeavesTheRoom = (sheet plan row room : List ℕ) (n : ℕ) (row' room' : List ℕ) → SheetChecked sheet plan row room n row' room' → RoomOfCheck sheet plan room room'

-- In the same room, which both leave alike.
abbrev pub CallerIsTold : Type 0
CallerIsTold =
    (sheet plan row room out : List ℕ) (w : Written) (row' room' : List ℕ) (n : ℕ) (out' room'' : List ℕ)
    → CheckAnswered sheet plan row room w row' room'
    → SheetChecked sheet plan out room n out' room''
    → check_row ≤ length out
    → AsPrinted (VerdictText (sheet_name sheet) (sheet_run sheet) plan (plan_froms plan) (plan_tos plan)) row w row' (take n out')
    × (RoomAfterwards (sheet_run sheet) w.refusal room room' × (room' ≡ room''))

-- The sheet of document 01 with a list whose second line has one number.
abbrev pub PrintsTheListsLine : Type 0
PrintsTheListsLine =
    (row : List ℕ) (n : ℕ) (row' : List ℕ)
    → SheetPriced example_sheet (bytes "detour=2,2\ndetour=3\n") row n row'
    → price_row ≤ length row
    → take n row' ≡ bytes "refused=11\nplace=2\n"
