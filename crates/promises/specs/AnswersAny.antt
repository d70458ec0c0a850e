-- `plan --any` by the table: 12, 11 with its line, 19 with the fourth line, then 1 to 7 of a run whose head may stand anywhere, then 9 by the room that
-- is lent. Whatever `plan` prints other than 7 and 9, it prints too. Then the same for a caller, as a record, with 8 of the row last.
use Rattle.std.specs.Prelude.{ℕ, ◌+◌, ◌*◌, ◌≤◌, ◌<◌, ◌≡◌, ◌⊎◌, List, [], ◌∷◌, ◌++◌, length, take, drop, replicate}
use Rattle.refusals.specs.declared.Refusal.{Refusal}
use Rattle.refusals.specs.declared.Refusal.TheVariants.{Accepted, FileRows, BadFile, WantRows, BadWant, TooManyReads, TurnPrice, HeadPlace, ShortRow, ShortRoom, BadLine, LongSheet, RetiredRule}
use Rattle.runs.specs.Run.{total}
use Rattle.sheet_reader.specs.Sheet.{sheet_run, sheet_name}
use Rattle.sheet_writer.specs.declared.Written.{Written}
use Rattle.answer_plan.specs.Recall.{SheetRecalled}
use Rattle.answer_any.specs.AnyRun.{SheetRecalledAny, SheetAnswered}
use Rattle.demands.specs.RefusalTable.{HasStops, FirstThatApplies, SomeApplies}
use Rattle.demands.specs.AnyHead.{RunAppliesAny}
use Rattle.promises.specs.Rooms.{RoomOfPlan}
use Rattle.promises.specs.Lengths.{TakesAll, plan_row}
use Rattle.promises.specs.PlanLines.{PlanAnyPrinted}
use Rattle.promises.specs.Answers.{SheetRunApplies, WordsApply, room_order, two_lines, PrintedByTheTable}

abbrev pub AnyApplies : ℕ → List ℕ → Refusal → ℕ → Type 0
AnyApplies words sheet kind place = SheetRunApplies RunAppliesAny (WordsApply words) sheet kind place

-- The first n bytes of a row as long as the program's are printed. Asked for is the plan sheet of the least list for the head where it stands.
abbrev pub AnyByTheTable : Type 0
AnyByTheTable =
    (sheet row room : List ℕ) (n : ℕ) (row' room' : List ℕ)
    → SheetRecalledAny sheet row room n row' room'
    → plan_row ≤ length row
    → PrintedByTheTable (AnyApplies (length room) sheet) room_order (PlanAnyPrinted (sheet_name sheet) (sheet_run sheet)) (take n row')

-- The room: where a refusal applies as it was, else as the plan leaves it.
pub record RoomPrinted (sheet room room' : List ℕ) : Type 0 where
  pub kept : SomeApplies (AnyApplies (length room) sheet) room_order → room' ≡ room
  pub cleared : (SomeApplies (AnyApplies (length room) sheet) room_order → ⊥) → RoomOfPlan (sheet_run sheet) room room'

abbrev pub AnyLeavesTheRoom : Type 0
AnyLeavesTheRoom = (sheet row room : List ℕ) (n : ℕ) (row' room' : List ℕ) → SheetRecalledAny sheet row room n row' room' → RoomPrinted sheet room room'

-- The program's row takes every answer whole.
abbrev pub AnyIsWhole : Type 0
AnyIsWhole = (sheet room : List ℕ) → TakesAll plan_row (λ row n row'. (room' : List ℕ) × SheetRecalledAny sheet row room n row' room')

-- In no less room than `plan` has: what that prints, unless it is 7 or 9.
abbrev pub AnyPrintsAsPlan : Type 0
AnyPrintsAsPlan =
    (sheet row room : List ℕ) (n m : ℕ) (row' row'' room' : List ℕ)
    → SheetRecalled sheet row n row'
    → SheetRecalledAny sheet row room m row'' room'
    → plan_row ≤ length row
    → 5120 ≤ length room
    → ((place : ℕ) → take n row' ≡ two_lines HeadPlace place → ⊥)
    → ((place : ℕ) → take n row' ≡ two_lines ShortRoom place → ⊥)
    → take m row'' ≡ take n row'

-- For a caller: behind these 8, a row shorter than the plan sheet.
pub data RecordApplies (words : ℕ) (sheet row : List ℕ) : Refusal → ℕ → Type 0 where
  of_sheet : {kind : Refusal} {place : ℕ} → AnyApplies words sheet kind place → RecordApplies words sheet row kind place
  short_row : (text : List ℕ) → PlanAnyPrinted (sheet_name sheet) (sheet_run sheet) text → length row < length text → RecordApplies words sheet row ShortRow 0

abbrev pub record_order : List Refusal
record_order =
    LongSheet ∷ BadLine ∷ RetiredRule ∷ FileRows ∷ BadFile ∷ WantRows ∷ BadWant ∷ TooManyReads ∷ TurnPrice ∷ HeadPlace ∷ ShortRoom ∷ ShortRow ∷ []

-- The record is that of the first that applies. A refusal leaves the row as it was, and by any but 8 the room too. Else the plan sheet stands in the row's
-- first bytes, the later ones as they were. The words of the room that the plan took are zero, after 8 too.
pub record RecordByTheTable (sheet row room : List ℕ) (w : Written) (row' room' : List ℕ) : Type 0 where
  pub first : FirstThatApplies (RecordApplies (length room) sheet row) record_order w.refusal w.place
  pub unwritten : (w.refusal ≡ Accepted → ⊥) → (w.bytes ≡ 0) × (row' ≡ row)
  pub text : w.refusal ≡ Accepted → PlanAnyPrinted (sheet_name sheet) (sheet_run sheet) (take w.bytes row')
  pub counted : w.bytes ≡ length (take w.bytes row')
  pub behind : drop w.bytes row' ≡ drop w.bytes row
  pub kept : (w.refusal ≡ Accepted → ⊥) → (w.refusal ≡ ShortRow → ⊥) → room' ≡ room
  pub cleared : (stops : ℕ) → HasStops (sheet_run sheet) stops → (w.refusal ≡ Accepted) ⊎ (w.refusal ≡ ShortRow)
      → room' ≡ replicate (stops * stops * (total (sheet_run sheet).counts + 1)) 0 ++ drop (stops * stops * (total (sheet_run sheet).counts + 1)) room

abbrev pub AnswerByTheTable : Type 0
AnswerByTheTable =
    (sheet row room : List ℕ) (w : Written) (row' room' : List ℕ)
    → SheetAnswered sheet row room w row' room'
    → RecordByTheTable sheet row room w row' room'
