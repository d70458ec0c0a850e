-- `buys --any` by the table: 12, 11 with its line, 19 with the fourth line, then 1 to 7 of a run whose head may stand anywhere, then 9 by the room that is
-- lent. Whatever `buys` prints other than 7 and 9, it prints too.
use Rattle.std.specs.Prelude.{ℕ, ◌≤◌, ◌≡◌, List, length, take}
use Rattle.refusals.specs.declared.Refusal.TheVariants.{HeadPlace, ShortRoom}
use Rattle.sheet_reader.specs.Sheet.{sheet_run, sheet_name}
use Rattle.sheet_writer.specs.declared.Written.{Written}
use Rattle.answer_buys.specs.Buys.{SheetBought}
use Rattle.answer_buys_any.specs.AnyBuys.{SheetBoughtAny, SheetFiguredAny}
use Rattle.promises.specs.Lengths.{TakesAll, buys_row}
use Rattle.promises.specs.PlanLines.{FiguresAnyPrinted}
use Rattle.promises.specs.Answers.{room_order, two_lines, PrintedByTheTable}
use Rattle.promises.specs.AnswersAny.{AnyApplies, RoomPrinted}
use Rattle.promises.specs.TwoTexts.{AsPrinted, RoomAfterwards}

-- The first n bytes of a row as long as the program's are printed. Asked for is the figure sheet of the least list for the head where it stands.
abbrev pub BuysAnyByTheTable : Type 0
BuysAnyByTheTable =
    (sheet row room : List ℕ) (n : ℕ) (row' room' : List ℕ)
    → SheetBoughtAny sheet row room n row' room'
    → buys_row ≤ length row
    → PrintedByTheTable (AnyApplies (length room) sheet) room_order (FiguresAnyPrinted (sheet_name sheet) (sheet_run sheet)) (take n row')

-- The room is left as by `plan --any`.
abbrev pub BuysAnyLeavesTheRoom : Type 0
BuysAnyLeavesTheRoom = (sheet row room : List ℕ) (n : ℕ) (row' room' : List ℕ) → SheetBoughtAny sheet row room n row' room' → RoomPrinted sheet room room'

-- The program's row takes every answer whole.
abbrev pub BuysAnyIsWhole : Type 0
BuysAnyIsWhole = (sheet room : List ℕ) → TakesAll buys_row (λ row n row'. (room' : List ℕ) × SheetBoughtAny sheet row room n row' room')

-- For a caller, beside what is printed of the same sheet in the same room, which both leave alike.
abbrev pub FiguresToldAny : Type 0
FiguresToldAny =
    (sheet row room out : List ℕ) (w : Written) (row' room' : List ℕ) (n : ℕ) (out' room'' : List ℕ)
    → SheetFiguredAny sheet row room w row' room'
    → SheetBoughtAny sheet out room n out' room''
    → buys_row ≤ length out
    → AsPrinted (FiguresAnyPrinted (sheet_name sheet) (sheet_run sheet)) row w row' (take n out')
    × (RoomAfterwards (sheet_run sheet) w.refusal room room' × (room' ≡ room''))

-- In no less room than `buys` has: what that prints, unless it is 7 or 9.
abbrev pub AnyPrintsAsBuys : Type 0
AnyPrintsAsBuys =
    (sheet row room : List ℕ) (n m : ℕ) (row' row'' room' : List ℕ)
    → SheetBought sheet row n row'
    → SheetBoughtAny sheet row room m row'' room'
    → buys_row ≤ length row
    → 5120 ≤ length room
    → ((place : ℕ) → take n row' ≡ two_lines HeadPlace place → ⊥)
    → ((place : ℕ) → take n row' ≡ two_lines ShortRoom place → ⊥)
    → take m row'' ≡ take n row'
