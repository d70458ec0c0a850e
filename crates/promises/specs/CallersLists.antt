-- By value, for a caller in Rattle: a refusal's answer; a row of tickets without its first ones; a sheet's run, its least list, and what is written of a list.
use Rattle.std.specs.Prelude.{ℕ, ◌+◌, ◌≤◌, ◌<◌, ◌≡◌, true, false, List, length, get_or, take}
use Rattle.refusals.specs.declared.Refusal.{Refusal}
use Rattle.refusals.specs.declared.Refusal.TheVariants.{Accepted}
use Rattle.refusals.specs.declared.Verdict.{Verdict}
use Rattle.refusals.specs.Refusals.{is_refusal}
use Rattle.runs.specs.Run.{Run}
use Rattle.runs.specs.Lists.{Detour, list_of}
use Rattle.walk.specs.declared.Answer.{Answer}
use Rattle.walk.specs.Price.{refusal_answer}
use Rattle.least.specs.Least.{LeastForRun}
use Rattle.least.specs.AnyHead.{LeastAny}
use Rattle.sheet_reader.specs.Sheet.{sheet_name}
use Rattle.sheet_reader.specs.Reading.{read_name}
use Rattle.sheet_runs.specs.declared.SheetRun.{SheetRun}
use Rattle.sheet_runs.specs.SheetRuns.{run_by_value}
use Rattle.sheet_writer.specs.declared.Written.{Written}
use Rattle.sheet_writer.specs.PlanSheet.{plan_text}
use Rattle.sheet_writer.specs.AnyHead.{plan_any_text}
use Rattle.answer_plan.specs.declared.PlannedList.{PlannedList}
use Rattle.answer_plan.specs.Recall.{run_checks}
use Rattle.answer_plan.specs.PlannedLists.{RunListed, ListWritten}
use Rattle.answer_any.specs.AnyLists.{RunListedAny, TextOfList}
use Rattle.desk_tickets.specs.declared.Ticket.{Ticket}
use Rattle.desk_tickets.specs.WaitingTable.{no_ticket, row_without}
use Rattle.demands.specs.RefusalTable.{RunApplies, FirstThatApplies}
use Rattle.demands.specs.Demand1.{OnlyPlace}
use Rattle.demands.specs.SheetLines.{OnItsLines}
use Rattle.demands.specs.Sheets.{list_sheet_order, ListSheetApplies}
use Rattle.demands.specs.Writers.{WritesItsSheet, ListSheetAnyApplies}
use Rattle.promises.specs.Rooms.{RoomOfPlan}
use Rattle.promises.specs.Answers.{RoomApplies, two_lines, LinesHanded}
use Rattle.promises.specs.TwoTexts.{EarlyApplies, early_order, PlannedApplies, planned_order}

-- The answer of a refusal: its kind and place, and every other number 0.
pub record AnswersRefusal (v : Verdict) (a : Answer) : Type 0 where
  pub kind : a.refusal ≡ v.refusal
  pub place : a.place ≡ v.place
  pub others : OnlyPlace a

abbrev pub RefusalIsAnswered : Type 0
RefusalIsAnswered = (v : Verdict) → AnswersRefusal v (refusal_answer v)

-- A row of 32 records once so many have left at the front of each office's 16 places: the others have moved up, and behind them are empty places.
pub record MovedUp (first gone : ℕ) (row row' : List Ticket) : Type 0 where
  pub others : (i : ℕ) → i + gone < 16 → get_or row' (first + i) no_ticket ≡ get_or row (first + i + gone) no_ticket
  pub empty : (i : ℕ) → i < 16 → 16 ≤ i + gone → get_or row' (first + i) no_ticket ≡ no_ticket

abbrev pub FirstOnesLeave : Type 0
FirstOnesLeave =
    (one two : ℕ) (row : List Ticket)
    → length row ≡ 32
    → (length (row_without one two row) ≡ 32) × (MovedUp 0 one row (row_without one two row) × MovedUp 16 two row (row_without one two row))

-- So many entries of a row are told, and behind them it is zero.
pub record OnlyFirst (many : ℕ) (row : List ℕ) : Type 0 where
  pub told : length (take many row) ≡ many
  pub behind : (i : ℕ) → many ≤ i → get_or row i 0 ≡ 0

-- The run that a sheet's run by value holds.
abbrev pub run_is : SheetRun → Run
run_is r =
    record {
      starts = take r.files r.starts;
      lengths = take r.files r.lengths;
      aggregates = take r.files r.aggregates;
      numbers = take r.wants r.numbers;
      counts = take r.wants r.counts;
      head = r.head;
      turn = r.turn;
    }

-- 12, 11 with its line and 19, the first that applies, and then no files and no wants; else the run that stands on the lines.
pub record SheetRunTold (sheet : List ℕ) (r : SheetRun) : Type 0 where
  pub first : FirstThatApplies (EarlyApplies sheet) early_order r.verdict.refusal r.verdict.place
  pub none : (r.verdict.refusal ≡ Accepted → ⊥) → (r.files ≡ 0) × (r.wants ≡ 0) × (r.head ≡ 0) × (r.turn ≡ 0)
  pub read : r.verdict.refusal ≡ Accepted → OnItsLines sheet (sheet_name sheet) (run_is r)
  pub starts : OnlyFirst r.files r.starts
  pub lengths : OnlyFirst r.files r.lengths
  pub aggregates : OnlyFirst r.files r.aggregates
  pub numbers : OnlyFirst r.wants r.numbers
  pub counts : OnlyFirst r.wants r.counts

abbrev pub SheetRunIsRead : Type 0
SheetRunIsRead = (sheet : List ℕ) → SheetRunTold sheet (run_by_value sheet)

-- Its list by value: the run's own refusal where it has one; else the first that applies to the run; then no entries. Or the least list, by what least is.
pub record ListTold (Applies : Run → Refusal → ℕ → Type 0) (Least : Run → List Detour → Type 0) (r : SheetRun) (l : PlannedList) : Type 0 where
  pub early : is_refusal r.verdict.refusal ≡ true → l.verdict ≡ r.verdict
  pub first : is_refusal r.verdict.refusal ≡ false → FirstThatApplies (Applies (run_is r)) planned_order l.verdict.refusal l.verdict.place
  pub none : (l.verdict.refusal ≡ Accepted → ⊥) → l.detours ≡ 0
  pub least : l.verdict.refusal ≡ Accepted → Least (run_is r) (list_of (take l.detours l.froms) (take l.detours l.tos))
  pub froms : OnlyFirst l.detours l.froms
  pub tos : OnlyFirst l.detours l.tos

-- 1 to 7, then 9 in the 5,120 words that are lent to every run.
pub data RunInWords (r : Run) : Refusal → ℕ → Type 0 where
  run : {kind : Refusal} {place : ℕ} → RunApplies r kind place → RunInWords r kind place
  room : {kind : Refusal} {place : ℕ} → RoomApplies r kind place → RunInWords r kind place

abbrev pub ListIsTold : Type 0
ListIsTold = (r : SheetRun) (l : PlannedList) → RunListed run_checks r l → ListTold RunInWords LeastForRun r l

-- With the head anywhere, in room that is lent: on a refusal it is as it was, else as the plan leaves it.
pub record RoomTold (r : SheetRun) (l : PlannedList) (room room' : List ℕ) : Type 0 where
  pub kept : (l.verdict.refusal ≡ Accepted → ⊥) → room' ≡ room
  pub cleared : l.verdict.refusal ≡ Accepted → RoomOfPlan (run_is r) room room'

abbrev pub AnyListIsTold : Type 0
AnyListIsTold =
    (r : SheetRun) (room : List ℕ) (l : PlannedList) (room' : List ℕ)
    → RunListedAny r room l room'
    → ListTold (PlannedApplies (length room)) LeastAny r l × RoomTold r l room room'

-- What is written of a list: the two lines of its refusal, or the plan sheet of its entries, which the writer judges for itself.
pub record ListTextTold (sheet : List ℕ) (r : SheetRun) (l : PlannedList) (row : List ℕ) (n : ℕ) (row' : List ℕ) : Type 0 where
  pub answer : Written
  pub bytes : n ≡ answer.bytes
  pub lines : is_refusal l.verdict.refusal ≡ true → LinesHanded (two_lines l.verdict.refusal l.verdict.place) row answer row'
  pub text : is_refusal l.verdict.refusal ≡ false
      → WritesItsSheet (ListSheetApplies (read_name sheet) (run_is r) (take l.detours l.froms) (take l.detours l.tos) (plan_text (read_name sheet) (run_is r) (take l.detours l.froms) (take l.detours l.tos)) row)
      list_sheet_order (plan_text (read_name sheet) (run_is r) (take l.detours l.froms) (take l.detours l.tos)) row answer row'

abbrev pub ListIsWritten : Type 0
ListIsWritten = (sheet : List ℕ) (r : SheetRun) (l : PlannedList) (row : List ℕ) (n : ℕ) (row' : List ℕ) → ListWritten sheet r l row n row' → ListTextTold sheet r l row n row'

abbrev pub AnyListIsWritten : Type 0
AnyListIsWritten =
    (sheet : List ℕ) (r : SheetRun) (l : PlannedList) (row : List ℕ) (answer : Written) (row' : List ℕ)
    → TextOfList sheet r l row answer row'
    → WritesItsSheet (ListSheetAnyApplies (read_name sheet) (run_is r) (take l.detours l.froms) (take l.detours l.tos) (plan_any_text (read_name sheet) (run_is r) (take l.detours l.froms) (take l.detours l.tos)) row)
    list_sheet_order (plan_any_text (read_name sheet) (run_is r) (take l.detours l.froms) (take l.detours l.tos)) row answer row'
