-- The least list of a sheet's run by value, with the head anywhere and in room that is lent; and what is written of a list.
use Rattle.std.specs.Prelude.{ℕ, ◌≡◌, List, ◌∷◌, length, take}
use Rattle.refusals.specs.declared.Verdict.{Verdict}
use Rattle.refusals.specs.Refusals.{first_of}
use Rattle.runs.specs.Run.{Run}
use Rattle.least.specs.AnyHead.{LeastAny}
use Rattle.sheet_reader.specs.Reading.{read_name}
use Rattle.sheet_runs.specs.declared.SheetRun.{SheetRun}
use Rattle.sheet_runs.specs.SheetRuns.{run_held}
use Rattle.sheet_writer.specs.declared.Written.{Written}
use Rattle.sheet_writer.specs.AnyHead.{PlanAnyWritten}
use Rattle.answer_plan.specs.declared.PlannedList.{PlannedList}
use Rattle.answer_plan.specs.PlannedLists.{ListUnder}
use Rattle.answer_any.specs.AnyRun.{any_checks, room_after}

-- Under a verdict: no list and the room as it was, or the least list and the room cleared.
pub record ListsAny (v : Verdict) (run : Run) (room : List ℕ) (l : PlannedList) (room' : List ℕ) : Type 0 where
  pub listed : ListUnder LeastAny v run l
  pub cleared : room' ≡ room_after v run room

-- The run's own refusal, then 1 to 7 and 9.
abbrev pub RunListedAny : SheetRun → List ℕ → PlannedList → List ℕ → Type 0
RunListedAny r room l room' = ListsAny (first_of (r.verdict ∷ any_checks (length room) (run_held r))) (run_held r) room l room'

-- The plan sheet of the entries of a list, which the writer judges for itself.
abbrev pub TextOfList : List ℕ → SheetRun → PlannedList → List ℕ → Written → List ℕ → Type 0
TextOfList sheet r l row w row' = PlanAnyWritten (read_name sheet) (run_held r) (take l.detours l.froms) (take l.detours l.tos) row w row'
