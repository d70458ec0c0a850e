-- For the function that lends the planner its rows. No public contract cites this file.
use Rattle.std.specs.Prelude.{ℕ, List, length}
use Rattle.refusals.specs.Refusals.{first_of}
use Rattle.runs.specs.Run.{Run}
use Rattle.answer_plan.specs.declared.PlannedList.{PlannedList}
use Rattle.answer_any.specs.AnyRun.{any_checks}
use Rattle.answer_any.specs.AnyLists.{ListsAny}

-- The list of a run.
abbrev pub RowsPlanned : Run → List ℕ → PlannedList → List ℕ → Type 0
RowsPlanned run room l room' = ListsAny (first_of (any_checks (length room) run)) run room l room'
