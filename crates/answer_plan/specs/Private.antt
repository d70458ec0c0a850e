-- For the function that lends the planner its rows. No public contract cites this file.
use Rattle.refusals.specs.Refusals.{first_of}
use Rattle.runs.specs.Run.{Run}
use Rattle.answer_plan.specs.declared.PlannedList.{PlannedList}
use Rattle.answer_plan.specs.Recall.{run_checks}
use Rattle.answer_plan.specs.PlannedLists.{ListedUnder}

-- The list of a run.
abbrev pub RowsPlanned : Run → PlannedList → Type 0
RowsPlanned run l = ListedUnder (first_of (run_checks run)) run l
