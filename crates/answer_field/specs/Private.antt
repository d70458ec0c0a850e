-- For the function that lends the plain engine its rows. No public contract cites this file.
use Rattle.refusals.specs.Refusals.{first_of}
use Rattle.runs.specs.Run.{Run}
use Rattle.answer_plan.specs.declared.PlannedList.{PlannedList}
use Rattle.answer_plan.specs.PlannedLists.{ListedUnder}
use Rattle.answer_field.specs.Field.{field_checks}

-- The list of a run.
abbrev pub RowsFielded : Run → PlannedList → Type 0
RowsFielded run l = ListedUnder (first_of (field_checks run)) run l
