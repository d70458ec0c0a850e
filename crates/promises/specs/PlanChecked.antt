-- What the programs print for a run to which no refusal of their tables applies checks as well formed, the walk's and the least.
use Rattle.std.specs.Prelude.{ℕ, ◌<◌, List, length, take}
use Rattle.answer_plan.specs.Recall.{SheetRecalled}
use Rattle.answer_any.specs.AnyRun.{SheetRecalledAny}
use Rattle.demands.specs.RefusalTable.{SomeApplies}
use Rattle.promises.specs.Checks.{ChecksAsAll}
use Rattle.promises.specs.Answers.{AnswerApplies, RoomApplies, room_order}
use Rattle.promises.specs.AnswersAny.{AnyApplies}

-- The sheet that `plan` prints, in a row with room for it; and what `plan --any` prints, in no less working room.
abbrev pub PlanChecks : Type 0
PlanChecks =
    (sheet row : List ℕ) (n : ℕ) (row' : List ℕ)
    → SheetRecalled sheet row n row'
    → (SomeApplies (AnswerApplies RoomApplies sheet) room_order → ⊥)
    → 0 < n
    → ChecksAsAll sheet (take n row') 5120

abbrev pub PlanAnyChecks : Type 0
PlanAnyChecks =
    (sheet row lent : List ℕ) (n : ℕ) (row' lent' : List ℕ)
    → SheetRecalledAny sheet row lent n row' lent'
    → (SomeApplies (AnyApplies (length lent) sheet) room_order → ⊥)
    → 0 < n
    → ChecksAsAll sheet (take n row') (length lent)
