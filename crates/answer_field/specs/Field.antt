-- What is answered to the bytes of a run sheet by the plain engine: as `answer_plan` answers, but over eight wants are refused by 24, and 9 never applies.
use Rattle.std.specs.Prelude.{ℕ, List, [], ◌∷◌, length, ltb}
use Rattle.refusals.specs.declared.Refusal.TheVariants.{WantRows, OverEightWants}
use Rattle.refusals.specs.declared.Verdict.{Verdict}
use Rattle.refusals.specs.Refusals.{refuse_if, first_of}
use Rattle.runs.specs.Run.{Run}
use Rattle.runs.specs.Judging.{table_checks, judge_of}
use Rattle.engine_plain.specs.Plain.{uneven_wants, most_plain_wants}
use Rattle.answer_plan.specs.Recall.{SheetRecalledBy}

-- 1, 2 and 3, then 24, then 4 to 7. The rows suffice for eight wants, so 8 never applies.
abbrev pub field_checks : Run → List Verdict
field_checks run =
    first_of (table_checks run.starts run.lengths run.aggregates)
    ∷ refuse_if (uneven_wants run) WantRows
    ∷ refuse_if (ltb most_plain_wants (length run.numbers)) OverEightWants
    ∷ judge_of run
    ∷ []

-- The answer to a sheet: 12, 11 and 19 before these checks.
abbrev pub SheetFielded : List ℕ → List ℕ → ℕ → List ℕ → Type 0
SheetFielded sheet row n row' = SheetRecalledBy field_checks sheet row n row'
