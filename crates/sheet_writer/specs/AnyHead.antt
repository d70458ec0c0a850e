-- The plan sheet of a run with a head anywhere, and what its writer answers, for every input: as PlanSheet has it, with the judging and the prices of
-- such a head. A law: of a run that 01 accepts both write the same.
use Rattle.std.specs.Prelude.{ℕ, not, List, [], ◌∷◌}
use Rattle.refusals.specs.declared.Refusal.TheVariants.{BadName}
use Rattle.refusals.specs.declared.Verdict.{Verdict}
use Rattle.refusals.specs.Refusals.{refuse_if, first_of}
use Rattle.runs.specs.Run.{Run, total, stops_of, want_stops_of}
use Rattle.runs.specs.Lists.{list_of}
use Rattle.runs.specs.AnyHead.{judge_any_of, list_verdict_any}
use Rattle.walk.specs.Walk.{head_at, times_of, legs_for}
use Rattle.walk.specs.AnyHead.{run_legs, priced_any_answer}
use Rattle.text_bytes.specs.Text.{is_name}
use Rattle.sheet_writer.specs.declared.Written.{Written}
use Rattle.sheet_writer.specs.Writing.{row_verdict, Handed}
use Rattle.sheet_writer.specs.PlanSheet.{plan_lines}

-- The plan sheet of a run and a list: what the pricer for a head anywhere gives for them.
unfoldable pub plan_any_text : List ℕ → Run → List ℕ → List ℕ → List ℕ
plan_any_text name run froms tos =
    plan_lines name (total run.counts) (priced_any_answer run (list_of froms tos)) froms tos
    run.numbers (times_of run.turn (head_at run.head) (run_legs run (list_of froms tos)) (want_stops_of run)) (legs_for (run_legs run (list_of froms tos)) (want_stops_of run))

-- 1 to 7, then 13, then 10, then 8.
unfoldable pub plan_any_sheet_verdict : List ℕ → Run → List ℕ → List ℕ → List ℕ → Verdict
plan_any_sheet_verdict name run froms tos row =
    first_of
    (judge_any_of run
    ∷ refuse_if (not (is_name name)) BadName
    ∷ list_verdict_any run.head (stops_of run) froms tos
    ∷ row_verdict (plan_any_text name run froms tos) row
    ∷ [])

abbrev pub PlanAnyWritten : List ℕ → Run → List ℕ → List ℕ → List ℕ → Written → List ℕ → Type 0
PlanAnyWritten name run froms tos row r row' =
    Handed (plan_any_sheet_verdict name run froms tos row) (plan_any_text name run froms tos) row r row'
