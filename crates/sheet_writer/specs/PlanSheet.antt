-- The text of a plan sheet, what the plan sheet writer answers, for every input, and the row that it leaves (with Writing's `Handed`).
use Rattle.std.specs.Prelude.{ℕ, not, List, [], ◌∷◌, ◌++◌}
use Rattle.refusals.specs.declared.Refusal.TheVariants.{BadName}
use Rattle.refusals.specs.declared.Verdict.{Verdict}
use Rattle.walk.specs.declared.Answer.{Answer}
use Rattle.refusals.specs.Refusals.{refuse_if, first_of}
use Rattle.runs.specs.Run.{Run, total, stops_of}
use Rattle.runs.specs.Judging.{judge_of}
use Rattle.runs.specs.Lists.{list_of, list_verdict}
use Rattle.walk.specs.Price.{priced_answer, priced_times, priced_legs}
use Rattle.text_bytes.specs.Text.{bytes, is_name}
use Rattle.sheet_reader.specs.Lines.{tape_key}
use Rattle.sheet_writer.specs.declared.Written.{Written}
use Rattle.text_pages.specs.Printing.{line, number_line, pair_lines, triple_lines}
use Rattle.sheet_writer.specs.Writing.{row_verdict, Handed}

-- The keys.
abbrev pub sum_key : List ℕ
sum_key = bytes "sum="

abbrev pub reads_key : List ℕ
reads_key = bytes "reads="

abbrev pub finish_key : List ℕ
finish_key = bytes "finish="

abbrev pub end_key : List ℕ
end_key = bytes "end="

abbrev pub detours_key : List ℕ
detours_key = bytes "detours="

abbrev pub detour_key : List ℕ
detour_key = bytes "detour="

abbrev pub time_key : List ℕ
time_key = bytes "time="

-- The first six lines, for the pricer's answer: `finish` is the clock and `end` the place at the end of the last sweep.
unfoldable pub plan_top : List ℕ → ℕ → Answer → List ℕ
plan_top name reads answer =
    line tape_key name
    ++ number_line sum_key answer.sum
    ++ number_line reads_key reads
    ++ number_line finish_key answer.finish
    ++ number_line end_key answer.end
    ++ number_line detours_key answer.detours

-- The whole sheet: `detour` is start file and end file, in the order done; `time` is file number, time and leg, ascending by file.
unfoldable pub plan_lines : List ℕ → ℕ → Answer → List ℕ → List ℕ → List ℕ → List ℕ → List ℕ → List ℕ
plan_lines name reads answer froms tos numbers times legs =
    plan_top name reads answer ++ pair_lines detour_key froms tos ++ triple_lines time_key numbers times legs

-- The plan sheet of a run and a list: what the pricer gives for them.
unfoldable pub plan_text : List ℕ → Run → List ℕ → List ℕ → List ℕ
plan_text name run froms tos =
    plan_lines name (total run.counts) (priced_answer run (list_of froms tos)) froms tos
    run.numbers (priced_times run (list_of froms tos)) (priced_legs run (list_of froms tos))

-- 1 to 7, then 13, then 10, then 8.
unfoldable pub plan_sheet_verdict : List ℕ → Run → List ℕ → List ℕ → List ℕ → Verdict
plan_sheet_verdict name run froms tos row =
    first_of
    (judge_of run
    ∷ refuse_if (not (is_name name)) BadName
    ∷ list_verdict (stops_of run) froms tos
    ∷ row_verdict (plan_text name run froms tos) row
    ∷ [])

-- The plan sheet writer.
abbrev pub PlanWritten : List ℕ → Run → List ℕ → List ℕ → List ℕ → Written → List ℕ → Type 0
PlanWritten name run froms tos row r row' =
    Handed (plan_sheet_verdict name run froms tos row) (plan_text name run froms tos) row r row'
