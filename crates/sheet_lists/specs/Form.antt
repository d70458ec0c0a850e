-- A plan sheet handed in, whoever made it, and a detour list: which lines must stand where, the first that is not as described, and the list that
-- each holds. Whether the list is well formed and whether the numbers are the walk's is not asked here.
use Rattle.std.specs.Prelude.{ℕ, suc, ◌+◌, Bool, cond, List, [], ◌∷◌, eqb, ltb}
use Rattle.runs.specs.Run.{most_wants}
use Rattle.text_bytes.specs.Text.{line_feed, is_empty, behind, starts_with}
use Rattle.text_lines.specs.Lines.{line_of, line_after, after_lines, is_number_line, number_behind, is_pair_line, first_in, second_in, is_triple_line, first_bad_of, each_of}
use Rattle.sheet_reader.specs.Lines.{tape_key, is_tape_line, is_count_line}
use Rattle.sheet_reader.specs.Sheet.{unless, shifted, first_some}
use Rattle.sheet_writer.specs.PlanSheet.{sum_key, reads_key, finish_key, end_key, detours_key, detour_key, time_key}

-- A well-formed list has fewer detours than there are stops, so at most 63.
abbrev pub most_detours : ℕ
most_detours = 63

-- The lines of a text, each with its LF.
unfoldable pub lines_in : List ℕ → ℕ
lines_in [] = 0
lines_in (b ∷ text) = cond (eqb b line_feed) (suc (lines_in text)) (lines_in text)

-- The same, but no more than a limit.
unfoldable pub lines_up_to : ℕ → List ℕ → ℕ
lines_up_to most text = cond (ltb most (lines_in text)) most (lines_in text)

-- The first of the lines to the end of a text that is not of one kind; the line behind the limit is not, nor is a last one without LF. 0 where all are.
unfoldable pub first_bad_to_end : (List ℕ → Bool) → ℕ → List ℕ → ℕ
first_bad_to_end test most text =
    first_some
    (first_bad_of test (lines_up_to most text) text
    ∷ unless (is_empty (after_lines (lines_up_to most text) text)) (lines_up_to most text + 1)
    ∷ [])

-- A plan sheet: the number of its detours, the text from the first `detour` line on, and from the first `time` line on.
unfoldable pub detours_told : List ℕ → ℕ
detours_told plan = number_behind detours_key (line_after 5 plan)

unfoldable pub detour_text : List ℕ → List ℕ
detour_text plan = after_lines 6 plan

unfoldable pub time_text : List ℕ → List ℕ
time_text plan = after_lines (detours_told plan) (detour_text plan)

-- The first line that fails its own test, behind so many that have passed; 0 where all pass.
unfoldable pub first_failing : ℕ → List (List ℕ → Bool) → List ℕ → ℕ
first_failing passed [] text = 0
first_failing passed (test ∷ tests) text = cond (test (line_of text)) (first_failing (suc passed) tests (behind line_feed text)) (suc passed)

-- The first of its first six lines that is not as described, and the first of the others; 0 where all are.
unfoldable pub plan_bad_top : List ℕ → ℕ
plan_bad_top plan =
    first_failing 0
    (is_tape_line
    ∷ is_number_line sum_key
    ∷ is_number_line reads_key
    ∷ is_number_line finish_key
    ∷ is_number_line end_key
    ∷ is_count_line detours_key most_detours
    ∷ [])
    plan

unfoldable pub plan_bad_below : List ℕ → ℕ
plan_bad_below plan =
    first_some
    (shifted 6 (first_bad_of (is_pair_line detour_key) (detours_told plan) (detour_text plan))
    ∷ shifted (detours_told plan + 6) (first_bad_to_end (is_triple_line time_key) most_wants (time_text plan))
    ∷ [])

unfoldable pub plan_bad_line : List ℕ → ℕ
plan_bad_line plan = first_some (plan_bad_top plan ∷ plan_bad_below plan ∷ [])

-- A list is a plan sheet, of which the `detour` lines are taken, or such lines alone. A text that begins with `tape=` is the former.
unfoldable pub is_plan : List ℕ → Bool
is_plan list = starts_with tape_key list

unfoldable pub list_bad_line : List ℕ → ℕ
list_bad_line list = cond (is_plan list) (plan_bad_line list) (first_bad_to_end (is_pair_line detour_key) most_detours list)

-- How many detours it has, and the text from their lines on.
unfoldable pub list_detours : List ℕ → ℕ
list_detours list = cond (is_plan list) (detours_told list) (lines_up_to most_detours list)

unfoldable pub list_text : List ℕ → List ℕ
list_text list = cond (is_plan list) (detour_text list) list

-- Starts and ends on so many lines: `detour` is start file and end file, in the order done.
abbrev pub starts_on : ℕ → List ℕ → List ℕ
starts_on count text = each_of (λ i. first_in detour_key (line_after i text)) count

abbrev pub ends_on : ℕ → List ℕ → List ℕ
ends_on count text = each_of (λ i. second_in detour_key (line_after i text)) count

-- The list that a plan sheet holds.
unfoldable pub plan_froms : List ℕ → List ℕ
plan_froms plan = starts_on (detours_told plan) (detour_text plan)

unfoldable pub plan_tos : List ℕ → List ℕ
plan_tos plan = ends_on (detours_told plan) (detour_text plan)

-- The list that a list holds.
unfoldable pub list_froms : List ℕ → List ℕ
list_froms list = starts_on (list_detours list) (list_text list)

unfoldable pub list_tos : List ℕ → List ℕ
list_tos list = ends_on (list_detours list) (list_text list)
