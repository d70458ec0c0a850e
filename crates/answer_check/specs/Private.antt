-- What the functions that judge a list and put a verdict on a page ask and leave. No public contract cites this file.
use Rattle.std.specs.Prelude.{ℕ, ◌+◌, ◌≤◌, ◌≡◌, Result, Ok, Err, Bool, true, false, cond, List, [], ◌∷◌, ◌++◌, length, take}
use Rattle.refusals.specs.declared.Verdict.{Verdict}
use Rattle.refusals.specs.Refusals.{is_refusal, first_of}
use Rattle.runs.specs.Run.{Run, stops_of}
use Rattle.runs.specs.Lists.{list_of}
use Rattle.runs.specs.AnyHead.{judge_any_of, list_verdict_any}
use Rattle.walk.specs.AnyHead.{priced_any_answer}
use Rattle.least.specs.AnyHead.{LeastAny}
use Rattle.text_bytes.specs.Text.{is_name}
use Rattle.text_pages.specs.Printing.{number_line}
use Rattle.sheet_reader.specs.Sheet.{sheet_run, sheet_name}
use Rattle.sheet_runs.specs.declared.SheetRun.{SheetRun}
use Rattle.sheet_runs.specs.SheetRuns.{run_held}
use Rattle.sheet_lists.specs.Form.{plan_froms, plan_tos}
use Rattle.answer_plan.specs.declared.PlannedList.{PlannedList}
use Rattle.answer_plan.specs.PlannedLists.{ListIn}
use Rattle.answer_check.specs.RunRules.{head_anywhere}
use Rattle.answer_check.specs.Checking.{formed_yes, least_yes, least_no, walk_line, difference_lines, VerdictOf, verdict_on, room_checked}

-- A list handed in, by value: the verdict on its form and, where that accepts, its starts and ends.
pub record HandedIn (form : Verdict) (froms tos : List ℕ) (l : PlannedList) : Type 0 where
  pub verdict : l.verdict ≡ form
  pub starts : is_refusal form.refusal ≡ false → take l.detours l.froms ≡ froms
  pub ends : is_refusal form.refusal ≡ false → take l.detours l.tos ≡ tos

-- 1 to 7, then 10.
abbrev pub list_checks : Run → List ℕ → List ℕ → List Verdict
list_checks run froms tos = judge_any_of run ∷ list_verdict_any run.head (stops_of run) froms tos ∷ []

-- What the pricer says of a run and a list: the sum, or the first refusal.
abbrev pub PricedList : Run → List ℕ → List ℕ → Result ℕ Verdict → Type 0
PricedList run froms tos (Ok sum) = (is_refusal (first_of (list_checks run froms tos)).refusal ≡ false) × (sum ≡ (priced_any_answer run (list_of froms tos)).sum)
PricedList run froms tos (Err v) = (is_refusal v.refusal ≡ true) × (v ≡ first_of (list_checks run froms tos))

abbrev pub first_refusal : Verdict → Verdict → Verdict
first_refusal v w = cond (is_refusal v.refusal) v w

-- The first refusal of the run sheet, of a list's form and of the pricer.
abbrev pub judged_list : SheetRun → PlannedList → Verdict
judged_list r l = first_refusal r.verdict (first_refusal l.verdict (first_of (list_checks (run_held r) (take l.detours l.froms) (take l.detours l.tos))))

-- A run, a plan sheet's list and the least one, where nothing is refused but the list.
pub record Checkable (name : List ℕ) (run : Run) (plan : List ℕ) (l least : PlannedList) : Type 0 where
  pub named : is_name name ≡ true
  pub judged : is_refusal (judge_any_of run).refusal ≡ false
  pub short : length plan ≤ 16384
  pub form : is_refusal l.verdict.refusal ≡ false
  pub even : length (take l.detours l.froms) ≡ length (take l.detours l.tos)
  pub planned : ListIn LeastAny run least

-- The lines of a verdict, by whether the list is the least one and by how much its sum is larger.
abbrev pub least_line_by : Bool → ℕ → List ℕ
least_line_by least by = cond least least_yes (number_line least_no by)

abbrev pub verdict_by : List ℕ → List ℕ → Bool → ℕ → List ℕ
verdict_by plan expected least by = formed_yes ++ walk_line plan expected ++ least_line_by least by ++ difference_lines plan expected

-- No line is longer than its text.
abbrev pub difference_most : List ℕ → List ℕ → ℕ
difference_most plan expected = (6 + length plan + 1) + (9 + length expected + 1)

-- A text in the first bytes of a page, and one of which something is said.
pub record PageOf (Says : List ℕ → Type 0) (page : List ℕ) (n : ℕ) : Type 0 where
  pub within : n ≤ length page
  pub says : Says (take n page)

abbrev pub PageIs : List ℕ → List ℕ → ℕ → Type 0
PageIs text page n = PageOf (λ t. t ≡ text) page n

-- The first refusal of a run sheet and a plan sheet, or the verdict's text in the first bytes of a page.
abbrev pub CheckTold : List ℕ → List ℕ → ℕ → Result ℕ Verdict → List ℕ → Type 0
CheckTold sheet plan words (Ok n) page =
    (is_refusal (verdict_on words sheet plan).refusal ≡ false)
    × PageOf (VerdictOf head_anywhere (sheet_name sheet) (sheet_run sheet) plan (plan_froms plan) (plan_tos plan)) page n
CheckTold sheet plan words (Err v) page = (is_refusal v.refusal ≡ true) × (v ≡ verdict_on words sheet plan)

-- A plan sheet checked, and the room that is left.
pub record PlanChecked (sheet plan room : List ℕ) (r : Result ℕ Verdict) (page' room' : List ℕ) : Type 0 where
  pub told : CheckTold sheet plan (length room) r page'
  pub cleared : room' ≡ room_checked sheet plan room
