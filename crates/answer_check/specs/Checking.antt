-- What is answered to a run sheet and a plan sheet, whatever their bytes are: whether the list is well formed, whether the sheet is the walk's and
-- whether the list is the least rule's, or the first refusal that applies. Then the row that takes the answer and the room. The head may stand anywhere.
use Rattle.std.specs.Prelude.{ℕ, suc, ◌-◌, ◌≡◌, Bool, true, false, cond, ◌&&◌, List, [], ◌∷◌, ◌++◌, map, length, drop, eqb, ltb}
use Rattle.refusals.specs.declared.Refusal.TheVariants.{ShortRoom}
use Rattle.refusals.specs.declared.Verdict.{Verdict}
use Rattle.refusals.specs.Refusals.{is_refusal, refuse_if}
use Rattle.runs.specs.Run.{Run}
use Rattle.runs.specs.Lists.{Detour, list_of}
use Rattle.planner.specs.Plan.{room_for}
use Rattle.text_bytes.specs.Text.{bytes, line_feed, is_text}
use Rattle.text_lines.specs.Lines.{line_of}
use Rattle.sheet_reader.specs.Sheet.{sheet_run, sheet_name}
use Rattle.text_pages.specs.Printing.{line, number_line}
use Rattle.sheet_writer.specs.declared.Written.{Written}
use Rattle.sheet_writer.specs.RefusalLines.{refusal_text}
use Rattle.answer_plan.specs.Recall.{verdict_by}
use Rattle.answer_plan.specs.PlannedLists.{TextHanded}
use Rattle.answer_any.specs.AnyRun.{room_after, NotAnswered}
use Rattle.sheet_lists.specs.Form.{plan_froms, plan_tos}
use Rattle.sheet_lists.specs.Reading.{plan_form}
use Rattle.answer_check.specs.declared.Difference.{Difference}
use Rattle.answer_check.specs.RunRules.{RunRules, head_anywhere}
use Rattle.answer_check.specs.Pricing.{RowHolds}

-- The lines of a verdict: `yes`, or `no` with a number.
abbrev pub formed_yes : List ℕ
formed_yes = bytes "formed=yes\n"

abbrev pub formed_no : List ℕ
formed_no = bytes "formed=no,"

abbrev pub walk_yes : List ℕ
walk_yes = bytes "walk=yes\n"

abbrev pub walk_no : List ℕ
walk_no = bytes "walk=no,"

abbrev pub least_yes : List ℕ
least_yes = bytes "least=yes\n"

abbrev pub least_no : List ℕ
least_no = bytes "least=no,"

-- What stands on a line, and what should.
abbrev pub found_key : List ℕ
found_key = bytes "found="

abbrev pub expected_key : List ℕ
expected_key = bytes "expected="

-- The line of the first byte in which two texts differ, from a byte on: its number, and how many bytes stand before it in both.
unfoldable pub differ_from : ℕ → ℕ → ℕ → List ℕ → List ℕ → Difference
differ_from line start at [] b = record { line = line; start = start }
differ_from line start at (x ∷ a) [] = record { line = line; start = start }
differ_from line start at (x ∷ a) (y ∷ b) =
    cond (eqb x y)
    (cond (eqb x line_feed) (differ_from (suc line) (suc at) (suc at) a b) (differ_from line start (suc at) a b))
    (record { line = line; start = start })

-- The first line, counted from 1, in which they differ.
abbrev pub first_difference : List ℕ → List ℕ → Difference
first_difference a b = differ_from 1 0 0 a b

-- Whether a sheet is the walk's: byte for byte the one that is expected. `no` names the first line that differs.
unfoldable pub walk_line : List ℕ → List ℕ → List ℕ
walk_line plan expected = cond (is_text expected plan) walk_yes (number_line walk_no (first_difference plan expected).line)

-- That line as it stands and as it should; empty where there is none.
unfoldable pub difference_lines : List ℕ → List ℕ → List ℕ
difference_lines plan expected =
    cond (is_text expected plan) []
    (line found_key (line_of (drop (first_difference plan expected).start plan))
    ++ line expected_key (line_of (drop (first_difference plan expected).start expected)))

-- Whether two rows of starts and ends hold a list.
abbrev pub same_list : List ℕ → List ℕ → List Detour → Bool
same_list froms tos list = is_text (map (λ d. d.from) list) froms && is_text (map (λ d. d.to) list) tos

-- Whether a list is the least one. `no` says by how much its sum is larger: 0 where it is another of the same sum, which comes later by the tie rule.
unfoldable pub least_line : RunRules → Run → List ℕ → List ℕ → List Detour → List ℕ
least_line rules run froms tos least =
    cond (same_list froms tos least) least_yes
    (number_line least_no (rules.walk_sum run (list_of froms tos) - rules.walk_sum run least))

-- The whole verdict on a list that is well formed: three lines, and two more where the sheet is not the walk's.
unfoldable pub verdict_lines : RunRules → List ℕ → List ℕ → Run → List ℕ → List ℕ → List Detour → List ℕ
verdict_lines rules plan expected run froms tos least =
    formed_yes ++ walk_line plan expected ++ least_line rules run froms tos least ++ difference_lines plan expected

-- And on any: of one that is not, the first entry that breaks a rule.
unfoldable pub check_text : RunRules → List ℕ → Run → List ℕ → List ℕ → List ℕ → List Detour → List ℕ
check_text rules name run plan froms tos least =
    cond (eqb (rules.first_bad run (list_of froms tos)) 0)
    (verdict_lines rules plan (rules.sheet_of name run froms tos) run froms tos least)
    (number_line formed_no (rules.first_bad run (list_of froms tos)))

-- The plan sheet's 12 and 11, then 1 to 7, then 9 by the words of room that are lent. Behind the run sheet's own 12, 11 and 19.
abbrev pub check_checks : RunRules → ℕ → List ℕ → Run → List Verdict
check_checks rules words plan run = plan_form plan ∷ rules.judged run ∷ refuse_if (ltb words (room_for run)) ShortRoom ∷ []

abbrev pub check_verdict : RunRules → ℕ → List ℕ → List ℕ → Verdict
check_verdict rules words sheet plan = verdict_by (check_checks rules words plan) sheet

-- The verdict by the least list, on a plan sheet and the list in two rows. There is one least list.
pub record VerdictOf (rules : RunRules) (name : List ℕ) (run : Run) (plan froms tos text : List ℕ) : Type 0 where
  pub list : List Detour
  pub least : rules.Least run list
  pub says : text ≡ check_text rules name run plan froms tos list

-- The text of the answer, under a verdict on the two sheets.
pub record AnswersCheck (rules : RunRules) (v : Verdict) (name : List ℕ) (run : Run) (plan froms tos text : List ℕ) : Type 0 where
  pub refused : is_refusal v.refusal ≡ true → text ≡ refusal_text v
  pub checked : is_refusal v.refusal ≡ false → VerdictOf rules name run plan froms tos text

-- The number of bytes of the answer, and the row that holds it.
pub record Checked (rules : RunRules) (v : Verdict) (name : List ℕ) (run : Run) (plan froms tos row : List ℕ) (n : ℕ) (row' : List ℕ) : Type 0 where
  pub text : List ℕ
  pub answers : AnswersCheck rules v name run plan froms tos text
  pub holds : RowHolds text row n row'

-- The answer to a run sheet and a plan sheet, by some rules and in so many words of room: on the list that the plan sheet holds.
abbrev pub CheckGiven : RunRules → ℕ → List ℕ → List ℕ → List ℕ → ℕ → List ℕ → Type 0
CheckGiven rules words sheet plan row n row' =
    Checked rules (check_verdict rules words sheet plan) (sheet_name sheet) (sheet_run sheet) plan (plan_froms plan) (plan_tos plan) row n row'

-- By the rules for a head anywhere: what is refused, and the room as the planner leaves it, on a refusal as it was.
abbrev pub verdict_on : ℕ → List ℕ → List ℕ → Verdict
verdict_on words sheet plan = check_verdict head_anywhere words sheet plan

abbrev pub room_checked : List ℕ → List ℕ → List ℕ → List ℕ
room_checked sheet plan room = room_after (verdict_on (length room) sheet plan) (sheet_run sheet) room

-- For a program: the number of bytes of the verdict, or of a refusal's two lines, and the row that holds them.
pub record SheetChecked (sheet plan row room : List ℕ) (n : ℕ) (row' room' : List ℕ) : Type 0 where
  pub given : CheckGiven head_anywhere (length room) sheet plan row n row'
  pub cleared : room' ≡ room_checked sheet plan room

-- For a caller: a refusal's record and the row as it was; else the verdict is handed out, 8 where the row is shorter. A `no` is no refusal.
pub record CheckAnswered (sheet plan row room : List ℕ) (w : Written) (row' room' : List ℕ) : Type 0 where
  pub refused : is_refusal (verdict_on (length room) sheet plan).refusal ≡ true → NotAnswered (verdict_on (length room) sheet plan) row w row'
  pub checked : is_refusal (verdict_on (length room) sheet plan).refusal ≡ false
      → TextHanded (VerdictOf head_anywhere (sheet_name sheet) (sheet_run sheet) plan (plan_froms plan) (plan_tos plan)) row w row'
  pub cleared : room' ≡ room_checked sheet plan room
