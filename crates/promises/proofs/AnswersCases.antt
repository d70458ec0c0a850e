-- Worked answers: the sheet of document 01 and its plan, a sheet with the retired rule, and a plan sheet with one wrong digit.
use Prim.Native.Nat.{ℕ, ◌≤◌}
use mathlib.Core.Path.{◌≡◌, refl, sym, ap, ◌∙◌}
use mathlib.Core.Bool.{false, true≢false}
use mathlib.Core.List.{List, [], ◌∷◌, map}
use native.Mathlib.Omega.{arith}
use lib.ListN.{length, take}
use lib.Dec.{ltb}
use borrow.Author.Tests.{eq-eqb, le-ltb}
use Rattle.refusals.specs.declared.Refusal.TheVariants.{BadLine, RetiredRule}
use Rattle.refusals.specs.Refusals.{is_refusal, accepted, first_where}
use Rattle.refusals.proofs.Verdicts.{refuses}
use Rattle.runs.specs.Run.{Run, stops_of, goes_on, first_member, last_within, want_stops, join_to, joined}
use Rattle.runs.specs.Judging.{judge_of, right_end}
use Rattle.runs.specs.Lists.{Detour, any_below, list_of, list_verdict, wanted}
use Rattle.runs.specs.AnyHead.{pulled, judge_any_of, lifted, past_head, first_bad_entry_any, list_verdict_any}
use Rattle.runs.proofs.AnyHead.{Right, sound_right, entries_same, list_any_same, judge_any_same, accepted_any}
use Rattle.runs.proofs.Stops.{accepted_sound, run_sound}
use Rattle.walk.specs.Walk.{walked, served, time_of, times_of, leg_from, legs_for, sum_of}
use Rattle.walk.specs.Detours.{legs_of, start_of, end_of, unread_end, sweep_end, last_sweep}
use Rattle.walk.specs.Price.{priced_answer, priced_times, priced_legs}
use Rattle.walk.specs.AnyHead.{priced_any_answer}
use Rattle.least.specs.Least.{LeastForRun}
use Rattle.least.specs.AnyHead.{LeastAny}
use Rattle.least.proofs.LeastList.{least_unique}
use Rattle.least.proofs.LeastAny.{least_any_same, no_detour_left}
use Rattle.planner.specs.Plan.{room_for}
use Rattle.text_bytes.specs.Text.{bytes, has, before, behind, starts_with, all_of, value_from, is_number, is_name, decimal_in}
use Rattle.text_lines.specs.Lines.{line_of, after_lines, is_number_line, is_pair, is_pair_line, is_triple, is_triple_line, first_bad_of, each_of}
use Rattle.text_pages.specs.Printing.{pair_lines, triple_lines}
use Rattle.sheet_reader.specs.Lines.{is_tape_line, is_count_line, is_turn_line, is_rule_line, turn_with, names_sweep}
use Rattle.sheet_reader.specs.Sheet.{sheet_head, sheet_turn_with, says_sweep, sheet_files, file_text, wants_text, sheet_wants, want_text, end_text, first_bad_top, first_bad_below, first_bad_line, sheet_run, sheet_name}
use Rattle.sheet_reader.specs.Reading.{sheet_verdict, rule_verdict}
use Rattle.sheet_writer.specs.RefusalLines.{refusal_text}
use Rattle.sheet_writer.specs.PlanSheet.{plan_top, plan_lines, plan_text}
use Rattle.sheet_writer.specs.AnyHead.{plan_any_text}
use Rattle.sheet_writer.proofs.Plans.{text_same as plan-text-same}
use Rattle.sheet_lists.specs.Form.{lines_in, lines_up_to, first_bad_to_end, detours_told, detour_text, time_text, first_failing, plan_bad_top, plan_bad_below, plan_bad_line, is_plan, list_bad_line, plan_froms, plan_tos, list_detours, list_text, list_froms, list_tos}
use Rattle.sheet_lists.specs.Reading.{plan_form, list_form}
use Rattle.answer_plan.specs.Recall.{run_checks, verdict_by, recall_verdict}
use Rattle.answer_check.specs.RunRules.{head_anywhere}
use Rattle.answer_check.specs.Pricing.{pricing_verdict, price_text}
use Rattle.answer_check.specs.Checking.{differ_from, walk_line, difference_lines, least_line, verdict_lines, check_text, verdict_on, SheetChecked}
use Rattle.demands.specs.Cases.{example_run}
use Rattle.demands.proofs.Judged.{nothing_judged, judged_nothing}
use Rattle.demands.proofs.Cases.{cases_hold}
use Rattle.demands.proofs.AnyInstances.{mounted}
use Rattle.promises.specs.Answers.{example_sheet, example_plan, PrintsTheExample, retired_sheet, PrintsTwoLines}
use Rattle.promises.specs.Lengths.{check_row}
use Rattle.promises.specs.CheckWhole.{wrong_plan, PrintsTheDifference, mounted_sheet, mounted_plan, ChecksMounted}
use Rattle.promises.specs.Mends.{SheetComesBack}
use Rattle.promises.proofs.Early.{none_early}
use Rattle.promises.proofs.Mends.{accepted_comes_back}
use Rattle.promises.proofs.Checks.{put_whole}
use Rattle.promises.proofs.Lengths.{run_judges, run_checks_near, plan_held}
use Rattle.promises.specs.TwoTexts.{PrintsTheListsLine}
use Rattle.promises.specs.ListEntries.{priced_plan, PricesTheExample}
use Rattle.promises.proofs.InputLengths.{price_held, check_fits}

-- The case of the example: its run is accepted, and its least list is (2,2).
abbrev best : List Detour
best = record { from = 2; to = 2 } ∷ []

example_judged : refuses (judge_of example_run) ≡ false
example_judged = nothing_judged example_run cases_hold.1.1.1.1.1.1.1.1.1.1.0.accepted

example_least : LeastForRun example_run best
example_least = cases_hold.1.1.1.1.1.1.1.1.1.1.0.least.0 refl

example_run_lem : sheet_run example_sheet ≡ example_run
unfolding sheet_run sheet_head sheet_turn_with turn_with sheet_files file_text wants_text sheet_wants want_text each_of line_of after_lines has before behind value_from
example_run_lem = refl

example_good : sheet_verdict example_sheet ≡ accepted
unfolding sheet_verdict first_bad_line first_bad_top first_bad_below sheet_files file_text wants_text sheet_wants want_text end_text is_tape_line is_name is_number_line is_turn_line is_rule_line is_count_line first_bad_of first_where is_triple_line is_triple is_pair_line is_pair is_number all_of value_from starts_with line_of after_lines has before behind
example_good = refl

example_ruled : rule_verdict example_sheet ≡ accepted
unfolding rule_verdict says_sweep names_sweep starts_with line_of after_lines has before behind
example_ruled = refl

example_passes : refuses (recall_verdict example_sheet) ≡ false
unfolding verdict_by want_stops join_to joined goes_on first_member last_within
example_passes = rw (example_good, example_ruled, example_run_lem, example_judged)

example_text_lem : plan_text (sheet_name example_sheet) example_run (2 ∷ []) (2 ∷ []) ≡ example_plan
unfolding plan_text plan_lines plan_top sheet_name pair_lines triple_lines decimal_in priced_answer priced_times priced_legs list_of goes_on first_member last_within want_stops join_to joined start_of end_of served unread_end sweep_end last_sweep legs_of walked time_of times_of leg_from legs_for sum_of line_of after_lines has before behind
example_text_lem = refl

pub prints_the_example : PrintsTheExample
prints_the_example row n row' c wide =
    let h = plan_held run_checks run_judges run_checks_near example_sheet c.text c.answers in
    let p = c.answers.planned example_passes in
    let least : LeastForRun example_run p.list = rw example_run_lem at p.least in
    let one : p.list ≡ best = least_unique example_run.turn example_run.head (stops_of example_run) p.list best least example_least in
    put_whole c.text row n row' c.bytes c.left (omega (arith, h.0))
    ∙ p.says
    ∙ ap (λ l. plan_text (sheet_name example_sheet) (sheet_run example_sheet) (map (λ d. d.from) l) (map (λ d. d.to) l)) one
    ∙ ap (λ r. plan_text (sheet_name example_sheet) r (2 ∷ []) (2 ∷ [])) example_run_lem
    ∙ example_text_lem

-- So it is what the mender asks of a sheet that comes back.
pub example_comes_back : SheetComesBack example_sheet
example_comes_back = accepted_comes_back example_sheet (none_early example_sheet example_good example_ruled) (judged_nothing (sheet_run example_sheet) (ap (λ r. refuses (judge_of r)) example_run_lem ∙ example_judged))

-- The retired rule.
retired_good : sheet_verdict retired_sheet ≡ accepted
unfolding sheet_verdict first_bad_line first_bad_top first_bad_below sheet_files file_text wants_text sheet_wants want_text end_text is_tape_line is_name is_number_line is_turn_line is_rule_line is_count_line first_bad_of first_where is_number all_of value_from starts_with line_of after_lines has before behind
retired_good = refl

retired_ruled : rule_verdict retired_sheet ≡ record { refusal = RetiredRule; place = 4 }
unfolding rule_verdict says_sweep names_sweep starts_with line_of after_lines has before behind
retired_ruled = refl

retired_refused : recall_verdict retired_sheet ≡ record { refusal = RetiredRule; place = 4 }
unfolding verdict_by
retired_refused = rw (retired_good, retired_ruled)

retired_text : refusal_text (record { refusal = RetiredRule; place = 4 }) ≡ bytes "refused=19\nplace=4\n"
unfolding refusal_text decimal_in
retired_text = refl

pub prints_two_lines : PrintsTwoLines
prints_two_lines row n row' c wide =
    let h = plan_held run_checks run_judges run_checks_near retired_sheet c.text c.answers in
    put_whole c.text row n row' c.bytes c.left (omega (arith, h.0)) ∙ c.answers.refused (ap refuses retired_refused) ∙ ap refusal_text retired_refused ∙ retired_text

-- The wrong digit.
wrong_form : plan_form wrong_plan ≡ accepted
unfolding plan_form plan_bad_line plan_bad_top plan_bad_below first_failing detours_told detour_text time_text lines_in lines_up_to first_bad_to_end is_tape_line is_name is_number_line is_count_line first_bad_of first_where is_triple_line is_triple is_pair_line is_pair is_number all_of value_from starts_with line_of after_lines has before behind
wrong_form = refl

wrong_list : (plan_froms wrong_plan ≡ 2 ∷ []) × (plan_tos wrong_plan ≡ 2 ∷ [])
unfolding plan_froms plan_tos detours_told detour_text each_of value_from line_of after_lines has before behind
wrong_list = (refl, refl)

-- The run with its head anywhere is the run.
example_any : judge_any_of example_run ≡ judge_of example_run
example_any = judge_any_same example_run (λ is. true≢false (sym (ap is_refusal is) ∙ example_judged))

example_right : Right example_run.head (stops_of example_run)
example_right = sound_right (stops_of example_run) example_run.head (accepted_sound example_run example_judged)

room_words_lem : (run : Run) (words : ℕ) → 5120 ≤ words → room_for run ≤ 5120 → ltb words (room_for run) ≡ false
room_words_lem run words l k = le-ltb words (room_for run) (omega (arith, l, k))

example_room : room_for example_run ≤ 5120
unfolding want_stops join_to joined goes_on first_member last_within
example_room = omega arith

wrong_passes : (words : ℕ) → 5120 ≤ words → refuses (verdict_on words example_sheet wrong_plan) ≡ false
unfolding verdict_by
wrong_passes words l = rw (example_good, example_ruled, wrong_form, example_run_lem, example_any, example_judged, room_words_lem example_run words l example_room)

wrong_formed : first_bad_entry_any example_run.head (stops_of example_run) (list_of (2 ∷ []) (2 ∷ [])) ≡ 0
unfolding list_of
wrong_formed = entries_same example_run.head (stops_of example_run) example_right best ∙ example_least.formed

wrong_lines : verdict_lines head_anywhere wrong_plan example_plan example_run (2 ∷ []) (2 ∷ []) best ≡ bytes "formed=yes\nwalk=no,9\nleast=yes\nfound=time=2,56,1\nexpected=time=2,55,1\n"
unfolding verdict_lines walk_line least_line difference_lines differ_from starts_with decimal_in line_of has before
wrong_lines = refl

wrong_checked : check_text head_anywhere (sheet_name example_sheet) example_run wrong_plan (2 ∷ []) (2 ∷ []) best ≡ verdict_lines head_anywhere wrong_plan (plan_any_text (sheet_name example_sheet) example_run (2 ∷ []) (2 ∷ [])) example_run (2 ∷ []) (2 ∷ []) best
unfolding check_text
wrong_checked = rw (eq-eqb (first_bad_entry_any example_run.head (stops_of example_run) (list_of (2 ∷ []) (2 ∷ []))) 0 wrong_formed)

wrong_text : check_text head_anywhere (sheet_name example_sheet) example_run wrong_plan (2 ∷ []) (2 ∷ []) best ≡ bytes "formed=yes\nwalk=no,9\nleast=yes\nfound=time=2,56,1\nexpected=time=2,55,1\n"
wrong_text =
    wrong_checked ∙ ap (λ t. verdict_lines head_anywhere wrong_plan t example_run (2 ∷ []) (2 ∷ []) best) (plan-text-same (sheet_name example_sheet) example_run example_judged (2 ∷ []) (2 ∷ []) ∙ example_text_lem) ∙ wrong_lines

pub prints_the_difference : PrintsTheDifference
prints_the_difference row room n row' room' c wide enough =
    let g = c.given in
    let h = check_fits (length room) example_sheet wrong_plan g.text g.answers in
    let v = g.answers.checked (wrong_passes (length room) enough) in
    let least : LeastAny example_run v.list = rw example_run_lem at v.least in
    let least-01 = least_any_same example_run.turn example_run.head (stops_of example_run) (accepted_sound example_run example_judged) v.list least in
    let one : v.list ≡ best = least_unique example_run.turn example_run.head (stops_of example_run) v.list best least-01 example_least in
    put_whole g.text row n row' g.holds.bytes g.holds.left (omega (arith, h.0))
    ∙ v.says
    ∙ ap (λ l. check_text head_anywhere (sheet_name example_sheet) (sheet_run example_sheet) wrong_plan (plan_froms wrong_plan) (plan_tos wrong_plan) l) one
    ∙ ap (λ r. check_text head_anywhere (sheet_name example_sheet) r wrong_plan (plan_froms wrong_plan) (plan_tos wrong_plan) best) example_run_lem
    ∙ ap (λ f. check_text head_anywhere (sheet_name example_sheet) example_run wrong_plan f (plan_tos wrong_plan) best) wrong_list.0
    ∙ ap (λ t. check_text head_anywhere (sheet_name example_sheet) example_run wrong_plan (2 ∷ []) t best) wrong_list.1
    ∙ wrong_text

-- A list with a line that is not as described.
abbrev bad_list : List ℕ
bad_list = bytes "detour=2,2\ndetour=3\n"

list_refused_lem : list_form bad_list ≡ record { refusal = BadLine; place = 2 }
unfolding list_form list_bad_line is_plan lines_in lines_up_to first_bad_to_end first_bad_of first_where is_pair_line is_pair is_number all_of value_from starts_with line_of after_lines has before behind
list_refused_lem = refl

line_refused : pricing_verdict head_anywhere example_sheet bad_list ≡ record { refusal = BadLine; place = 2 }
unfolding verdict_by
line_refused = rw (example_good, example_ruled, list_refused_lem)

line_text : refusal_text (record { refusal = BadLine; place = 2 }) ≡ bytes "refused=11\nplace=2\n"
unfolding refusal_text decimal_in
line_text = refl

pub prints_the_lists_line : PrintsTheListsLine
unfolding price_text
prints_the_lists_line row n row' c wide =
    let h = price_held example_sheet bad_list in
    put_whole (price_text head_anywhere (pricing_verdict head_anywhere example_sheet bad_list) (sheet_name example_sheet) (sheet_run example_sheet) bad_list) row n row' c.bytes c.left (omega (arith, h.0)) ∙ rw line_refused line_text

-- A list that is priced.
abbrev good_list : List ℕ
good_list = bytes "detour=3,3\ndetour=2,2\n"

good_form : list_form good_list ≡ accepted
unfolding list_form list_bad_line is_plan lines_in lines_up_to first_bad_to_end first_bad_of first_where is_pair_line is_pair is_number all_of value_from starts_with line_of after_lines has before behind
good_form = refl

good_list_lem : (list_froms good_list ≡ 3 ∷ 2 ∷ []) × (list_tos good_list ≡ 3 ∷ 2 ∷ [])
unfolding list_froms list_tos list_detours list_text is_plan lines_in lines_up_to each_of value_from starts_with line_of after_lines has before behind
good_list_lem = (refl, refl)

good_entries : list_verdict_any example_run.head (stops_of example_run) (3 ∷ 2 ∷ []) (3 ∷ 2 ∷ []) ≡ accepted
unfolding list_verdict list_of
good_entries = list_any_same example_run.head (stops_of example_run) example_right (3 ∷ 2 ∷ []) (3 ∷ 2 ∷ []) ∙ rw cases_hold.1.1.1.1.1.1.1.1.1.1.1.1.1.0.formed

good_passes : refuses (pricing_verdict head_anywhere example_sheet good_list) ≡ false
unfolding verdict_by
good_passes = rw (example_good, example_ruled, good_form, example_run_lem, example_any, example_judged, good_list_lem.0, good_list_lem.1, good_entries)

good_text : plan_text (sheet_name example_sheet) example_run (3 ∷ 2 ∷ []) (3 ∷ 2 ∷ []) ≡ priced_plan
unfolding plan_text plan_lines plan_top sheet_name pair_lines triple_lines decimal_in priced_answer priced_times priced_legs list_of goes_on first_member last_within want_stops join_to joined start_of end_of served unread_end sweep_end last_sweep legs_of walked time_of times_of leg_from legs_for sum_of line_of after_lines has before behind
good_text = refl

pub prices_the_example : PricesTheExample
unfolding price_text
prices_the_example row n row' c wide =
    let h = price_held example_sheet good_list in
    put_whole (price_text head_anywhere (pricing_verdict head_anywhere example_sheet good_list) (sheet_name example_sheet) (sheet_run example_sheet) good_list) row n row' c.bytes c.left (omega (arith, h.0))
    ∙ rw (good_passes, good_list_lem.0, good_list_lem.1, example_run_lem) (plan-text-same (sheet_name example_sheet) example_run example_judged (3 ∷ 2 ∷ []) (3 ∷ 2 ∷ []) ∙ good_text)

-- The head at 0: the run is accepted, and reading from left to right is its least list.
mounted_run : sheet_run mounted_sheet ≡ mounted
unfolding sheet_run sheet_head sheet_turn_with turn_with sheet_files file_text wants_text sheet_wants want_text each_of line_of after_lines has before behind value_from
mounted_run = refl

mounted_good : sheet_verdict mounted_sheet ≡ accepted
unfolding sheet_verdict first_bad_line first_bad_top first_bad_below sheet_files file_text wants_text sheet_wants want_text end_text is_tape_line is_name is_number_line is_turn_line is_rule_line is_count_line first_bad_of first_where is_triple_line is_triple is_pair_line is_pair is_number all_of value_from starts_with line_of after_lines has before behind
mounted_good = refl

mounted_ruled : rule_verdict mounted_sheet ≡ accepted
unfolding rule_verdict says_sweep names_sweep starts_with line_of after_lines has before behind
mounted_ruled = refl

mounted_judged : judge_any_of mounted ≡ accepted
unfolding judge_any_of first_where goes_on first_member last_within want_stops join_to joined right_end
mounted_judged = refl

mounted_room : room_for mounted ≤ 5120
unfolding want_stops join_to joined goes_on first_member last_within
mounted_room = omega arith

mounted_form : plan_form mounted_plan ≡ accepted
unfolding plan_form plan_bad_line plan_bad_top plan_bad_below first_failing detours_told detour_text time_text lines_in lines_up_to first_bad_to_end is_tape_line is_name is_number_line is_count_line first_bad_of first_where is_triple_line is_triple is_pair_line is_pair is_number all_of value_from starts_with line_of after_lines has before behind
mounted_form = refl

mounted_passes : (words : ℕ) → 5120 ≤ words → (plan : List ℕ) → plan_form plan ≡ accepted → refuses (verdict_on words mounted_sheet plan) ≡ false
unfolding verdict_by
mounted_passes words l plan f = rw (mounted_good, mounted_ruled, f, mounted_run, mounted_judged, room_words_lem mounted words l mounted_room)

-- No detour is well formed there.
mounted_none : (list : List Detour) → LeastAny mounted list → list ≡ []
unfolding joined want_stops join_to first_member goes_on
mounted_none list least = no_detour_left 0 _ _ _ (run_sound (lifted mounted) (accepted_any mounted (ap refuses mounted_judged)).run) (λ i l. omega arith) list least.formed

mounted_list : (plan_froms mounted_plan ≡ []) × (plan_tos mounted_plan ≡ [])
unfolding plan_froms plan_tos detours_told detour_text each_of value_from line_of after_lines has before behind
mounted_list = (refl, refl)

mounted_text : check_text head_anywhere (sheet_name mounted_sheet) mounted mounted_plan [] [] [] ≡ bytes "formed=yes\nwalk=yes\nleast=yes\n"
unfolding check_text verdict_lines walk_line least_line difference_lines starts_with plan_any_text plan_lines plan_top sheet_name pair_lines triple_lines decimal_in priced_any_answer pulled list_of first_bad_entry_any first_where goes_on first_member last_within want_stops join_to joined start_of end_of served unread_end sweep_end last_sweep legs_of walked time_of times_of leg_from legs_for sum_of line_of after_lines has before behind
mounted_text = refl

unformed_text : check_text head_anywhere (sheet_name mounted_sheet) mounted wrong_plan (2 ∷ []) (2 ∷ []) [] ≡ bytes "formed=no,1\n"
unfolding check_text first_bad_entry_any first_where list_of past_head wanted any_below goes_on first_member last_within want_stops join_to joined decimal_in
unformed_text = refl

module _ (row room : List ℕ) (wide : check_row ≤ length row) (enough : 5120 ≤ length room) where
  checked_mounted : (plan froms tos : List ℕ) → plan_form plan ≡ accepted → plan_froms plan ≡ froms → plan_tos plan ≡ tos → (said : List ℕ) → check_text head_anywhere (sheet_name mounted_sheet) mounted plan froms tos [] ≡ said
      → (n : ℕ) (row' room' : List ℕ) → SheetChecked mounted_sheet plan row room n row' room' → take n row' ≡ said
  checked_mounted plan froms tos form starts ends said is n row' room' c =
      let g = c.given in
      let h = check_fits (length room) mounted_sheet plan g.text g.answers in
      let v = g.answers.checked (mounted_passes (length room) enough plan form) in
      let one : v.list ≡ [] = mounted_none v.list (rw mounted_run at v.least) in
      put_whole g.text row n row' g.holds.bytes g.holds.left (omega (arith, h.0)) ∙ v.says ∙ rw (one, mounted_run, starts, ends) is

pub checks_mounted : ChecksMounted
checks_mounted row room n m row' room' row'' room'' c d wide enough = (
  checked_mounted row room wide enough mounted_plan [] [] mounted_form mounted_list.0 mounted_list.1 _ mounted_text n row' room' c,
  checked_mounted row room wide enough wrong_plan (2 ∷ []) (2 ∷ []) wrong_form wrong_list.0 wrong_list.1 _ unformed_text m row'' room'' d,
)
