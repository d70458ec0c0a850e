-- The answers of `price` and `check` to an input of two texts are no longer than the rows of their programs.
use Prim.Native.Nat.{ℕ, zero, suc, ◌+◌, ◌-◌, ◌^◌, ◌≤◌, ◌<◌}
use mathlib.Core.Path.{◌≡◌, refl, ap, sym, ◌∙◌}
use mathlib.Core.Bool.{Bool, true, false, not}
use mathlib.Core.List.{List, [], ◌∷◌, ◌++◌}
use native.Mathlib.Omega.{arith}
use lib.ListN.{length, drop, get_or, length-append, length-drop}
use lib.Dec.{ltb, eqb}
use borrow.Author.Tests.{eqb-true}
use Rattle.refusals.specs.declared.Refusal.TheVariants.{ShortRoom, BadEntry, BadLine, LongSheet}
use Rattle.refusals.specs.declared.Verdict.{Verdict}
use Rattle.refusals.specs.Refusals.{refuse_if, refuse_at, first_of}
use Rattle.refusals.proofs.Verdicts.{refuses, all_accept}
use Rattle.runs.specs.Run.{Run, stops_of, most_wants}
use Rattle.runs.specs.Lists.{Detour, list_of}
use Rattle.runs.specs.AnyHead.{judge_any_of, lifted, bad_entry_any, first_bad_entry_any, list_verdict_any}
use Rattle.runs.proofs.Search.{first_within}
use Rattle.runs.proofs.Entries.{length_list}
use Rattle.runs.proofs.AnyHead.{judge_any_lem}
use Rattle.walk.specs.AnyHead.{priced_any_answer}
use Rattle.walk.proofs.Places.{place_most, AllNear, first_near, if_near, judge_near}
use Rattle.planner.specs.Plan.{room_for}
use Rattle.text_bytes.specs.Text.{line_feed, is_empty, is_text, has, before, behind, is_name}
use Rattle.std.specs.Prelude.{Option, Some, None}
use Rattle.text_inputs.specs.declared.Framed.{Framed}
use Rattle.text_inputs.specs.Inputs.{part_in}
use Rattle.text_lines.specs.Lines.{line_of, line_after, after_lines, is_number_line, is_pair_line, is_triple_line, first_bad_of, first_in}
use Rattle.text_pages.specs.Printing.{line, number_line}
use Rattle.sheet_reader.specs.Lines.{is_tape_line, is_count_line}
use Rattle.sheet_reader.specs.Sheet.{longest_sheet, unless, shifted, sheet_run, sheet_name}
use Rattle.sheet_reader.specs.Reading.{sheet_verdict, rule_verdict}
use Rattle.sheet_writer.specs.RefusalLines.{refusal_text}
use Rattle.sheet_writer.specs.PlanSheet.{sum_key, reads_key, finish_key, end_key, detours_key, detour_key, time_key}
use Rattle.sheet_writer.specs.AnyHead.{plan_any_text}
use Rattle.sheet_writer.proofs.Reread.{after_front}
use Rattle.sheet_lists.specs.Form.{most_detours, lines_up_to, first_bad_to_end, detours_told, detour_text, time_text, first_failing, plan_bad_top, plan_bad_below, plan_bad_line, is_plan, list_bad_line, plan_froms, plan_tos, list_detours, list_text, list_froms, list_tos}
use Rattle.sheet_lists.specs.Reading.{form_checks, plan_form, list_form}
use Rattle.sheet_lists.proofs.Counting.{up_to_few}
use Rattle.sheet_lists.proofs.AnyTrip.{any_small, any_short}
use Rattle.sheet_reader.proofs.Good.{good_name}
use Rattle.sheet_reader.proofs.Rows.{length_each}
use Rattle.answer_plan.specs.Recall.{verdict_by}
use Rattle.answer_check.specs.RunRules.{head_anywhere}
use Rattle.answer_check.specs.Pricing.{price_checks, pricing_verdict, price_text, SheetPriced}
use Rattle.answer_check.specs.Checking.{formed_yes, formed_no, found_key, expected_key, least_no, walk_no, differ_from, first_difference, walk_line, difference_lines, same_list, least_line, verdict_lines, check_text, check_checks, AnswersCheck, CheckGiven, verdict_on}
use Rattle.answer_check.specs.Inputs.{bad_input, framed_input, AnsweredIn}
use Rattle.answer_check.proofs.Formed.{plan_few, plan_long, list_few}
use Rattle.answer_check.proofs.Determined.{one_least, answer_once}
use Rattle.promises.specs.Lengths.{price_row, check_row, PriceIsWhole, CheckIsWhole}
use Rattle.promises.specs.Checks.{FormedFor}
use Rattle.promises.proofs.Checks.{even_plan, any_rows_formed}
use Rattle.promises.proofs.Lengths.{some_begun, Held, takes_all, first_few, unless_few, shifted_few, bad_few, count_few, at_near, verdict_near, line_length, number_length, refusal_short, refusal_begins}
use Rattle.promises.proofs.AnyLengths.{any_begins}

-- The first of some lines that fails its test.
failing_few : (passed : ℕ) (tests : List (List ℕ → Bool)) (text : List ℕ) → first_failing passed tests text ≤ passed + length tests
unfolding first_failing
failing_few passed [] text = omega arith
failing_few passed (test ∷ tests) text = go (test (line_of text)) refl (failing_few (suc passed) tests (behind line_feed text))
  where
    go : (b : Bool) → test (line_of text) ≡ b → first_failing (suc passed) tests (behind line_feed text) ≤ suc passed + length tests → first_failing passed (test ∷ tests) text ≤ passed + length (test ∷ tests)
    go true h rest = rw h (omega (arith, rest))
    go false h rest = rw h (omega arith)

failing_none : (passed : ℕ) (tests : List (List ℕ → Bool)) (text : List ℕ) → first_failing passed tests text ≡ 0 → (i : ℕ) → i < length tests → get_or tests i (λ t. true) (line_after i text) ≡ true
unfolding first_failing after_lines
failing_none passed [] text e i l = absurd (omega arith)
failing_none passed (test ∷ tests) text e i l = go (test (line_of text)) refl (failing_none (suc passed) tests (behind line_feed text)) i l
  where
    go : (b : Bool) → test (line_of text) ≡ b → (first_failing (suc passed) tests (behind line_feed text) ≡ 0 → (j : ℕ) → j < length tests → get_or tests j (λ t. true) (line_after j (behind line_feed text)) ≡ true)
        → (i : ℕ) → i < length (test ∷ tests) → get_or (test ∷ tests) i (λ t. true) (line_after i text) ≡ true
    go true h rest zero k = h
    go true h rest (suc i) k = ap (λ t. get_or tests i (λ u. true) (line_of t)) (after_front i text) ∙ rest (rw h at e) i (omega arith)
    go false h rest i k = let z : suc passed ≡ 0 = rw h at e in absurd (omega arith)

to_end_few : (test : List ℕ → Bool) (most : ℕ) (text : List ℕ) → first_bad_to_end test most text ≤ most + 1
unfolding first_bad_to_end
to_end_few test most text =
    let few = up_to_few most text in
    first_few (most + 1) (first_bad_of test (lines_up_to most text) text ∷ unless (is_empty (after_lines (lines_up_to most text) text)) (lines_up_to most text + 1) ∷ []) (
      omega (arith, few, bad_few test (lines_up_to most text) text),
      λ a. (unless_few (is_empty (after_lines (lines_up_to most text) text)) (lines_up_to most text + 1) (most + 1) (omega (arith, few)), λ b. tt),
    )

-- The first line of a plan sheet handed in, and of a list, that is not as described.
module _ (plan : List ℕ) where
  abbrev tests : List (List ℕ → Bool)
  tests = is_tape_line ∷ is_number_line sum_key ∷ is_number_line reads_key ∷ is_number_line finish_key ∷ is_number_line end_key ∷ is_count_line detours_key most_detours ∷ []

  told_few : plan_bad_top plan ≡ 0 → detours_told plan ≤ 63
  unfolding plan_bad_top detours_told
  told_few t = count_few detours_key most_detours (line_after 5 plan) (failing_none 0 tests plan t 5 (omega arith))

  below_few : plan_bad_top plan ≡ 0 → plan_bad_below plan ≤ 134
  unfolding plan_bad_below
  below_few t =
      let told = told_few t in
      first_few 134
      (shifted 6 (first_bad_of (is_pair_line detour_key) (detours_told plan) (detour_text plan))
      ∷ shifted (detours_told plan + 6) (first_bad_to_end (is_triple_line time_key) most_wants (time_text plan))
      ∷ []) (
        shifted_few 6 (first_bad_of (is_pair_line detour_key) (detours_told plan) (detour_text plan)) 134 (omega (arith, told, bad_few (is_pair_line detour_key) (detours_told plan) (detour_text plan))),
        λ a. (shifted_few (detours_told plan + 6) (first_bad_to_end (is_triple_line time_key) most_wants (time_text plan)) 134 (omega (arith, told, to_end_few (is_triple_line time_key) most_wants (time_text plan))), λ b. tt),
      )

  top_few_here : plan_bad_top plan ≤ 134
  unfolding plan_bad_top
  top_few_here = omega (arith, failing_few 0 tests plan)

  plan_line_few : plan_bad_line plan ≤ 134
  unfolding plan_bad_line
  plan_line_few = first_few 134 (plan_bad_top plan ∷ plan_bad_below plan ∷ []) (top_few_here, λ t. (below_few t, λ b. tt))

list_line_few : (list : List ℕ) → list_bad_line list ≤ 134
unfolding list_bad_line
list_line_few list = go (is_plan list) refl
  where
    go : (b : Bool) → is_plan list ≡ b → list_bad_line list ≤ 134
    go true h = rw h (plan_line_few list)
    go false h = rw h (omega (arith, to_end_few (is_pair_line detour_key) most_detours list))

form_near : (bad : ℕ) (text : List ℕ) → bad ≤ 134 → (first_of (form_checks bad text)).place ≤ place_most
form_near bad text l = first_near (form_checks bad text) (if_near (ltb longest_sheet (length text)) LongSheet, λ e. (at_near bad BadLine (omega arith), λ d. tt))

-- 10 of a list whose form is good: it has at most 63 entries.
list_even : (list : List ℕ) → length (list_froms list) ≡ length (list_tos list)
unfolding list_froms list_tos
list_even list = length_each _ (list_detours list) ∙ sym (length_each _ (list_detours list))

list_many : (list : List ℕ) → refuses (list_form list) ≡ false → length (list_froms list) ≤ 63
unfolding list_froms
list_many list e = omega (arith, length_each (λ i. first_in detour_key (line_after i (list_text list))) (list_detours list), list_few list e)

entry_near : (run : Run) (froms tos : List ℕ) → length froms ≡ length tos → length froms ≤ 63 → (list_verdict_any run.head (stops_of run) froms tos).place ≤ place_most
unfolding list_verdict_any first_bad_entry_any
entry_near run froms tos even few =
    first_near (refuse_if (not (eqb (length froms) (length tos))) BadEntry ∷ refuse_at (first_bad_entry_any run.head (stops_of run) (list_of froms tos)) BadEntry ∷ []) (
      if_near (not (eqb (length froms) (length tos))) BadEntry,
      λ e. (
        at_near (first_bad_entry_any run.head (stops_of run) (list_of froms tos)) BadEntry
            (omega (arith, few, first_within (bad_entry_any run.head (stops_of run) (list_of froms tos)) (length (list_of froms tos)), length_list froms tos even)),
        λ d. tt,
      ),
    )

pub judge_any_near : (run : Run) → (judge_any_of run).place ≤ place_most
judge_any_near run = rw (judge_any_lem run) (judge_near (lifted run))

listed_near : (list : List ℕ) → (list_form list).place ≤ place_most
unfolding list_form
listed_near list = form_near (list_bad_line list) list (list_line_few list)

price_checks_near : (list : List ℕ) (run : Run) → AllNear (price_checks head_anywhere list run)
price_checks_near list run = (listed_near list, λ a. (judge_any_near run, λ b. (entry_near run (list_froms list) (list_tos list) (list_even list) (list_many list a), λ c. tt)))

pub check_checks_near : (words : ℕ) (plan : List ℕ) (run : Run) → AllNear (check_checks head_anywhere words plan run)
unfolding plan_form
check_checks_near words plan run = (form_near (plan_bad_line plan) plan (plan_line_few plan), λ a. (judge_any_near run, λ b. (if_near (ltb words (room_for run)) ShortRoom, λ c. tt)))

-- The texts that hold a refusal.
refused_held : (sheet : List ℕ) (checks : Run → List Verdict) → AllNear (checks (sheet_run sheet)) → (text : List ℕ) → text ≡ refusal_text (verdict_by checks sheet) → (length text ≤ 38) × (0 < length text)
refused_held sheet checks near text is =
    let small = refusal_short (verdict_by checks sheet) (omega (arith, verdict_near sheet checks near)) in
    (omega (arith, ap length is, small), some_begun text 113 (ap (λ t. get_or t 0 0) is ∙ refusal_begins (verdict_by checks sheet)))

pub price_held : (sheet list : List ℕ) → (length (price_text head_anywhere (pricing_verdict head_anywhere sheet list) (sheet_name sheet) (sheet_run sheet) list) ≤ price_row) × (0 < length (price_text head_anywhere (pricing_verdict head_anywhere sheet list) (sheet_name sheet) (sheet_run sheet) list))
unfolding price_text verdict_by
price_held sheet list = go (refuses (pricing_verdict head_anywhere sheet list)) refl
  where
    text : List ℕ
    text = price_text head_anywhere (pricing_verdict head_anywhere sheet list) (sheet_name sheet) (sheet_run sheet) list

    go : (b : Bool) → refuses (pricing_verdict head_anywhere sheet list) ≡ b → (length text ≤ price_row) × (0 < length text)
    go true e = let h = refused_held sheet (price_checks head_anywhere list) (price_checks_near list (sheet_run sheet)) text (rw e) in (omega (arith, h.0), h.1)
    go false e =
        let is : text ≡ plan_any_text (sheet_name sheet) (sheet_run sheet) (list_froms list) (list_tos list) = rw e in
        let all = all_accept (sheet_verdict sheet ∷ rule_verdict sheet ∷ price_checks head_anywhere list (sheet_run sheet)) e in
        let small = any_short (sheet_run sheet) (list_froms list) (list_tos list) all.1.1.1.0 all.1.1.1.1.0 (sheet_name sheet) (good_name sheet all.0) in
        (omega (arith, ap length is, small), some_begun text 115 (ap (λ t. get_or t 0 0) is ∙ any_begins (sheet_name sheet) (sheet_run sheet) (list_froms list) (list_tos list)))

bad_held : (length (refusal_text bad_input) ≤ 38) × (0 < length (refusal_text bad_input))
bad_held = (refusal_short bad_input (omega arith), some_begun (refusal_text bad_input) 113 (refusal_begins bad_input))

price_in : (input : List ℕ) (f : Option Framed) (row : List ℕ) (n : ℕ) (row' : List ℕ) → AnsweredIn SheetPriced input f row n row' → Held price_row row n row'
price_in input (Some place) row n row' a = let h = price_held (part_in input place.from place.to) (part_in input place.to (length input)) in record { text = price_text head_anywhere (pricing_verdict head_anywhere (part_in input place.from place.to) (part_in input place.to (length input))) (sheet_name (part_in input place.from place.to)) (sheet_run (part_in input place.from place.to)) (part_in input place.to (length input)); bytes = a.bytes; left = a.left; short = h.0; some = h.1 }
price_in input None row n row' a = record { text = refusal_text bad_input; bytes = a.bytes; left = a.left; short = omega (arith, bad_held.0); some = bad_held.1 }

price_same : (input : List ℕ) (f : Option Framed) (row : List ℕ) (n : ℕ) (row' other : List ℕ) (m : ℕ) (other' : List ℕ) (a : AnsweredIn SheetPriced input f row n row') (b : AnsweredIn SheetPriced input f other m other')
    → (price_in input f row n row' a).text ≡ (price_in input f other m other' b).text
unfolding price_in
price_same input (Some place) row n row' other m other' a b = refl
price_same input None row n row' other m other' a b = refl

pub price_is_whole : PriceIsWhole
price_is_whole input = takes_all price_row (price_in input (framed_input input)) (price_same input (framed_input input))

-- A verdict on a plan sheet: its lines.
differ_few : (l start at : ℕ) (a b : List ℕ) → (differ_from l start at a b).line ≤ l + length a
unfolding differ_from
differ_few l start at [] b = omega arith
differ_few l start at (x ∷ a) [] = omega arith
differ_few l start at (x ∷ a) (y ∷ b) = go (eqb x y) (eqb x line_feed) refl refl (differ_few (suc l) (suc at) (suc at) a b) (differ_few l start (suc at) a b)
  where
    go : (s t : Bool) → eqb x y ≡ s → eqb x line_feed ≡ t → (differ_from (suc l) (suc at) (suc at) a b).line ≤ suc l + length a → (differ_from l start (suc at) a b).line ≤ l + length a
        → (differ_from l start at (x ∷ a) (y ∷ b)).line ≤ l + length (x ∷ a)
    go true true e f p q = rw (e, f) (omega (arith, p))
    go true false e f p q = rw (e, f) (omega (arith, q))
    go false t e f p q = rw e (omega arith)

before_few : (c : ℕ) (text : List ℕ) → length (before c text) ≤ length text
unfolding before
before_few c [] = omega arith
before_few c (b ∷ text) = go (eqb b c) refl (before_few c text)
  where
    go : (t : Bool) → eqb b c ≡ t → length (before c text) ≤ length text → length (before c (b ∷ text)) ≤ length (b ∷ text)
    go true e rest = rw e (omega arith)
    go false e rest = rw e (omega (arith, rest))

line_few : (n : ℕ) (text : List ℕ) → length (line_of (drop n text)) ≤ length text
unfolding line_of
line_few n text = go (has line_feed (drop n text)) refl
  where
    go : (t : Bool) → has line_feed (drop n text) ≡ t → length (line_of (drop n text)) ≤ length text
    go true e = rw e (omega (arith, before_few line_feed (drop n text), length-drop n text))
    go false e = rw e (omega arith)

walk_few : (plan expected : List ℕ) → length plan ≤ 16384 → length (walk_line plan expected) ≤ 29
unfolding walk_line
walk_few plan expected l = go (is_text expected plan) refl
  where
    go : (t : Bool) → is_text expected plan ≡ t → length (walk_line plan expected) ≤ 29
    go true e = rw e (omega arith)
    go false e = rw e (omega (arith, number_length walk_no (first_difference plan expected).line (omega (arith, differ_few 1 0 0 plan expected))))

least_few : (run : Run) (froms tos : List ℕ) (list : List Detour) → (priced_any_answer run (list_of froms tos)).sum < 2 ^ 64 → length (least_line head_anywhere run froms tos list) ≤ 30
unfolding least_line
least_few run froms tos list l = go (same_list froms tos list) refl
  where
    go : (t : Bool) → same_list froms tos list ≡ t → length (least_line head_anywhere run froms tos list) ≤ 30
    go true e = rw e (omega arith)
    go false e = rw e (omega (arith, number_length least_no ((priced_any_answer run (list_of froms tos)).sum - (priced_any_answer run list).sum) (omega arith)))

difference_few : (plan expected : List ℕ) → length (difference_lines plan expected) ≤ length plan + length expected + 17
unfolding difference_lines
difference_few plan expected = go (is_text expected plan) refl
  where
    start : ℕ
    start = (first_difference plan expected).start

    go : (t : Bool) → is_text expected plan ≡ t → length (difference_lines plan expected) ≤ length plan + length expected + 17
    go true e = rw e (omega arith)
    go false e =
        rw e
        (omega (
          arith,
          length-append (line found_key (line_of (drop start plan))) (line expected_key (line_of (drop start expected))),
          line_length found_key (line_of (drop start plan)),
          line_length expected_key (line_of (drop start expected)),
          line_few start plan,
          line_few start expected,
        ))

module _ (name : List ℕ) (named : is_name name ≡ true) (run : Run) (passes : refuses (judge_any_of run) ≡ false) (plan : List ℕ) (form : refuses (plan_form plan) ≡ false) (list : List Detour) where
  abbrev froms : List ℕ
  froms = plan_froms plan

  abbrev tos : List ℕ
  tos = plan_tos plan

  abbrev text : List ℕ
  text = check_text head_anywhere name run plan froms tos list

  abbrev bad : ℕ
  bad = first_bad_entry_any run.head (stops_of run) (list_of froms tos)

  bad_entry_few : bad < 2 ^ 64
  unfolding first_bad_entry_any plan_froms
  bad_entry_few =
      omega (
        arith,
        first_within (bad_entry_any run.head (stops_of run) (list_of froms tos)) (length (list_of froms tos)),
        length_list froms tos (even_plan plan),
        length_each (λ i. first_in detour_key (line_after i (detour_text plan))) (detours_told plan),
        plan_few plan form,
      )

  formed_short : FormedFor run froms tos → length (verdict_lines head_anywhere plan (plan_any_text name run froms tos) run froms tos list) ≤ check_row
  unfolding verdict_lines
  formed_short w =
      let expected = plan_any_text name run froms tos in
      let listed = any_rows_formed run froms tos (even_plan plan) w in
      let long = plan_long plan form in
      omega (
        arith,
        length-append (formed_yes ++ walk_line plan expected ++ least_line head_anywhere run froms tos list) (difference_lines plan expected),
        length-append (formed_yes ++ walk_line plan expected) (least_line head_anywhere run froms tos list),
        length-append formed_yes (walk_line plan expected),
        walk_few plan expected long,
        least_few run froms tos list (any_small run froms tos passes listed).sum,
        difference_few plan expected,
        any_short run froms tos passes listed name named,
      )

  pub check_held : (length text ≤ check_row) × (0 < length text)
  unfolding check_text verdict_lines
  check_held = go (eqb bad 0) refl
    where
      go : (b : Bool) → eqb bad 0 ≡ b → (length text ≤ check_row) × (0 < length text)
      go true e = rw e (formed_short (eqb-true bad 0 e), some_begun (verdict_lines head_anywhere plan (plan_any_text name run froms tos) run froms tos list) 101 refl)
      go false e = rw e (omega (arith, number_length formed_no bad bad_entry_few), some_begun (number_line formed_no bad) 101 refl)

pub check_passes : (words : ℕ) (sheet plan : List ℕ) → refuses (verdict_on words sheet plan) ≡ false → (is_name (sheet_name sheet) ≡ true) × (refuses (judge_any_of (sheet_run sheet)) ≡ false)
unfolding verdict_by
check_passes words sheet plan e = let all = all_accept (sheet_verdict sheet ∷ rule_verdict sheet ∷ check_checks head_anywhere words plan (sheet_run sheet)) e in (good_name sheet all.0, all.1.1.1.0)

pub check_fits : (words : ℕ) (sheet plan text : List ℕ) → AnswersCheck head_anywhere (verdict_on words sheet plan) (sheet_name sheet) (sheet_run sheet) plan (plan_froms plan) (plan_tos plan) text → (length text ≤ check_row) × (0 < length text)
unfolding verdict_by
check_fits words sheet plan text a = go (refuses (verdict_on words sheet plan)) refl
  where
    go : (b : Bool) → refuses (verdict_on words sheet plan) ≡ b → (length text ≤ check_row) × (0 < length text)
    go true e = let h = refused_held sheet (check_checks head_anywhere words plan) (check_checks_near words plan (sheet_run sheet)) text (a.refused e) in (omega (arith, h.0), h.1)
    go false e =
        let v = a.checked e in
        let good = check_passes words sheet plan e in
        let all = all_accept (sheet_verdict sheet ∷ rule_verdict sheet ∷ check_checks head_anywhere words plan (sheet_run sheet)) e in
        let h = check_held (sheet_name sheet) good.0 (sheet_run sheet) good.1 plan all.1.1.0 v.list in
        rw v.says h

module _ (room : List ℕ) where
  abbrev Gives : List ℕ → List ℕ → List ℕ → ℕ → List ℕ → Type 0
  Gives = CheckGiven head_anywhere (length room)

  check_in : (input : List ℕ) (f : Option Framed) (row : List ℕ) (n : ℕ) (row' : List ℕ) → AnsweredIn Gives input f row n row' → Held check_row row n row'
  check_in input (Some place) row n row' a = let h = check_fits (length room) (part_in input place.from place.to) (part_in input place.to (length input)) a.text a.answers in record { text = a.text; bytes = a.holds.bytes; left = a.holds.left; short = h.0; some = h.1 }
  check_in input None row n row' a = record { text = refusal_text bad_input; bytes = a.bytes; left = a.left; short = omega (arith, bad_held.0); some = bad_held.1 }

  check_same : (input : List ℕ) (f : Option Framed) (row : List ℕ) (n : ℕ) (row' other : List ℕ) (m : ℕ) (other' : List ℕ) (a : AnsweredIn Gives input f row n row') (b : AnsweredIn Gives input f other m other')
      → (check_in input f row n row' a).text ≡ (check_in input f other m other' b).text
  unfolding check_in
  check_same input (Some place) row n row' other m other' a b = answer_once head_anywhere one_least _ _ _ _ _ _ a.text b.text a.answers b.answers
  check_same input None row n row' other m other' a b = refl

pub check_is_whole : CheckIsWhole
check_is_whole input room =
    takes_all check_row (λ row n row' c. check_in room input (framed_input input) row n row' c.1.given)
    (λ row n row' other m other' c d. check_same room input (framed_input input) row n row' other m other' c.1.given d.1.given)
