-- Proofs of the statements on pricing and checking.
use Prim.Native.Nat.{ℕ, zero, suc, ◌+◌, ◌-◌, ◌≤◌, ◌<◌}
use mathlib.Core.Path.{◌≡◌, refl, sym, ap, ◌∙◌, subst}
use mathlib.Core.Bool.{Bool, true, false, cond, true≢false, ◌&&◌}
use mathlib.Core.List.{List, [], ◌∷◌, ◌++◌, map, append_assoc, append-nil}
use mathlib.Core.Logic.{◌⊎◌, ◌↔◌, inl, inr, ⊎_elim}
use native.Mathlib.Omega.{arith}
use lib.ListN.{length, take, drop, get_or}
use lib.Seq.{take-append_seam}
use lib.Dec.{ltb, eqb}
use borrow.Author.Tests.{eq-eqb, ne_eqb, eqb-true, le-ltb, ltb-false}
use Rattle.refusals.specs.declared.Refusal.{Refusal}
use Rattle.refusals.specs.declared.Refusal.TheVariants.{HeadPlace, ShortRoom}
use Rattle.refusals.specs.declared.Verdict.{Verdict}
use Rattle.refusals.specs.Refusals.{is_refusal, first_of, accepted}
use Rattle.refusals.proofs.Verdicts.{refuses, AllAccept, all_accept, accepts_if}
use Rattle.runs.specs.Run.{Run, stops_of}
use Rattle.runs.specs.Judging.{bad_place, judge_of}
use Rattle.runs.specs.Lists.{Detour, list_of, list_verdict}
use Rattle.runs.specs.AnyHead.{first_bad_entry_any, list_verdict_any}
use Rattle.runs.proofs.Search.{true_or_false, first_zero}
use Rattle.runs.proofs.Accepted.{good_file}
use Rattle.runs.proofs.Judged.{accepted_run}
use Rattle.runs.proofs.AnyHead.{sound_right, pulled_same}
use Rattle.runs.proofs.Stops.{accepted_sound}
use Rattle.walk.specs.AnyHead.{priced_any_answer}
use Rattle.least.specs.Least.{LeastForRun}
use Rattle.least.specs.AnyHead.{LeastAny, LeastAnyFor}
use Rattle.least.specs.Recurrence.{least_list}
use Rattle.least.proofs.LeastList.{least_list_lem, least_unique}
use Rattle.least.proofs.LeastAny.{least_any, least_any_unique, least_any_same}
use Rattle.engine_stops.proofs.Halves.{list_accepted, list_of_halves, halves_even}
use Rattle.planner.specs.Plan.{room_for}
use Rattle.text_bytes.specs.Text.{bytes, line_feed, has, behind, is_text, starts_with, is_name, value_of, decimal}
use Rattle.text_bytes.proofs.Bytes.{and_true_both}
use Rattle.text_bytes.proofs.Decimals.{decimal_without, decimal_value}
use Rattle.text_lines.specs.Lines.{line_of, after_lines, line_after, first_in, second_in}
use Rattle.text_pages.specs.Printing.{line, number_line}
use Rattle.sheet_reader.specs.Sheet.{sheet_run, sheet_name}
use Rattle.sheet_reader.specs.Reading.{sheet_verdict, rule_verdict}
use Rattle.sheet_reader.proofs.Good.{good_name}
use Rattle.sheet_reader.proofs.Rows.{length_each}
use Rattle.sheet_writer.specs.PlanSheet.{plan_text, detour_key}
use Rattle.sheet_writer.specs.AnyHead.{plan_any_text}
use Rattle.sheet_writer.proofs.Reread.{line_first, line_behind_lem, key_begins}
use Rattle.sheet_writer.proofs.Plans.{text_same as plan-text-same}
use Rattle.answer_plan.specs.Recall.{run_checks, verdict_by, recall_verdict, SheetRecalled, bytes_put, row_put}
use Rattle.answer_any.specs.AnyRun.{any_checks, any_verdict, SheetRecalledAny}
use Rattle.answer_any.proofs.Same.{verdict_same}
use Rattle.sheet_lists.specs.Form.{detours_told, detour_text, plan_froms, plan_tos, list_froms, list_tos}
use Rattle.sheet_lists.specs.Reading.{plan_form, list_form}
use Rattle.sheet_lists.proofs.AnyTrip.{any_none, any_reads_back, any_froms_back, any_tos_back}
use Rattle.answer_check.specs.RunRules.{head_anywhere}
use Rattle.answer_check.specs.Pricing.{price_checks, pricing_verdict, price_text, SheetPriced}
use Rattle.answer_check.specs.Checking.{formed_yes, formed_no, walk_yes, walk_no, least_yes, least_no, first_difference, walk_line, difference_lines, same_list, least_line, verdict_lines, check_text, verdict_on, SheetChecked}
use Rattle.demands.specs.RefusalTable.{RunApplies, NothingApplies, EntryIsBad, ListIsBad}
use Rattle.demands.specs.AnyHead.{StartsPast, EntryIsBadAny, ListIsBadAny}
use Rattle.demands.proofs.Judged.{nothing_judged}
use Rattle.demands.proofs.Letters.{text_same, same_text}
use Rattle.promises.proofs.Differs.{first_differs}
use Rattle.promises.specs.Checks.{Larger, FirstDiffers, FormedFor, CheckSaid, CheckTells, CheckPrinted, ChecksAsAll, PriceTells, StaysBy01}

-- Two rows of one length and the list that they hold.
pub starts_of : (froms tos : List ℕ) → length froms ≡ length tos → map (λ d. d.from) (list_of froms tos) ≡ froms
unfolding list_of
starts_of [] tos e = refl
starts_of (a ∷ froms) [] e = absurd (omega arith)
starts_of (a ∷ froms) (b ∷ tos) e = ap (λ l. a ∷ l) (starts_of froms tos (omega arith))

pub ends_of : (froms tos : List ℕ) → length froms ≡ length tos → map (λ d. d.to) (list_of froms tos) ≡ tos
unfolding list_of
ends_of [] [] e = refl
ends_of [] (b ∷ tos) e = absurd (omega arith)
ends_of (a ∷ froms) [] e = absurd (omega arith)
ends_of (a ∷ froms) (b ∷ tos) e = ap (λ l. b ∷ l) (ends_of froms tos (omega arith))

module _ (froms tos : List ℕ) (even : length froms ≡ length tos) (list : List Detour) where
  pub list_same : same_list froms tos list ≡ true → list_of froms tos ≡ list
  list_same e =
      let both = and_true_both (is_text (map (λ d. d.from) list) froms) (is_text (map (λ d. d.to) list) tos) e in
      rw (text_same (map (λ d. d.from) list) froms both.0, text_same (map (λ d. d.to) list) tos both.1) (list_of_halves list)

  pub same_list_lem : list_of froms tos ≡ list → same_list froms tos list ≡ true
  same_list_lem e =
      rw (same_text (map (λ d. d.from) list) froms (sym (starts_of froms tos even) ∙ ap (map (λ d. d.from)) e), same_text (map (λ d. d.to) list) tos (sym (ends_of froms tos even) ∙ ap (map (λ d. d.to)) e))

pub even_plan : (plan : List ℕ) → length (plan_froms plan) ≡ length (plan_tos plan)
unfolding plan_froms plan_tos
even_plan plan = length_each (λ i. first_in detour_key (line_after i (detour_text plan))) (detours_told plan) ∙ sym (length_each (λ i. second_in detour_key (line_after i (detour_text plan))) (detours_told plan))

-- A line with its LF at the front of a text.
module _ (key text rest : List ℕ) (plain : has line_feed key ≡ false) (flat : has line_feed text ≡ false) where
  front_line : line_of (line key text ++ rest) ≡ key ++ text
  front_line = line_first key text rest plain flat

  front_rest : behind line_feed (line key text ++ rest) ≡ rest
  front_rest = line_behind_lem key text rest plain flat

-- The lines of a verdict on a well-formed list.
module _ (plan expected : List ℕ) (run : Run) (froms tos : List ℕ) (list : List Detour) where
  abbrev text : List ℕ
  text = verdict_lines head_anywhere plan expected run froms tos list

  text_is_here : text ≡ line (bytes "formed=") (bytes "yes") ++ (walk_line plan expected ++ (least_line head_anywhere run froms tos list ++ difference_lines plan expected))
  unfolding verdict_lines
  text_is_here = simp append_assoc

  line₀ : line_after 0 text ≡ bytes "formed=yes"
  unfolding after_lines has
  line₀ = ap line_of text_is_here ∙ front_line (bytes "formed=") (bytes "yes") (walk_line plan expected ++ (least_line head_anywhere run froms tos list ++ difference_lines plan expected)) refl refl

  rest₁ : after_lines 1 text ≡ walk_line plan expected ++ (least_line head_anywhere run froms tos list ++ difference_lines plan expected)
  unfolding after_lines has
  rest₁ = ap (behind line_feed) text_is_here ∙ front_rest (bytes "formed=") (bytes "yes") (walk_line plan expected ++ (least_line head_anywhere run froms tos list ++ difference_lines plan expected)) refl refl

  flat : (n : ℕ) → has line_feed (decimal n) ≡ false
  flat n = decimal_without line_feed n refl

  -- The walk's line, by cases.
  walk_so : is_text expected plan ≡ true → line_after 1 text ≡ bytes "walk=yes"
  unfolding walk_line has
  walk_so e = ap line_of (rest₁ ∙ rw e refl) ∙ front_line (bytes "walk=") (bytes "yes") (least_line head_anywhere run froms tos list ++ difference_lines plan expected) refl refl

  walk_not_here : is_text expected plan ≡ false → line_after 1 text ≡ walk_no ++ decimal (first_difference plan expected).line
  unfolding walk_line has
  walk_not_here e = ap line_of (rest₁ ∙ rw e refl) ∙ front_line walk_no (decimal (first_difference plan expected).line) (least_line head_anywhere run froms tos list ++ difference_lines plan expected) refl (flat (first_difference plan expected).line)

  rest₂ : after_lines 2 text ≡ least_line head_anywhere run froms tos list ++ difference_lines plan expected
  unfolding after_lines walk_line has
  rest₂ =
      ⊎_elim
      (λ (e : is_text expected plan ≡ true). ap (behind line_feed) (rest₁ ∙ rw e refl) ∙ front_rest (bytes "walk=") (bytes "yes") (least_line head_anywhere run froms tos list ++ difference_lines plan expected) refl refl)
      (λ (e : is_text expected plan ≡ false). ap (behind line_feed) (rest₁ ∙ rw e refl) ∙ front_rest walk_no (decimal (first_difference plan expected).line) (least_line head_anywhere run froms tos list ++ difference_lines plan expected) refl (flat (first_difference plan expected).line))
      (true_or_false (is_text expected plan))

  least_so : same_list froms tos list ≡ true → line_after 2 text ≡ bytes "least=yes"
  unfolding least_line has
  least_so e = ap line_of (rest₂ ∙ rw e refl) ∙ front_line (bytes "least=") (bytes "yes") (difference_lines plan expected) refl refl

  abbrev more : ℕ
  more = (priced_any_answer run (list_of froms tos)).sum - (priced_any_answer run list).sum

  least_not_here : same_list froms tos list ≡ false → line_after 2 text ≡ least_no ++ decimal more
  unfolding least_line has
  least_not_here e = ap line_of (rest₂ ∙ rw e refl) ∙ front_line least_no (decimal more) (difference_lines plan expected) refl (flat more)

-- No line says both.
not_walk_yes : (rest : List ℕ) → walk_no ++ rest ≡ bytes "walk=yes" → ⊥
not_walk_yes rest e = let z : ◌≡◌ {A = ℕ} 110 121 = ap (λ l. get_or l 5 0) e in omega arith

not_least_yes : (rest : List ℕ) → least_no ++ rest ≡ bytes "least=yes" → ⊥
not_least_yes rest e = let z : ◌≡◌ {A = ℕ} 110 121 = ap (λ l. get_or l 6 0) e in omega arith

not_formed_yes : (rest : List ℕ) → formed_no ++ rest ≡ bytes "formed=yes" → ⊥
not_formed_yes rest e = let z : ◌≡◌ {A = ℕ} 110 121 = ap (λ l. get_or l 7 0) e in omega arith

-- What a verdict says, by the least list.
module _ (name : List ℕ) (run : Run) (plan froms tos : List ℕ) (even : length froms ≡ length tos) (list : List Detour) (least : LeastAny run list) where
  abbrev expected : List ℕ
  expected = plan_any_text name run froms tos

  abbrev said : List ℕ
  said = check_text head_anywhere name run plan froms tos list

  formed_so : FormedFor run froms tos → said ≡ verdict_lines head_anywhere plan expected run froms tos list
  unfolding check_text
  formed_so w = rw (eq-eqb (first_bad_entry_any run.head (stops_of run) (list_of froms tos)) 0 w)

  formed_not : eqb (first_bad_entry_any run.head (stops_of run) (list_of froms tos)) 0 ≡ false → line_after 0 (said ++ []) ≡ formed_no ++ decimal (first_bad_entry_any run.head (stops_of run) (list_of froms tos))
  unfolding check_text after_lines has
  formed_not e =
      let is : said ≡ number_line formed_no (first_bad_entry_any run.head (stops_of run) (list_of froms tos)) = rw e in
      ap (λ t. line_of (t ++ [])) is
      ∙ front_line formed_no (decimal (first_bad_entry_any run.head (stops_of run) (list_of froms tos))) [] refl (decimal_without line_feed (first_bad_entry_any run.head (stops_of run) (list_of froms tos)) refl)

  tells_formed : (line_after 0 said ≡ bytes "formed=yes") ↔ FormedFor run froms tos
  tells_formed = (
    λ h. ⊎_elim
        (λ (e : eqb (first_bad_entry_any run.head (stops_of run) (list_of froms tos)) 0 ≡ true). eqb-true (first_bad_entry_any run.head (stops_of run) (list_of froms tos)) 0 e)
        (λ (e : eqb (first_bad_entry_any run.head (stops_of run) (list_of froms tos)) 0 ≡ false). absurd (not_formed_yes (decimal (first_bad_entry_any run.head (stops_of run) (list_of froms tos))) (sym (formed_not e) ∙ ap (line_after 0) (append-nil said) ∙ h)))
        (true_or_false (eqb (first_bad_entry_any run.head (stops_of run) (list_of froms tos)) 0)),
    λ w. ap (line_after 0) (formed_so w) ∙ line₀ plan expected run froms tos list,
  )

  module _ (w : FormedFor run froms tos) where
    tells_walk : (line_after 1 said ≡ bytes "walk=yes") ↔ (plan ≡ plan_any_text name run froms tos)
    tells_walk = (
      λ h. ⊎_elim (λ (e : is_text expected plan ≡ true). text_same expected plan e) (λ (e : is_text expected plan ≡ false). absurd (not_walk_yes _ (sym (walk_not_here plan expected run froms tos list e) ∙ sym (ap (line_after 1) (formed_so w)) ∙ h))) (true_or_false (is_text expected plan)),
      λ e. ap (line_after 1) (formed_so w) ∙ walk_so plan expected run froms tos list (same_text expected plan e),
    )

    tells_differs : (n : ℕ) → line_after 1 said ≡ bytes "walk=no," ++ decimal n → FirstDiffers plan expected n
    tells_differs n h =
        ⊎_elim
        (λ (e : is_text expected plan ≡ true). absurd (not_walk_yes (decimal n) (sym h ∙ ap (line_after 1) (formed_so w) ∙ walk_so plan expected run froms tos list e)))
        (λ (e : is_text expected plan ≡ false).
        let same : decimal n ≡ decimal (first_difference plan expected).line = ap (drop 8) (sym h ∙ ap (line_after 1) (formed_so w) ∙ walk_not_here plan expected run froms tos list e) in
        let is : n ≡ (first_difference plan expected).line = sym (decimal_value n) ∙ ap value_of same ∙ decimal_value (first_difference plan expected).line in
        subst (λ m. FirstDiffers plan expected m) (sym is) (first_differs plan expected (λ q. true≢false (sym (same_text expected plan q) ∙ e))))
        (true_or_false (is_text expected plan))

    tells_least : (line_after 2 said ≡ bytes "least=yes") ↔ LeastAny run (list_of froms tos)
    tells_least = (
      λ h. ⊎_elim (λ (e : same_list froms tos list ≡ true). subst (λ l. LeastAny run l) (sym (list_same froms tos even list e)) least) (λ (e : same_list froms tos list ≡ false). absurd (not_least_yes _ (sym (least_not_here plan expected run froms tos list e) ∙ sym (ap (line_after 2) (formed_so w)) ∙ h))) (true_or_false (same_list froms tos list)),
      λ e. ap (line_after 2) (formed_so w) ∙ least_so plan expected run froms tos list (same_list_lem froms tos even list (least_any_unique run.turn run.head (stops_of run) (list_of froms tos) list e least)),
    )

    tells_by : (n : ℕ) → line_after 2 said ≡ bytes "least=no," ++ decimal n → Larger run (list_of froms tos) n
    unfolding priced_any_answer
    tells_by n h =
        ⊎_elim
        (λ (e : same_list froms tos list ≡ true). absurd (not_least_yes (decimal n) (sym h ∙ ap (line_after 2) (formed_so w) ∙ least_so plan expected run froms tos list e)))
        (λ (e : same_list froms tos list ≡ false).
        let same : decimal n ≡ decimal (more plan expected run froms tos list) = ap (drop 9) (sym h ∙ ap (line_after 2) (formed_so w) ∙ least_not_here plan expected run froms tos list e) in
        let is : n ≡ more plan expected run froms tos list = sym (decimal_value n) ∙ ap value_of same ∙ decimal_value (more plan expected run froms tos list) in
        record { least = list; is = least; sum = omega (arith, is, least.smallest (list_of froms tos) w) })
        (true_or_false (same_list froms tos list))

pub check_tells : CheckTells
check_tells sheet plan row room n row' room' c e =
    let v = c.given.answers.checked e in
    subst (λ t. CheckSaid (sheet_name sheet) (sheet_run sheet) plan (plan_froms plan) (plan_tos plan) t) (sym v.says)
    (record {
      formed = tells_formed (sheet_name sheet) (sheet_run sheet) plan (plan_froms plan) (plan_tos plan) (even_plan plan) v.list v.least;
      walk = tells_walk (sheet_name sheet) (sheet_run sheet) plan (plan_froms plan) (plan_tos plan) (even_plan plan) v.list v.least;
      differs = tells_differs (sheet_name sheet) (sheet_run sheet) plan (plan_froms plan) (plan_tos plan) (even_plan plan) v.list v.least;
      least = tells_least (sheet_name sheet) (sheet_run sheet) plan (plan_froms plan) (plan_tos plan) (even_plan plan) v.list v.least;
      by = tells_by (sheet_name sheet) (sheet_run sheet) plan (plan_froms plan) (plan_tos plan) (even_plan plan) v.list v.least;
    })

-- A text that was put into a row with room for it.
pub put_whole : (text row : List ℕ) (n : ℕ) (row' : List ℕ) → n ≡ bytes_put text row → row' ≡ row_put text row → length text ≤ length row → take n row' ≡ text
unfolding bytes_put row_put
put_whole text row n row' e f l = rw (e, f, le-ltb (length row) (length text) l) (take-append_seam text (drop (length text) row))

put_some : (text row : List ℕ) (n : ℕ) → n ≡ bytes_put text row → 0 < n → length text ≤ length row
unfolding bytes_put
put_some text row n e l =
    ⊎_elim
    (λ (t : ltb (length row) (length text) ≡ true). let z : n ≡ 0 = e ∙ rw t in absurd (omega arith))
    (λ (t : ltb (length row) (length text) ≡ false). ltb-false (length row) (length text) t)
    (true_or_false (ltb (length row) (length text)))

-- 01's least list, in two rows, meets 01's rules.
pub rows_accepted : (name : List ℕ) (run : Run) (list : List Detour) → LeastForRun run list → refuses (list_verdict (stops_of run) (map (λ d. d.from) list) (map (λ d. d.to) list)) ≡ false
rows_accepted name run list least =
    list_accepted (stops_of run) (map (λ d. d.from) list) (map (λ d. d.to) list) (halves_even (λ d. d.from) (λ d. d.to) list) (rw (list_of_halves list) least.formed)

-- Rows of one length that hold a well-formed list are accepted.
pub any_rows_formed : (run : Run) (froms tos : List ℕ) → length froms ≡ length tos → FormedFor run froms tos → refuses (list_verdict_any run.head (stops_of run) froms tos) ≡ false
unfolding list_verdict_any
any_rows_formed run froms tos even w = rw (eq-eqb (length froms) (length tos) even, w)

-- The verdict on the plan sheet of the least list, with the head anywhere.
module _ (name : List ℕ) (run : Run) (list : List Detour) (least : LeastAny run list) where
  abbrev froms : List ℕ
  froms = map (λ d. d.from) list

  abbrev tos : List ℕ
  tos = map (λ d. d.to) list

  well_formed : FormedFor run froms tos
  well_formed = rw (list_of_halves list) least.formed

  pub any_rows_accepted : refuses (list_verdict_any run.head (stops_of run) froms tos) ≡ false
  any_rows_accepted = any_rows_formed run froms tos (halves_even (λ d. d.from) (λ d. d.to) list) well_formed

  pub all_yes : check_text head_anywhere name run (plan_any_text name run froms tos) froms tos list ≡ bytes "formed=yes\nwalk=yes\nleast=yes\n"
  unfolding check_text verdict_lines walk_line least_line difference_lines
  all_yes =
      rw (
        eq-eqb (first_bad_entry_any run.head (stops_of run) (list_of froms tos)) 0 well_formed,
        same_text (plan_any_text name run froms tos) (plan_any_text name run froms tos) refl,
        same_list_lem froms tos (halves_even (λ d. d.from) (λ d. d.to) list) list (list_of_halves list),
      )

-- What is accepted of a sheet that can be planned in some room.
module _ (sheet : List ℕ) (words : ℕ) (e : refuses (any_verdict words sheet) ≡ false) where
  abbrev run : Run
  run = sheet_run sheet

  all_pass : AllAccept (sheet_verdict sheet ∷ rule_verdict sheet ∷ any_checks words run)
  unfolding verdict_by
  all_pass = all_accept (sheet_verdict sheet ∷ rule_verdict sheet ∷ any_checks words run) e

  enough : (more : ℕ) → words ≤ more → ltb more (room_for run) ≡ false
  enough more l = le-ltb more (room_for run) (omega (arith, l, ltb-false words (room_for run) (accepts_if _ ShortRoom refl all_pass.1.1.1.0)))

  check_accepts : (more : ℕ) → words ≤ more → (plan : List ℕ) → plan_form plan ≡ accepted → refuses (verdict_on more sheet plan) ≡ false
  unfolding verdict_by
  check_accepts more l plan f = rw (all_pass.0, all_pass.1.0, f, all_pass.1.1.0, enough more l)

  module _ (list : List Detour) (plan : List ℕ) (is : plan ≡ plan_any_text (sheet_name sheet) run (map (λ d. d.from) list) (map (λ d. d.to) list)) (least : LeastAny run list) where
    abbrev starts : List ℕ
    starts = map (λ d. d.from) list

    abbrev ends : List ℕ
    ends = map (λ d. d.to) list

    named : is_name (sheet_name sheet) ≡ true
    named = good_name sheet all_pass.0

    listed : refuses (list_verdict_any run.head (stops_of run) starts ends) ≡ false
    listed = any_rows_accepted (sheet_name sheet) run list least

    starts_back_here : plan_froms plan ≡ starts
    starts_back_here = ap plan_froms is ∙ any_froms_back run starts ends all_pass.1.1.0 listed (sheet_name sheet) named

    ends_back_here : plan_tos plan ≡ ends
    ends_back_here = ap plan_tos is ∙ any_tos_back run starts ends all_pass.1.1.0 listed (sheet_name sheet) named

    form_back : plan_form plan ≡ accepted
    form_back = ap plan_form is ∙ any_reads_back run starts ends all_pass.1.1.0 listed (sheet_name sheet) named

    pub said_all : ChecksAsAll sheet plan words
    said_all out room m out' room' c enough-room =
        let v = c.given.answers.checked (check_accepts (length room) enough-room plan form_back) in
        let one = least_any_unique run.turn run.head (stops_of run) v.list list v.least least in
        v.says
        ∙ ap (λ l. check_text head_anywhere (sheet_name sheet) run plan (plan_froms plan) (plan_tos plan) l) one
        ∙ ap (λ x. check_text head_anywhere (sheet_name sheet) run plan x (plan_tos plan) list) starts_back_here
        ∙ ap (λ x. check_text head_anywhere (sheet_name sheet) run plan starts x list) ends_back_here
        ∙ ap (λ x. check_text head_anywhere (sheet_name sheet) run x starts ends list) is
        ∙ all_yes (sheet_name sheet) run list least

pub recalled_any_checks : (sheet row lent : List ℕ) (n : ℕ) (row' lent' : List ℕ) → SheetRecalledAny sheet row lent n row' lent' → refuses (any_verdict (length lent) sheet) ≡ false → 0 < n
    → ChecksAsAll sheet (take n row') (length lent)
recalled_any_checks sheet row lent n row' lent' r e some =
    let g = r.given in
    let p = g.answers.planned e in
    let fits = put_some g.text row n g.bytes some in
    said_all sheet (length lent) e p.list (take n row') (put_whole g.text row n row' g.bytes g.left fits ∙ p.says) p.least

-- What `plan` prints is what is asked for of any head too.
least_any_back : (run : Run) → refuses (judge_of run) ≡ false → (list : List Detour) → LeastForRun run list → LeastAny run list
least_any_back run judged list least =
    let ok = accepted_sound run judged in
    let is = least_unique run.turn run.head (stops_of run) list (least_list run.turn (stops_of run)) least (least_list_lem run.turn run.head (stops_of run) ok) in
    let other = subst (λ ss. LeastAnyFor run.turn run.head (stops_of run) (least_list run.turn ss)) (pulled_same run.head (stops_of run) (sound_right (stops_of run) run.head ok)) (least_any run.turn run.head run.head (stops_of run) ok) in
    subst (LeastAny run) (sym is) other

pub recalled_checks : (sheet row : List ℕ) (n : ℕ) (row' : List ℕ) → SheetRecalled sheet row n row' → refuses (recall_verdict sheet) ≡ false → 0 < n → ChecksAsAll sheet (take n row') 5120
unfolding verdict_by
recalled_checks sheet row n row' r e some =
    let p = r.answers.planned e in
    let fits = put_some r.text row n r.bytes some in
    let all = all_accept (sheet_verdict sheet ∷ rule_verdict sheet ∷ run_checks (sheet_run sheet)) e in
    let other : (kind : Refusal) → is_refusal kind ≡ true → (recall_verdict sheet).refusal ≡ kind → ⊥ = λ kind so is. true≢false (sym so ∙ ap is_refusal (sym is) ∙ e) in
    let same = verdict_same sheet 5120 (omega arith) (other HeadPlace refl) (other ShortRoom refl) in
    let judged : refuses (judge_of (sheet_run sheet)) ≡ false = all.1.1.0 in
    said_all sheet 5120 (ap refuses same ∙ e) p.list (take n row')
    (put_whole r.text row n row' r.bytes r.left fits ∙ p.says ∙ sym (plan-text-same (sheet_name sheet) (sheet_run sheet) judged _ _))
    (least_any_back (sheet_run sheet) judged p.list p.least)

pub check_printed : CheckPrinted
check_printed sheet plan row room n row' room' c l = put_whole c.given.text row n row' c.given.holds.bytes c.given.holds.left l

pub price_tells : PriceTells
unfolding price_text verdict_by
price_tells sheet list row n row' p e =
    let all = all_accept (sheet_verdict sheet ∷ rule_verdict sheet ∷ price_checks head_anywhere list (sheet_run sheet)) e in
    let is : price_text head_anywhere (pricing_verdict head_anywhere sheet list) (sheet_name sheet) (sheet_run sheet) list ≡ plan_any_text (sheet_name sheet) (sheet_run sheet) (list_froms list) (list_tos list) = rw e in (
      any_none (sheet_run sheet) (list_froms list) (list_tos list) all.1.1.1.0 all.1.1.1.1.0,
      λ l. put_whole (plan_any_text (sheet_name sheet) (sheet_run sheet) (list_froms list) (list_tos list)) row n row'
          (p.bytes ∙ ap (λ t. bytes_put t row) is) (p.left ∙ ap (λ t. row_put t row) is) l,
    )

-- As by 01's rules. No stop starts at the head or right of it.
module _ (r : Run) (nothing : NothingApplies r) where
  nothing_past : (from : ℕ) → StartsPast r from → ⊥
  nothing_past from p =
      let good = accepted_run r (nothing_judged r nothing) in
      let listed : p.stop - 1 < length r.starts = omega (arith, p.names.file.least, p.names.file.most) in
      let file = good_file r.starts r.lengths (p.stop - 1) (first_zero (bad_place r.starts r.lengths) (length r.starts) good.files.table.sound (p.stop - 1) listed) in
      nothing HeadPlace 0 (RunApplies.head_near p.names.file p.names.wanted (omega (arith, file.long, p.right)))

  entry_bad_here : (froms tos : List ℕ) (i : ℕ) → EntryIsBadAny r froms tos i → EntryIsBad r froms tos i
  entry_bad_here froms tos i (inl h) = h
  entry_bad_here froms tos i (inr p) = absurd (nothing_past (get_or froms i 0) p)

  list_bad_here : (froms tos : List ℕ) (place : ℕ) → ListIsBadAny r froms tos place → ListIsBad r froms tos place
  list_bad_here froms tos place (inl uneven) = inl uneven
  list_bad_here froms tos place (inr h) =
      inr (h.0, record { index = h.1.index; within = h.1.within; at = h.1.at; here = entry_bad_here froms tos h.1.index h.1.here; before = λ j l b. h.1.before j l (inl b) })

  bad_list_here : (froms tos : List ℕ) (place : ℕ) → ListIsBad r froms tos place → ListIsBadAny r froms tos place
  bad_list_here froms tos place (inl uneven) = inl uneven
  bad_list_here froms tos place (inr h) =
      inr (h.0, record { index = h.1.index; within = h.1.within; at = h.1.at; here = inl h.1.here; before = λ j l b. h.1.before j l (entry_bad_here froms tos j b) })

pub stays_by_01 : StaysBy01
stays_by_01 name r nothing =
    let judged = nothing_judged r nothing in
    record {
      bad = λ froms tos place. (list_bad_here r nothing froms tos place, bad_list_here r nothing froms tos place);
      sheet = λ froms tos. plan-text-same name r judged froms tos;
      least = λ list. (least_any_same r.turn r.head (stops_of r) (accepted_sound r judged) list, least_any_back r judged list);
    }
