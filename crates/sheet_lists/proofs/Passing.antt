-- A plan sheet and a list read line by line: the first line that is not as described.
use Prim.Native.Nat.{ℕ, zero, suc, ◌+◌, ◌≤◌, ◌<◌}
use mathlib.Core.Path.{◌≡◌, refl, sym, ap, ◌∙◌}
use mathlib.Core.Bool.{Bool, true, false, not}
use mathlib.Core.List.{List, [], ◌∷◌}
use native.Mathlib.Omega.{arith}
use lib.ListN.{length, drop, drop_of_length-le}
use lib.Seq.{drop-cons}
use borrow.Author.Tests.{le-leb, lt-leb}
use Rattle.runs.specs.Run.{most_wants}
use Rattle.runs.proofs.Search.{first_within}
use Rattle.text_bytes.specs.Text.{line_feed, behind, is_empty, starts_with}
use Rattle.std.specs.Prelude.{Result, Ok, Err}
use Rattle.text_lines.specs.declared.BadLine.{BadLine}
use Rattle.text_lines.specs.Lines.{line_of, line_after, after_lines, is_number_line, number_behind, is_pair_line, is_triple_line, first_bad_of}
use Rattle.text_lines.specs.Found.{Passed, LinesPassed, LineBad}
use Rattle.sheet_reader.specs.Lines.{tape_key, is_tape_line, is_count_line}
use Rattle.sheet_reader.specs.Sheet.{unless, shifted, first_some}
use Rattle.sheet_writer.specs.PlanSheet.{sum_key, reads_key, finish_key, end_key, detours_key, detour_key, time_key}
use Rattle.sheet_lists.specs.declared.Form.{Form}
use Rattle.sheet_lists.specs.Form.{most_detours, lines_up_to, first_bad_to_end, first_failing, detours_told, detour_text, time_text, plan_bad_top, plan_bad_below, plan_bad_line, is_plan, list_bad_line, list_detours, list_text}
use Rattle.sheet_lists.specs.Private.{TopIs, LineIs, BelowAt, FormIs, FormFound, BelowFound}
use Rattle.sheet_lists.proofs.Counting.{up_to_few}

-- The lines of the top that are still to be passed.
abbrev pub after_tape : List (List ℕ → Bool)
after_tape = is_number_line sum_key ∷ is_number_line reads_key ∷ is_number_line finish_key ∷ is_number_line end_key ∷ is_count_line detours_key most_detours ∷ []

-- So many lines passed, and what is left.
pub record Reached (plan : List ℕ) (passed : ℕ) (tests : List (List ℕ → Bool)) (at : ℕ) : Type 0 where
  pub same : plan_bad_top plan ≡ first_failing passed tests (drop at plan)
  pub rest : drop at plan ≡ after_lines passed plan
  pub within : at ≤ length plan

drop_none : (text : List ℕ) → drop 0 text ≡ text
drop_none [] = refl
drop_none (b ∷ text) = refl

module _ (plan : List ℕ) (passed : ℕ) (test : List ℕ → Bool) (tests : List (List ℕ → Bool)) (at : ℕ) (here : Reached plan passed (test ∷ tests) at) where
  one_more : (next : ℕ) → Passed test plan at next → Reached plan (suc passed) tests next
  unfolding first_failing after_lines
  one_more next p =
      record {
        same = here.same ∙ rw (p.good, ← p.rest);
        rest = p.rest ∙ ap (behind line_feed) here.rest;
        within = p.within;
      }

  stops_here : test (line_of (drop at plan)) ≡ false → LineIs (plan_bad_top plan) (suc passed)
  unfolding first_failing
  stops_here e = record { same = here.same ∙ rw e; some = omega arith }

-- The tape's line.
module _ (plan : List ℕ) where
  pub tape_bad : is_tape_line (line_of plan) ≡ false → LineIs (plan_bad_top plan) 1
  unfolding plan_bad_top first_failing
  tape_bad bad = record { same = rw bad; some = omega arith }

  pub tape_good : (next : ℕ) → Passed is_tape_line plan 0 next → Reached plan 1 after_tape next
  unfolding plan_bad_top first_failing after_lines
  tape_good next p =
      let good : is_tape_line (line_of plan) ≡ true = rw (drop_none plan) at p.good in
      let rest : drop next plan ≡ behind line_feed plan = p.rest ∙ ap (behind line_feed) (drop_none plan) in
      record { same = rw (good, ← rest); rest = rest; within = p.within }

-- A number's line.
module _ (plan : List ℕ) (passed : ℕ) (key : List ℕ) (tests : List (List ℕ → Bool)) (at : ℕ) (here : Reached plan passed (is_number_line key ∷ tests) at) where
  pub number_bad : is_number_line key (line_of (drop at plan)) ≡ false → LineIs (plan_bad_top plan) (suc passed)
  number_bad bad = stops_here plan passed (is_number_line key) tests at here bad

  pub number_good : (n next : ℕ) → Passed (is_number_line key) plan at next × (n ≡ number_behind key (line_of (drop at plan))) → Reached plan (suc passed) tests next
  number_good n next p = one_more plan passed (is_number_line key) tests at here next p.0

-- The number of detours.
module _ (plan : List ℕ) (at : ℕ) (here : Reached plan 5 (is_count_line detours_key most_detours ∷ []) at) where
  pub detours_bad : is_number_line detours_key (line_of (drop at plan)) ≡ false → LineIs (plan_bad_top plan) 6
  unfolding is_count_line
  detours_bad bad = stops_here plan 5 (is_count_line detours_key most_detours) [] at here (rw bad)

  module _ (n next : ℕ) (read : Passed (is_number_line detours_key) plan at next × (n ≡ number_behind detours_key (line_of (drop at plan)))) where
    pub detours_over : most_detours < n → LineIs (plan_bad_top plan) 6
    unfolding is_count_line
    detours_over l =
        stops_here plan 5 (is_count_line detours_key most_detours) [] at here
        (rw (read.0.good, lt-leb (number_behind detours_key (line_of (drop at plan))) most_detours (omega (arith, read.1))))

    pub detours_good : n ≤ most_detours → TopIs plan n next
    unfolding is_count_line first_failing detours_told detour_text
    detours_good l =
        let good : is_count_line detours_key most_detours (line_of (drop at plan)) ≡ true = rw (read.0.good, le-leb (number_behind detours_key (line_of (drop at plan))) most_detours (omega (arith, read.1))) in
        let past = one_more plan 5 (is_count_line detours_key most_detours) [] at here next (record { good = good; within = read.0.within; rest = read.0.rest }) in
        record {
          none = past.same;
          count = read.1 ∙ ap (λ t. number_behind detours_key (line_of t)) here.rest;
          few = l;
          within = past.within;
          rest = past.rest;
        }

-- The first number of a row that is not 0.
first_some_lem : (n : ℕ) (ns : List ℕ) → 0 < n → first_some (n ∷ ns) ≡ n
first_some_lem zero ns l = absurd (omega arith)
first_some_lem (suc n) ns l = refl

shifted_some : (lines n : ℕ) → 0 < n → shifted lines n ≡ lines + n
shifted_some lines zero l = absurd (omega arith)
shifted_some lines (suc n) l = refl

-- Lines of one kind to the end of a text.
module _ (test : List ℕ → Bool) (most : ℕ) (text : List ℕ) (at n : ℕ) (n-is : n ≡ lines_up_to most (drop at text)) where
  pub to_end_bad : (line : ℕ) → LineBad test text at n line → line ≡ first_bad_to_end test most (drop at text)
  unfolding first_bad_to_end
  to_end_bad line b = rw (← n-is, b.first) (sym (first_some_lem line (unless (is_empty (after_lines n (drop at text))) (n + 1) ∷ []) b.some))

  module _ (next : ℕ) (p : LinesPassed test text at n next) where
    pub to_end_more : next < length text → n + 1 ≡ first_bad_to_end test most (drop at text)
    unfolding first_bad_to_end
    to_end_more l =
        let more : is_empty (after_lines n (drop at text)) ≡ false = rw (← p.rest, drop-cons text next 0 l) in
        rw (← n-is, p.none, more) (sym (first_some_lem (n + 1) [] (omega arith)))

    pub to_end_good : length text ≤ next → 0 ≡ first_bad_to_end test most (drop at text)
    unfolding first_bad_to_end
    to_end_good l =
        let none : is_empty (after_lines n (drop at text)) ≡ true = rw (← p.rest, drop_of_length-le text l) in
        rw (← n-is, p.none, none)

-- The lines below the first six.
module _ (plan : List ℕ) (at detours : ℕ) (here : BelowAt plan at detours) where
  pub below_bad : (line : ℕ) → LineBad (is_pair_line detour_key) plan at detours line → LineIs (plan_bad_below plan) (6 + line)
  unfolding plan_bad_below
  below_bad line b =
      let first : first_bad_of (is_pair_line detour_key) (detours_told plan) (detour_text plan) ≡ line = rw (← here.count, ← here.rest) b.first in
      record { same = rw (first, shifted_some 6 line b.some) (first_some_lem (6 + line) (shifted (detours_told plan + 6) (first_bad_to_end (is_triple_line time_key) most_wants (time_text plan)) ∷ []) (omega arith)); some = omega arith }

  module _ (next : ℕ) (p : LinesPassed (is_pair_line detour_key) plan at detours next) (line : ℕ) (is : line ≡ first_bad_to_end (is_triple_line time_key) most_wants (drop next plan)) where
    none : first_bad_of (is_pair_line detour_key) (detours_told plan) (detour_text plan) ≡ 0
    none = rw (← here.count, ← here.rest) p.none

    times : first_bad_to_end (is_triple_line time_key) most_wants (time_text plan) ≡ line
    unfolding time_text
    times = sym (is ∙ ap (first_bad_to_end (is_triple_line time_key) most_wants) (p.rest ∙ rw (← here.count, ← here.rest)))

    pub below_good : line ≡ 0 → FormIs (plan_bad_below plan) (detours_told plan) (detour_text plan) plan at detours
    unfolding plan_bad_below
    below_good e =
        record {
          none = rw (none, times, e);
          same = here.count;
          few = omega (arith, here.count, here.few);
          within = here.within;
          rest = here.rest;
          passed = none;
        }

    pub below_time : (line ≡ 0 → ⊥) → LineIs (plan_bad_below plan) (detours + 6 + line)
    unfolding plan_bad_below
    below_time n =
        let some : 0 < line = omega arith in
        record {
          same = rw (none, times, shifted_some (detours_told plan + 6) line some, ← here.count) (first_some_lem (detours + 6 + line) [] (omega arith));
          some = omega arith;
        }

-- Both parts together.
module _ (plan : List ℕ) where
  pub top_bad : (line : ℕ) → LineIs (plan_bad_top plan) line → LineIs (plan_bad_line plan) line
  unfolding plan_bad_line
  top_bad line b = record { same = rw b.same (first_some_lem line (plan_bad_below plan ∷ []) b.some); some = b.some }

  module _ (detours next : ℕ) (top : TopIs plan detours next) where
    pub below_starts : BelowAt plan next detours
    below_starts = record { count = top.count; few = top.few; within = top.within; rest = top.rest }

    pub plan_found : (form : Result Form BadLine) → BelowFound plan form → FormFound (plan_bad_line plan) (detours_told plan) (detour_text plan) plan form
    unfolding plan_bad_line
    plan_found (Ok form) g =
        record { none = rw (top.none, g.none); same = g.same; few = g.few; within = g.within; rest = g.rest; passed = g.passed }
    plan_found (Err bad) b = record { same = rw (top.none, b.same) (first_some_lem bad.line [] b.some); some = b.some }

-- A list of detours alone.
module _ (list : List ℕ) (n : ℕ) (n-is : n ≡ lines_up_to most_detours list) where
  here : n ≡ lines_up_to most_detours (drop 0 list)
  here = n-is ∙ ap (lines_up_to most_detours) (sym (drop_none list))

  whole : first_bad_to_end (is_pair_line detour_key) most_detours (drop 0 list) ≡ first_bad_to_end (is_pair_line detour_key) most_detours list
  whole = ap (first_bad_to_end (is_pair_line detour_key) most_detours) (drop_none list)

  abbrev first : ℕ
  first = first_bad_to_end (is_pair_line detour_key) most_detours list

  pub bare_bad : (line : ℕ) → LineBad (is_pair_line detour_key) list 0 n line → LineIs first line
  bare_bad line b = record { same = sym (to_end_bad (is_pair_line detour_key) most_detours list 0 n here line b ∙ whole); some = b.some }

  module _ (next : ℕ) (p : LinesPassed (is_pair_line detour_key) list 0 n next) where
    pub bare_more : next < length list → LineIs first (n + 1)
    bare_more l = record { same = sym (to_end_more (is_pair_line detour_key) most_detours list 0 n here next p l ∙ whole); some = omega arith }

    pub bare_good : length list ≤ next → FormIs first (lines_up_to most_detours list) list list 0 n
    bare_good l =
        record {
          none = sym (to_end_good (is_pair_line detour_key) most_detours list 0 n here next p l ∙ whole);
          same = n-is;
          few = up_to_few most_detours list;
          within = omega arith;
          rest = drop_none list;
          passed = rw (← n-is, ← drop_none list) p.none;
        }

-- The first bad line stands just behind the limit at most.
pub to_end_small : (test : List ℕ → Bool) (most : ℕ) (text : List ℕ) (line : ℕ) → line ≡ first_bad_to_end test most text → line ≤ most + 1
unfolding first_bad_to_end first_bad_of
to_end_small test most text line e =
    omega (arith, up_to_few most text, two_small (first_bad_of test (lines_up_to most text) text) (lines_up_to most text) (is_empty (after_lines (lines_up_to most text) text)) (first_within (λ i. not (test (line_after i text))) (lines_up_to most text)))
  where
    two_small : (a n : ℕ) (b : Bool) → a ≤ n → first_some (a ∷ unless b (n + 1) ∷ []) ≤ n + 1
    two_small zero n true l = omega arith
    two_small zero n false l = omega (arith, first_some_lem (n + 1) [] (omega arith))
    two_small (suc a) n b l = omega arith

-- A list that begins as a plan sheet does, and one that does not.
module _ (list : List ℕ) (b : Bool) (is : b ≡ starts_with tape_key list) (form : Result Form BadLine) where
  pub listed_plan : b ≡ true → FormFound (plan_bad_line list) (detours_told list) (detour_text list) list form → FormFound (list_bad_line list) (list_detours list) (list_text list) list form
  unfolding is_plan list_bad_line list_detours list_text
  listed_plan e h = let t : starts_with tape_key list ≡ true = sym is ∙ e in rw t h

  pub listed_bare : b ≡ false → FormFound (first_bad_to_end (is_pair_line detour_key) most_detours list) (lines_up_to most_detours list) list list form
      → FormFound (list_bad_line list) (list_detours list) (list_text list) list form
  unfolding is_plan list_bad_line list_detours list_text
  listed_bare e h = let t : starts_with tape_key list ≡ false = sym is ∙ e in rw t h
