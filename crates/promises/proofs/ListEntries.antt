-- The entries of a list that is handed in are the numbers of its lines.
use Prim.Native.Nat.{ℕ, ◌+◌, ◌<◌}
use mathlib.Core.Path.{◌≡◌, refl, ap, sym, ◌∙◌, subst}
use mathlib.Core.Bool.{true, false, not}
use mathlib.Core.Logic.{⊎_elim}
use mathlib.Core.List.{List, [], ◌∷◌, ◌++◌}
use native.Mathlib.Omega.{arith}
use lib.ListN.{length, get_or}
use borrow.Author.Tests.{not-false}
use Rattle.refusals.specs.declared.Refusal.TheVariants.{BadLine}
use Rattle.refusals.specs.Refusals.{first_of}
use Rattle.refusals.proofs.Verdicts.{refuses, all_accept, accepts_at}
use Rattle.runs.proofs.Search.{true_or_false, first_zero}
use Rattle.text_bytes.specs.Text.{line_feed, comma, has, behind, is_empty, value_of, decimal}
use Rattle.text_lines.specs.Lines.{line_of, after_lines, line_after, number_behind, first_in, second_in, is_pair_line, first_bad_of}
use Rattle.text_lines.proofs.Filling.{length_each}
use Rattle.sheet_reader.specs.Sheet.{unless}
use Rattle.sheet_writer.specs.PlanSheet.{detours_key, detour_key}
use Rattle.sheet_writer.proofs.Reread.{key_value}
use Rattle.sheet_lists.specs.Form.{most_detours, lines_up_to, first_bad_to_end, detours_told, detour_text, plan_bad_line, is_plan, list_bad_line, list_detours, list_text, starts_on, ends_on, plan_froms, plan_tos, list_froms, list_tos}
use Rattle.sheet_lists.specs.Reading.{form_checks, plan_form, list_form}
use Rattle.demands.specs.Lines.{Stands, Number, UpTo, Pair}
use Rattle.demands.proofs.Lines.{tells_count, tells_pair_line, tells_end, number_flat, line_read}
use Rattle.demands.proofs.FirstLine.{after_both}
use Rattle.demands.proofs.SheetLines.{value_read, pair_says, each_value, stands_there}
use Rattle.promises.specs.ListLines.{PlanLineIsBad, DetoursAreTold}
use Rattle.promises.specs.ListEntries.{EntriesOn, OnPlanSheet, OnBareList, PlanHoldsItsLines, ListHoldsItsLines}
use Rattle.demands.proofs.Canonical.{number_text}
use Rattle.promises.proofs.Lengths.{first_none, unless_none}
use Rattle.promises.proofs.ListLines.{plan_search, plan_is, is_plan_lem}

-- So many such lines behind others.
entries_on : (text : List ℕ) (first count : ℕ) → ((i : ℕ) → i < count → Stands detour_key Pair text (first + i)) → EntriesOn text first (starts_on count (after_lines first text)) (ends_on count (after_lines first text))
unfolding has
entries_on text first count stand =
    let start : ℕ → ℕ = λ k. first_in detour_key (line_after k (after_lines first text)) in
    let end : ℕ → ℕ = λ k. second_in detour_key (line_after k (after_lines first text)) in
    record {
      even = length_each start count ∙ sym (length_each end count);
      entry = λ i l.
          let h : i < count = omega (arith, l, length_each start count) in
          let there = after_both i first (first + i) text refl in
          let from : first_in detour_key (line_after (first + i) text) ≡ get_or (starts_on count (after_lines first text)) i 0 =
          ap (λ t. first_in detour_key (line_of t)) (sym there) ∙ sym (each_value start count i h) in
          let to : second_in detour_key (line_after (first + i) text) ≡ get_or (ends_on count (after_lines first text)) i 0 =
          ap (λ t. second_in detour_key (line_of t)) (sym there) ∙ sym (each_value end count i h) in
          subst (λ b. Stands detour_key (λ value. value ≡ decimal (get_or (starts_on count (after_lines first text)) i 0) ++ (comma ∷ decimal b)) text (first + i)) to
          (subst (λ a. Stands detour_key (λ value. value ≡ decimal a ++ (comma ∷ decimal (second_in detour_key (line_after (first + i) text)))) text (first + i)) from
          (pair_says detour_key refl text (first + i) (stand i h)));
    }

-- The number of detours, of any plan sheet that says one.
pub detours_are_told : DetoursAreTold
unfolding detours_told has
detours_are_told plan line = ap value_of (value_read detours_key refl plan 5 Number line (number_flat line_feed refl line.value line.kind))

no_bad : (bad : ℕ) (text : List ℕ) → refuses (first_of (form_checks bad text)) ≡ false → bad ≡ 0
no_bad bad text e = accepts_at bad BadLine refl (all_accept (form_checks bad text) e).1.0

module _ (plan : List ℕ) (none : plan_bad_line plan ≡ 0) where
  clean : (i : ℕ) → PlanLineIsBad plan i → ⊥
  clean = (plan_search plan).none none

  detour_stands : (i : ℕ) → i < detours_told plan → Stands detour_key Pair plan (6 + i)
  unfolding has
  detour_stands i l = stands_there (tells_pair_line plan (6 + i) detour_key (omega arith) refl) (λ n. clean (6 + i) (PlanLineIsBad.detour (omega arith) (omega arith) n))

  count_stands : Stands detours_key (UpTo 63) plan 5
  unfolding has
  count_stands = stands_there (tells_count plan 5 detours_key (omega arith) refl most_detours) (λ n. clean 5 (PlanLineIsBad.detours refl n))

  count_text : count_stands.value ≡ decimal (length (plan_froms plan))
  unfolding detours_told plan_froms has
  count_text =
      let s = count_stands in
      let line = line_read detours_key s.value s.rest (after_lines 5 plan) refl (number_flat line_feed refl s.value s.kind.0) s.is in
      sym (ap decimal (length_each (λ i. first_in detour_key (line_after i (detour_text plan))) (detours_told plan)) ∙ ap (λ l. decimal (number_behind detours_key l)) line ∙ ap (λ t. decimal (value_of t)) (key_value detours_key s.value) ∙ number_text s.value s.kind.0)

  on_plan_sheet : OnPlanSheet plan (plan_froms plan) (plan_tos plan)
  unfolding plan_froms plan_tos detour_text
  on_plan_sheet =
      record {
        count = record { value = count_stands.value; rest = count_stands.rest; is = count_stands.is; kind = count_text };
        entries = entries_on plan 6 (detours_told plan) detour_stands;
      }

pub plan_holds_its_lines : PlanHoldsItsLines
unfolding plan_form
plan_holds_its_lines plan e = on_plan_sheet plan (no_bad (plan_bad_line plan) plan e)

module _ (list : List ℕ) (none : first_bad_to_end (is_pair_line detour_key) most_detours list ≡ 0) where
  abbrev many : ℕ
  many = lines_up_to most_detours list

  parts : (first_bad_of (is_pair_line detour_key) many list ≡ 0) × (is_empty (after_lines many list) ≡ true)
  unfolding first_bad_to_end
  parts =
      let both = first_none (first_bad_of (is_pair_line detour_key) many list ∷ unless (is_empty (after_lines many list)) (many + 1) ∷ []) none in
      (both.0, unless_none (is_empty (after_lines many list)) (many + 1) (omega arith) both.1.0)

  line_stands : (i : ℕ) → i < many → Stands detour_key Pair list i
  unfolding first_bad_of has
  line_stands i l =
      (tells_pair_line list i detour_key (omega arith) refl).when_true
      (not-false (is_pair_line detour_key (line_after i list)) (first_zero (λ k. not (is_pair_line detour_key (line_after k list))) many parts.0 i l))

  on_bare_list : OnBareList list (starts_on many list) (ends_on many list)
  unfolding after_lines
  on_bare_list =
      record {
        entries = entries_on list 0 many (λ i l. subst (Stands detour_key Pair list) (omega arith) (line_stands i l));
        end = subst (λ k. after_lines k list ≡ []) (sym (length_each (λ k. first_in detour_key (line_after k list)) many)) ((tells_end list many).when_true parts.1);
      }

pub list_holds_its_lines : ListHoldsItsLines
unfolding list_form list_bad_line list_froms list_tos list_detours list_text plan_froms plan_tos
list_holds_its_lines list e =
    let none = no_bad (list_bad_line list) list e in (
      λ p. let is = plan_is list p in rw is (on_plan_sheet list (rw is at none)),
      λ n. let is : is_plan list ≡ false = ⊎_elim (λ (t : is_plan list ≡ true). absurd (n (is_plan_lem list t))) (λ (f : is_plan list ≡ false). f) (true_or_false (is_plan list)) in
          rw is (on_bare_list list (rw is at none)),
    )
