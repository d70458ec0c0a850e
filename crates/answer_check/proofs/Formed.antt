-- A list or a plan sheet: what a reader of it leaves in rows of 63 entries, by value.
use Prim.Native.Nat.{ℕ, zero, suc, ◌≤◌}
use mathlib.Core.Path.{◌≡◌, refl, sym, ◌∙◌}
use mathlib.Core.Bool.{Bool, true, false}
use mathlib.Core.List.{List, [], ◌∷◌, ◌++◌}
use native.Mathlib.Omega.{arith}
use lib.ListN.{length, take, drop}
use lib.Seq.{take_at}
use lib.Dec.{leb, ltb}
use borrow.Author.Tests.{leb-true, ltb-false, le-ltb}
use Rattle.refusals.specs.declared.Refusal.TheVariants.{BadLine, LongSheet}
use Rattle.refusals.specs.declared.Verdict.{Verdict}
use Rattle.refusals.specs.Refusals.{first_of, accepted}
use Rattle.refusals.proofs.Verdicts.{refuses, all_accept, none_refuses, accepts_if, accepts_at}
use Rattle.text_bytes.specs.Text.{line_feed, behind}
use Rattle.text_bytes.proofs.Bytes.{and_true_both}
use Rattle.text_lines.specs.Lines.{line_of, line_after, after_lines, is_number_line, number_behind, first_in, second_in, each_of}
use Rattle.sheet_reader.specs.Lines.{is_tape_line, is_count_line}
use Rattle.sheet_reader.specs.Sheet.{longest_sheet, first_some}
use Rattle.sheet_reader.specs.Reading.{read_row}
use Rattle.sheet_reader.proofs.Rows.{length_each}
use Rattle.sheet_writer.specs.PlanSheet.{sum_key, reads_key, finish_key, end_key, detours_key, detour_key}
use Rattle.sheet_lists.specs.declared.ListReading.{ListReading}
use Rattle.sheet_lists.specs.Form.{most_detours, first_failing, detours_told, plan_bad_top, plan_bad_below, plan_bad_line, is_plan, detour_text, plan_froms, plan_tos, list_detours, list_text, list_froms, list_tos, list_bad_line, starts_on, ends_on}
use Rattle.sheet_lists.specs.Reading.{plan_form, list_form, form_checks, pairs_verdict, ReadBy, ListRead, PlanRead}
use Rattle.sheet_lists.proofs.Counting.{up_to_few}
use Rattle.answer_check.specs.Private.{HandedIn}

-- Where no line fails, the first passes and none behind it fails.
none_fails : (n : ℕ) (test : List ℕ → Bool) (tests : List (List ℕ → Bool)) (text : List ℕ) → first_failing n (test ∷ tests) text ≡ 0
    → (test (line_of text) ≡ true) × (first_failing (suc n) tests (behind line_feed text) ≡ 0)
unfolding first_failing
none_fails n test tests text e = go (test (line_of text)) refl
  where
    go : (b : Bool) → test (line_of text) ≡ b → (test (line_of text) ≡ true) × (first_failing (suc n) tests (behind line_feed text) ≡ 0)
    go true h = (h, rw h at e)
    go false h = let z : suc n ≡ 0 = rw h at e in absurd (omega arith)

first_none : (a : ℕ) (ns : List ℕ) → first_some (a ∷ ns) ≡ 0 → a ≡ 0
first_none zero ns e = refl
first_none (suc a) ns e = e

top_few : (plan : List ℕ) → plan_bad_line plan ≡ 0 → detours_told plan ≤ most_detours
unfolding plan_bad_line plan_bad_top detours_told after_lines is_count_line
top_few plan e =
    let t₀ = none_fails 0 is_tape_line (is_number_line sum_key ∷ is_number_line reads_key ∷ is_number_line finish_key ∷ is_number_line end_key ∷ is_count_line detours_key most_detours ∷ []) plan (first_none (plan_bad_top plan) (plan_bad_below plan ∷ []) e) in
    let t₁ = none_fails 1 (is_number_line sum_key) (is_number_line reads_key ∷ is_number_line finish_key ∷ is_number_line end_key ∷ is_count_line detours_key most_detours ∷ []) (after_lines 1 plan) t₀.1 in
    let t₂ = none_fails 2 (is_number_line reads_key) (is_number_line finish_key ∷ is_number_line end_key ∷ is_count_line detours_key most_detours ∷ []) (after_lines 2 plan) t₁.1 in
    let t₃ = none_fails 3 (is_number_line finish_key) (is_number_line end_key ∷ is_count_line detours_key most_detours ∷ []) (after_lines 3 plan) t₂.1 in
    let t₄ = none_fails 4 (is_number_line end_key) (is_count_line detours_key most_detours ∷ []) (after_lines 4 plan) t₃.1 in
    let t₅ = none_fails 5 (is_count_line detours_key most_detours) [] (after_lines 5 plan) t₄.1 in
    leb-true (number_behind detours_key (line_after 5 plan)) most_detours (and_true_both (is_number_line detours_key (line_after 5 plan)) (leb (number_behind detours_key (line_after 5 plan)) most_detours) t₅.0).1

form_good : (bad : ℕ) (text : List ℕ) → refuses (first_of (form_checks bad text)) ≡ false → (length text ≤ longest_sheet) × (bad ≡ 0)
form_good bad text e =
    let all = all_accept (form_checks bad text) e in
    (ltb-false longest_sheet (length text) (accepts_if (ltb longest_sheet (length text)) LongSheet refl all.0), accepts_at bad BadLine refl all.1.0)

pub plan_few : (plan : List ℕ) → refuses (plan_form plan) ≡ false → detours_told plan ≤ 63
unfolding plan_form
plan_few plan e = top_few plan (form_good (plan_bad_line plan) plan e).1

pub plan_long : (plan : List ℕ) → refuses (plan_form plan) ≡ false → length plan ≤ 16384
unfolding plan_form
plan_long plan e = (form_good (plan_bad_line plan) plan e).0

pub list_few : (list : List ℕ) → refuses (list_form list) ≡ false → list_detours list ≤ 63
unfolding list_form list_detours list_bad_line
list_few list e = go (is_plan list) refl
  where
    go : (b : Bool) → is_plan list ≡ b → list_detours list ≤ 63
    go true h = rw h (top_few list (rw h at (form_good (list_bad_line list) list e).1))
    go false h = rw h (up_to_few most_detours list)

-- What a reader answers with rows of 63 entries, by value.
module _ (form : Verdict) (many : ℕ) (text : List ℕ) (plain : refuses form ≡ false → form ≡ accepted) (few : refuses form ≡ false → many ≤ 63) (row₁ row₂ : List ℕ) (long₁ : length row₁ ≡ 63) (long₂ : length row₂ ≡ 63)
    (r : ListReading) (row₁' row₂' : List ℕ) (read : ReadBy (pairs_verdict form many row₁ row₂) many text row₁ row₂ r row₁' row₂') where
  verdict_is_here : pairs_verdict form many row₁ row₂ ≡ form
  verdict_is_here = go (refuses form) refl
    where
      go : (b : Bool) → refuses form ≡ b → pairs_verdict form many row₁ row₂ ≡ form
      go true e = rw e
      go false e = let l = few e in rw (e, le-ltb (length row₁) many (omega (arith, long₁)), le-ltb (length row₂) many (omega (arith, long₂))) (sym (plain e))

  module _ (good : refuses form ≡ false) where
    count_is_here : r.detours ≡ many
    count_is_here = read.detours ∙ rw (verdict_is_here, good)

    taken : (value : ℕ → ℕ) (row row' : List ℕ) → row' ≡ read_row (pairs_verdict form many row₁ row₂) (each_of value many) row → take r.detours row' ≡ each_of value many
    unfolding read_row
    taken value row row' e =
        let is : row' ≡ each_of value many ++ drop (length (each_of value many)) row = rw (verdict_is_here, good) at e in
        rw (is, count_is_here) (take_at (each_of value many) (drop (length (each_of value many)) row) many (length_each value many))

  handed_in : HandedIn form (starts_on many text) (ends_on many text) (record { verdict = r.verdict; detours = r.detours; froms = row₁'; tos = row₂' })
  handed_in =
      record {
        verdict = read.verdict ∙ verdict_is_here;
        starts = λ good. taken good (λ i. first_in detour_key (line_after i text)) row₁ row₁' read.froms;
        ends = λ good. taken good (λ i. second_in detour_key (line_after i text)) row₂ row₂' read.tos;
      }

module _ (text row₁ row₂ : List ℕ) (long₁ : length row₁ ≡ 63) (long₂ : length row₂ ≡ 63) (r : ListReading) (row₁' row₂' : List ℕ) where
  pub list_handed : ListRead text row₁ row₂ r row₁' row₂' → HandedIn (list_form text) (list_froms text) (list_tos text) (record { verdict = r.verdict; detours = r.detours; froms = row₁'; tos = row₂' })
  unfolding list_froms list_tos list_form
  list_handed read = handed_in (list_form text) (list_detours text) (list_text text) (none_refuses (form_checks (list_bad_line text) text)) (list_few text) row₁ row₂ long₁ long₂ r row₁' row₂' read

  pub plan_handed : PlanRead text row₁ row₂ r row₁' row₂' → HandedIn (plan_form text) (plan_froms text) (plan_tos text) (record { verdict = r.verdict; detours = r.detours; froms = row₁'; tos = row₂' })
  unfolding plan_froms plan_tos plan_form
  plan_handed read = handed_in (plan_form text) (detours_told text) (detour_text text) (none_refuses (form_checks (plan_bad_line text) text)) (plan_few text) row₁ row₂ long₁ long₂ r row₁' row₂' read

pub plan_even : (plan : List ℕ) → length (plan_froms plan) ≡ length (plan_tos plan)
unfolding plan_froms plan_tos
plan_even plan = length_each _ (detours_told plan) ∙ sym (length_each _ (detours_told plan))
