-- What the figure sheet writer answers, step by step: a figure's line; the run, the name, the list as the figures judge it, the row.
use Prim.Native.Nat.{ℕ, suc, ◌+◌, ◌-◌, ◌^◌, ◌≤◌, ◌<◌}
use mathlib.Core.Path.{◌≡◌, refl, ap, sym, ◌∙◌, subst}
use mathlib.Core.Bool.{true, false, not, true≢false}
use mathlib.Core.Logic.{⊎_elim}
use mathlib.Core.List.{List, [], ◌∷◌, ◌++◌, append_assoc}
use native.Mathlib.Omega.{arith}
use native.Mathlib.Numerals.{add-one}
use lib.ListN.{length, get_or, take, drop, drop_of_length-le}
use lib.Seq.{take_at, drop-cons}
use lib.IntN.{ℤ, pos, negsuc, nat_abs, ◌-ℤ◌}
use lib.Signed.{lt_z}
use mir.Syntax.{w64}
use mir.Val.{SFits, to_z, of_z}
use mir.ValLaws.{to_z-of_z}
use borrow.Author.Tests.{le-ltb, ltb-true}
use Rattle.refusals.specs.declared.Refusal.TheVariants.{BadName}
use Rattle.refusals.specs.declared.Verdict.{Verdict}
use Rattle.walk.specs.declared.Answer.{Answer}
use Rattle.std.specs.Prelude.{Ok, Err}
use Rattle.refusals.specs.Refusals.{is_refusal, checked, refuse_if, first_of, accepted}
use Rattle.refusals.proofs.Verdicts.{refuses}
use Rattle.refusals.proofs.Checked.{passed, stopped, first_stops}
use Rattle.runs.specs.Run.{Run, stops_of, most_wants}
use Rattle.runs.specs.Judging.{judge_of}
use Rattle.runs.specs.Lists.{list_of, list_verdict}
use Rattle.runs.specs.AnyHead.{judge_any_of, list_verdict_any, lifted}
use Rattle.walk.specs.Price.{refusal_answer}
use Rattle.walk.specs.AnyHead.{priced_any_answer}
use Rattle.runs.proofs.Search.{true_or_false}
use Rattle.runs.proofs.Entries.{length_list}
use Rattle.runs.proofs.Judged.{accepted_run}
use Rattle.runs.proofs.Stops.{run_sound}
use Rattle.runs.proofs.AnyHead.{GoodAnyRun, accepted_any, sound_right, list_any_same, judge_any_same}
use Rattle.walk.proofs.Walks.{GoodList, list_fits_lem}
use Rattle.walk.proofs.AnyHead.{any_good, priced_same}
use Rattle.figures.specs.AnyHead.{figures_any_of, figures_any_verdict, figures_any_answer, figures_any_row}
use Rattle.figures.proofs.AnyHead.{figures_length, figures_are}
use Rattle.text_bytes.specs.Text.{is_name, comma, decimal}
use Rattle.text_pages.specs.Printing.{number_line, pair_text, Wrote, Put}
use Rattle.sheet_writer.specs.declared.Written.{Written}
use Rattle.sheet_writer.specs.Writing.{row_verdict}
use Rattle.sheet_figures.specs.FigureSheet.{buys_key, figure_line, figure_lines, figure_page, figure_text, figure_sheet_verdict, FigureWritten}
use Rattle.sheet_figures.specs.AnyHead.{figure_any_text, figure_any_sheet_verdict, FigureAnyWritten}
use Rattle.sheet_figures.specs.Private.{figure_most, FigureFits}
use Rattle.text_pages.proofs.Pages.{wrote_on, wrote_within}
use Rattle.sheet_writer.proofs.Sheets.{last_verdict, judged_refused, judged_passes, run_passes, name_fits}

-- A signed word below zero: one less than its size, as the code takes it from -1, and then the size.
below : (z : ℤ) → SFits w64 z → lt_z (to_z w64 (of_z w64 z)) (pos 0) ≡ true → negsuc 0 -ℤ to_z w64 (of_z w64 z) ≡ pos (nat_abs z - 1)
below (pos n) fits e = absurd (omega (arith, ltb-true n 0 (rw (to_z-of_z w64 (pos n) fits) at e)))
below (negsuc n) fits e = rw (to_z-of_z w64 (negsuc n) fits, le-ltb (suc n) 1 (omega arith)) (ap pos (omega arith))

below_size : (z : ℤ) → SFits w64 z → lt_z (to_z w64 (of_z w64 z)) (pos 0) ≡ true → (0 < nat_abs z) × (nat_abs z - 1 < 2 ^ 63)
below_size (pos n) fits e = absurd (omega (arith, ltb-true n 0 (rw (to_z-of_z w64 (pos n) fits) at e)))
below_size (negsuc n) fits e = (omega arith, omega (arith, fits.sfits))

module _ (z : ℤ) (fits : SFits w64 z) (e : lt_z (to_z w64 (of_z w64 z)) (pos 0) ≡ true) where
  pub less_fits : SFits w64 (negsuc 0 -ℤ to_z w64 (of_z w64 z))
  less_fits = rw (below z fits e) (record { sfits = omega (arith, (below_size z fits e).1) })

  less_word : to_z w64 (of_z w64 (negsuc 0 -ℤ to_z w64 (of_z w64 z))) ≡ pos (nat_abs z - 1)
  less_word = to_z-of_z w64 _ less_fits ∙ below z fits e

pub whole_size : (z : ℤ) → SFits w64 z → nat_abs (to_z w64 (of_z w64 z)) ≡ nat_abs z
whole_size z fits = ap nat_abs (to_z-of_z w64 z fits)

-- The comma before a figure, with its sign behind it.
abbrev pub sign_key : ℤ → List ℕ
sign_key (pos n) = comma ∷ []
sign_key (negsuc n) = comma ∷ 45 ∷ []

pub minus_taken : (z : ℤ) → SFits w64 z → lt_z (to_z w64 (of_z w64 z)) (pos 0) ≡ true → (n : ℕ) → n ≡ 2 → take n (44 ∷ 45 ∷ []) ≡ sign_key z
minus_taken (pos n) fits e k is = absurd (omega (arith, ltb-true n 0 (rw (to_z-of_z w64 (pos n) fits) at e)))
minus_taken (negsuc n) fits e k is = rw is refl

pub none_taken : (z : ℤ) → SFits w64 z → lt_z (to_z w64 (of_z w64 z)) (pos 0) ≡ false → (n : ℕ) → n ≡ 1 → take n (44 ∷ 45 ∷ []) ≡ sign_key z
none_taken (pos n) fits e k is = rw is refl
none_taken (negsuc n) fits e k is = absurd (true≢false (rw (to_z-of_z w64 (negsuc n) fits) at e))

-- The line in the pieces in which it is put.
pub figure_line_lem : (from to : ℕ) (z : ℤ) → (buys_key ++ pair_text from to) ++ number_line (sign_key z) (nat_abs z) ≡ figure_line from to z
figure_line_lem from to (pos n) =
    append_assoc buys_key (pair_text from to) _ ∙ ap (λ t. buys_key ++ t) (sym (append_assoc (pair_text from to ++ (comma ∷ [])) (decimal n) (10 ∷ []) ∙ append_assoc (pair_text from to) (comma ∷ []) _))
figure_line_lem from to (negsuc n) =
    append_assoc buys_key (pair_text from to) _ ∙ ap (λ t. buys_key ++ t) (sym (append_assoc (pair_text from to ++ (comma ∷ [])) (45 ∷ decimal (suc n)) (10 ∷ []) ∙ append_assoc (pair_text from to) (comma ∷ []) _))

sign_short : (z : ℤ) → length (sign_key z) ≤ 2
sign_short (pos n) = omega arith
sign_short (negsuc n) = omega arith

pub figure_wrote : (page : List ℕ) (at from to : ℕ) (z : ℤ) → at + 69 ≤ length page → (sign : List ℕ) → sign ≡ sign_key z → (n : ℕ) → n ≡ nat_abs z
    → (page₁ : List ℕ) (next₁ : ℕ) → Put page at buys_key 5 page₁ next₁ → (page₂ : List ℕ) (next₂ : ℕ) → Put page₁ next₁ (pair_text from to) 41 page₂ next₂
    → (page₃ : List ℕ) (next₃ : ℕ) → Put page₂ next₂ (number_line sign n) (length sign + 21) page₃ next₃ → Wrote page at (figure_line from to z) 69 page₃ next₃
figure_wrote page at from to z room sign is n size page₁ next₁ p page₂ next₂ q page₃ next₃ r =
    let short = sign_short z in
    let last : Put page₂ next₂ (number_line (sign_key z) (nat_abs z)) (length (sign_key z) + 21) page₃ next₃ = rw (is, size) at r in
    let all = wrote_on (wrote_on (p.room (omega arith)) (omega arith) q) (omega arith) last in
    subst (λ t. Wrote page at t 69 page₃ next₃) (figure_line_lem from to z) (wrote_within all 69 (omega arith))

-- The lines that are left.
module _ (froms tos : List ℕ) (figures : List ℤ) (even : length froms ≡ length tos) (figured : length froms ≡ length figures) (i : ℕ) where
  pub figures_left : i < length froms → SFits w64 (get_or figures i (pos 0))
      → figure_lines (drop i froms) (drop i tos) (drop i figures)
      ≡ figure_line (get_or froms i 0) (get_or tos i 0) (to_z w64 (of_z w64 (get_or figures i (pos 0)))) ++ figure_lines (drop (i + 1) froms) (drop (i + 1) tos) (drop (i + 1) figures)
  unfolding figure_lines
  figures_left l fits = rw (to_z-of_z w64 (get_or figures i (pos 0)) fits, drop-cons froms i 0 l, drop-cons tos i 0 (omega arith), drop-cons figures i (pos 0) (omega arith), add-one)

  pub figures_over : length froms ≤ i → figure_lines (drop i froms) (drop i tos) (drop i figures) ≡ []
  unfolding figure_lines
  figures_over l = rw (drop_of_length-le froms l)

-- What the judging of the run and the name's say together.
abbrev figures_judged : List ℕ → Run → Verdict
figures_judged name run = first_of (judge_any_of run ∷ refuse_if (not (is_name name)) BadName ∷ [])

module _ (name : List ℕ) (run : Run) (froms tos row : List ℕ) where
  pub figures_refused : (e : Verdict) → Err e ≡ checked (figures_judged name run) → Err e ≡ checked (figure_any_sheet_verdict name run froms tos row)
  unfolding figure_any_sheet_verdict
  figures_refused = judged_refused name (judge_any_of run) false (list_verdict_any run.head (stops_of run) froms tos ∷ row_verdict (figure_any_text name run froms tos) row ∷ [])

  module _ (u : Unit) (good : Ok u ≡ checked (figures_judged name run)) where
    good_figures : GoodAnyRun run
    good_figures = accepted_any run (run_passes name (judge_any_of run) false u good)

    figures_pass : figure_any_sheet_verdict name run froms tos row ≡ first_of (list_verdict_any run.head (stops_of run) froms tos ∷ row_verdict (figure_any_text name run froms tos) row ∷ [])
    unfolding figure_any_sheet_verdict
    figures_pass = judged_passes name (judge_any_of run) false u good (list_verdict_any run.head (stops_of run) froms tos ∷ row_verdict (figure_any_text name run froms tos) row ∷ [])

    -- a is what the figures' routine answered with a row for figures that is long enough.
    module _ (space : List ℤ) (room : most_wants ≤ length space) (a : Answer) (a-is : a ≡ figures_any_answer run froms tos space) where
      list : Verdict
      list = list_verdict_any run.head (stops_of run) froms tos

      abbrev told : Verdict
      told = record { refusal = a.refusal; place = a.place }

      list_length : refuses list ≡ false → (length (list_of froms tos) ≡ length froms) × (length froms ≤ most_wants)
      unfolding list
      list_length e =
          let entries = any_good run.head (stops_of run) froms tos e in
          (length_list froms tos entries.even, omega (arith, list_fits_lem (lifted run) good_figures.run froms tos entries, good_figures.run.wants.few))

      verdict_good : refuses list ≡ false → figures_any_verdict run froms tos space ≡ accepted
      unfolding figures_any_verdict list
      verdict_good e =
          let size = list_length e in
          rw (run_passes name (judge_any_of run) false u good, e, le-ltb (length space) (length (list_of froms tos)) (omega (arith, size.0, size.1))) refl

      verdict_refused : refuses list ≡ true → figures_any_verdict run froms tos space ≡ list
      unfolding figures_any_verdict list
      verdict_refused e = rw (run_passes name (judge_any_of run) false u good, e) refl

      figured_refused : refuses list ≡ true → a ≡ refusal_answer list
      unfolding figures_any_answer
      figured_refused e = a-is ∙ rw (verdict_refused e, e)

      figured_good : refuses list ≡ false → a ≡ priced_any_answer run (list_of froms tos)
      unfolding figures_any_answer
      figured_good e = a-is ∙ rw (verdict_good e)

      list_says : refuses list ≡ refuses told
      unfolding priced_any_answer
      list_says =
          ⊎_elim
          (λ e. ap (λ x. is_refusal x.refusal) (sym (figured_refused e)))
          (λ e. e ∙ sym (ap (λ x. is_refusal x.refusal) (figured_good e)))
          (true_or_false (refuses list))

      pub figures_list_refused : (e : Verdict) → Err e ≡ checked told → Err e ≡ checked (figure_any_sheet_verdict name run froms tos row)
      unfolding list
      figures_list_refused e said =
          let so = list_says ∙ (stopped told e said).so in
          said ∙ ap checked (sym (figures_pass ∙ rw so (ap (λ x. record { refusal = x.refusal; place = x.place }) (sym (figured_refused so)))))

      module _ (w : Unit) (accepts : Ok w ≡ checked told) where
        fine : refuses list ≡ false
        fine = list_says ∙ passed told w accepts

        good_list_here : GoodList (stops_of run) froms tos
        unfolding list
        good_list_here = any_good run.head (stops_of run) froms tos fine

        pub few_figures : length froms ≤ most_wants
        few_figures = (list_length fine).1

        pub figures_last : figure_any_sheet_verdict name run froms tos row ≡ row_verdict (figure_any_text name run froms tos) row
        unfolding list
        figures_last = figures_pass ∙ rw fine (last_verdict (figure_any_text name run froms tos) row)

        -- The figures that the routine left in the row.
        module _ (space' : List ℤ) (space-is : space' ≡ figures_any_row run froms tos space) where
          figures_size : length (figures_any_of run (list_of froms tos)) ≡ length froms
          figures_size = figures_length run (list_of froms tos) ∙ (list_length fine).0

          figures_taken : take (length froms) space' ≡ figures_any_of run (list_of froms tos)
          unfolding figures_any_row
          figures_taken =
              ap (take (length froms)) (space-is ∙ rw (verdict_good fine) refl)
              ∙ take_at (figures_any_of run (list_of froms tos)) (drop (length (list_of froms tos)) space) (length froms) figures_size

          pub figures_count : length froms ≡ length (take (length froms) space')
          figures_count = sym (ap length figures_taken ∙ figures_size)

          pub figures_fit : (page : List ℕ) → figure_most ≤ length page → FigureFits page name froms tos (take (length froms) space')
          figures_fit page wide =
              record {
                room = wide;
                short = name_fits name (judge_any_of run) false u good;
                few = few_figures;
                even = good_list_here.even;
                figured = figures_count;
              }

          pub figures_wrote : (page page' : List ℕ) (n : ℕ) → Wrote page 0 (figure_page name a froms tos (take (length froms) space')) figure_most page' n
              → Wrote page 0 (figure_any_text name run froms tos) figure_most page' n
          unfolding figure_any_text
          figures_wrote page page' n w = rw (← figured_good fine, ← figures_taken) w

-- Of a run that 01 accepts the sheet, the checks and what is written are 01's.
module _ (name : List ℕ) (run : Run) (accepts : refuses (judge_of run) ≡ false) (froms tos : List ℕ) where
  pub text_same : figure_any_text name run froms tos ≡ figure_text name run froms tos
  unfolding figure_any_text figure_text
  text_same = rw (priced_same run (accepted_run run accepts) (list_of froms tos), figures_are run froms tos [] accepts (list_of froms tos))

  pub sheet_same : (row : List ℕ) → figure_any_sheet_verdict name run froms tos row ≡ figure_sheet_verdict name run froms tos row
  unfolding figure_any_sheet_verdict figure_sheet_verdict
  sheet_same row =
      rw (
        judge_any_same run (λ is. true≢false (sym (ap is_refusal is) ∙ accepts)),
        list_any_same run.head (stops_of run) (sound_right (stops_of run) run.head (run_sound run (accepted_run run accepts))) froms tos,
        text_same,
      )

  pub written_same : (row : List ℕ) (r : Written) (row' : List ℕ) → FigureAnyWritten name run froms tos row r row' → FigureWritten name run froms tos row r row'
  written_same row r row' h = record { answer = h.answer ∙ rw (sheet_same row, text_same); left = h.left ∙ rw (sheet_same row, text_same) }

-- One that the judging refuses is refused so.
pub run_refused : (name : List ℕ) (run : Run) (froms tos row : List ℕ) (e : Verdict) → Err e ≡ checked (judge_of run) → Err e ≡ checked (figure_sheet_verdict name run froms tos row)
unfolding figure_sheet_verdict
run_refused name run froms tos row =
    first_stops (judge_of run) (refuse_if (not (is_name name)) BadName ∷ list_verdict (stops_of run) froms tos ∷ row_verdict (figure_text name run froms tos) row ∷ [])
