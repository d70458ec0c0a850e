-- The page of a month, line by line.
use Prim.Native.Nat.{ℕ, zero, suc, ◌+◌, ◌≤◌, ◌<◌}
use mathlib.Core.Path.{◌≡◌, ◌∙◌}
use mathlib.Core.Bool.{true, false, cond}
use mathlib.Core.Logic.{⊎_elim}
use mathlib.Core.List.{List, [], ◌∷◌, ◌++◌}
use native.Mathlib.Omega.{arith}
use lib.ListN.{length}
use lib.Dec.{ltb}
use borrow.Author.Tests.{ltb-false, ne_eqb}
use Rattle.refusals.specs.declared.Verdict.{Verdict}
use Rattle.refusals.specs.declared.Refusal.TheVariants.{Accepted}
use Rattle.refusals.specs.Refusals.{number_of, is_refusal}
use Rattle.runs.proofs.Search.{true_or_false}
use Rattle.text_bytes.specs.Text.{bytes}
use Rattle.text_pages.specs.Printing.{number_line}
use Rattle.sheet_writer.specs.RefusalLines.{refusal_text}
use Rattle.answer_plan.specs.Recall.{bytes_put}
use Rattle.answer_month.specs.Page.{kinds_in, refusal_line, refusal_lines, month_top, mean_of, sums_text, longest_text, month_end, page_text}
use Rattle.promises.specs.Answers.{two_lines}
use Rattle.promises.specs.MonthPage.{RefusalsTold, PageTellsAll}
use Rattle.promises.proofs.DeskSteps.{not_accepted}
use Rattle.promises.proofs.MonthTotals.{mean_exact}
use Rattle.promises.proofs.Checks.{put_whole}
use Rattle.promises.proofs.Answers.{lines_are}

refusals_told : (runs : List ℕ) (number : ℕ) → RefusalsTold runs number (kinds_in runs) (refusal_lines number runs)
unfolding kinds_in refusal_line refusal_lines
refusals_told [] number = RefusalsTold.no_more
refusals_told (zero ∷ rest) number =
    let same : 0 + kinds_in rest ≡ kinds_in rest = omega arith in
    rw same (RefusalsTold.no_runs (refusals_told rest (suc number)))
refusals_told (suc runs ∷ rest) number =
    let more : 1 + kinds_in rest ≡ suc (kinds_in rest) = omega arith in
    rw (ne_eqb (suc runs) 0 (λ e. omega (arith, e)), more) (RefusalsTold.some_runs {runs = suc runs} (omega arith) (refusals_told rest (suc number)))

-- A text of which some bytes stand in a row fits it.
put_fits : (text row : List ℕ) (n : ℕ) → n ≡ bytes_put text row → 0 < n → length text ≤ length row
unfolding bytes_put
put_fits text row n e some =
    ⊎_elim
    (λ (t : ltb (length row) (length text) ≡ true). let none : n ≡ 0 = e ∙ rw t in absurd (omega (arith, some, none)))
    (λ (f : ltb (length row) (length text) ≡ false). ltb-false (length row) (length text) f)
    (true_or_false (ltb (length row) (length text)))

module _ (v : Verdict) where
  abbrev lastLines : List ℕ
  lastLines = cond (is_refusal v.refusal) (number_line (bytes "refused=") (number_of v.refusal) ++ number_line (bytes "place=") v.place) []

  none_behind : v.refusal ≡ Accepted → lastLines ≡ []
  none_behind e = rw e

  two_behind : (v.refusal ≡ Accepted → ⊥) → lastLines ≡ two_lines v.refusal v.place
  unfolding refusal_text
  two_behind n = rw (not_accepted v.refusal n) (lines_are v)

pub page_tells_all : PageTellsAll
unfolding page_text month_top sums_text longest_text month_end
page_tells_all m v row n row' put some =
    record {
      kinds = kinds_in m.refused;
      refusals = refusal_lines 0 m.refused;
      listed = refusals_told m.refused 0;
      mean = mean_of m.sum m.reads;
      exact = mean_exact m.sum m.reads;
      last = lastLines v;
      good = none_behind v;
      bad = two_behind v;
      whole = put_whole (page_text m v) row n row' put.bytes put.left (put_fits (page_text m v) row n put.bytes some);
    }
