-- The sheet of an accepted run is taken by the mender.
use Prim.Native.Nat.{ℕ, zero, suc, ◌+◌, ◌≤◌}
use mathlib.Core.Path.{◌≡◌, refl, ap, ◌∙◌}
use mathlib.Core.Bool.{true, false, cond}
use mathlib.Core.List.{List, [], ◌∷◌, ◌++◌}
use native.Mathlib.Omega.{arith}
use lib.ListN.{length, get_or, length-append}
use lib.Dec.{eqb}
use borrow.Author.Tests.{le-ltb}
use Rattle.refusals.specs.Refusals.{accepted}
use Rattle.refusals.proofs.Verdicts.{refuses}
use Rattle.runs.specs.Run.{most_wants, most_reads, total}
use Rattle.runs.specs.Judging.{judge_of}
use Rattle.runs.proofs.Judged.{accepted_run}
use Rattle.text_bytes.specs.Text.{bytes, line_feed, is_number, all_of, value_from, decimal}
use Rattle.text_lines.specs.Lines.{line_of, after_lines, line_after, value_text, is_number_line}
use Rattle.sheet_reader.specs.Lines.{turn_key, wants_key, turn_with, empty_turn}
use Rattle.sheet_reader.specs.Sheet.{longest_sheet, sheet_turn, sheet_turn_with, says_sweep, end_text, sheet_run}
use Rattle.sheet_reader.specs.Reading.{sheet_verdict}
use Rattle.sheet_reader.proofs.Good.{short_sheet}
use Rattle.text_pages.specs.Printing.{line}
use Rattle.sheet_loose.specs.Loose.{loose_wants_text, loose_end, price_left_out, first_bad_loose_top, first_bad_loose_below, first_bad_loose, wanted_counts}
use Rattle.sheet_loose.specs.Reading.{loose_verdict}
use Rattle.answer_mend.specs.Wants.{sum_below, reads_in_all, asked_of, reads_of_want}
use Rattle.least.specs.Wants.{reads_of_file}
use Rattle.answer_mend.specs.Mending.{first_lines, sheet_remaining, mended_text, changes_text, mend_verdict}
use Rattle.demands.proofs.Canonical.{number_text}
use Rattle.promises.proofs.Same.{fair_wants, empty_is, g, below, wants_number, files_number, tail_same, body_same, wants_same, named, counted, remain, old_sheet_lem, new_sheet}

-- The reads of all lines are the total of their counts.
sum_front : (value : ℕ → ℕ) (n : ℕ) → sum_below value (suc n) ≡ value 0 + sum_below (λ i. value (suc i)) n
unfolding sum_below
sum_front value zero = omega arith
sum_front value (suc n) = omega (arith, sum_front value n)

pub reads_total : (counts : List ℕ) → reads_in_all counts ≡ total counts
unfolding reads_in_all sum_below
reads_total [] = refl
reads_total (c ∷ counts) = sum_front (λ i. get_or (c ∷ counts) i 0) (length counts) ∙ ap (λ n. c + n) (reads_total counts)

-- So of those of one file.
pub reads_by_file : (files counts : List ℕ) → length files ≡ length counts → (f : ℕ) → reads_of_want files counts f ≡ reads_of_file files counts f
unfolding reads_of_want reads_of_file sum_below
reads_by_file [] counts e f = refl
reads_by_file (g ∷ files) [] e f = absurd (omega arith)
reads_by_file (g ∷ files) (c ∷ counts) e f =
    sum_front (λ i. asked_of f (get_or (g ∷ files) i 0) (get_or (c ∷ counts) i 0)) (length files) ∙ ap (λ n. cond (eqb g f) c 0 + n) (reads_by_file files counts (omega arith) f)

-- The price that an empty one means has five digits.
pub empty_price_lem : decimal empty_turn ≡ bytes "12000"
unfolding is_number value_from all_of
empty_price_lem = number_text (bytes "12000") refl

third_long : (above price back : List ℕ) → length (above ++ (line turn_key price ++ back)) ≡ length above + (6 + length price + length back)
third_long above price back =
    let a = length-append above (line turn_key price ++ back) in
    let b = length-append (line turn_key price) back in
    let c = length-append (turn_key ++ price) (line_feed ∷ []) in
    let d = length-append turn_key price in
    omega (arith, a, b, c, d)

module _ (sheet : List ℕ) (good : refuses (sheet_verdict sheet) ≡ false) (fair : refuses (judge_of (sheet_run sheet)) ≡ false) (least : says_sweep sheet ≡ false) where
  described : first_bad_loose sheet ≡ 0
  unfolding first_bad_loose first_bad_loose_top first_bad_loose_below loose_end end_text
  described =
      let lines = g sheet good (fair_wants sheet fair) least in
      let wants : is_number_line wants_key (line_of (loose_wants_text sheet)) ≡ true = ap (λ t. is_number_line wants_key (line_of t)) (tail_same sheet good (fair_wants sheet fair) least) ∙ wants_number sheet good (fair_wants sheet fair) least in
      let end : loose_end sheet ≡ [] = rw (wants_same sheet good (fair_wants sheet fair) least, body_same sheet good (fair_wants sheet fair) least) (below sheet good (fair_wants sheet fair) least).1.1 in
      rw (lines.tape, lines.head, lines.turn, lines.rule, files_number sheet good (fair_wants sheet fair) least, wants, end)

  few : length (sheet_remaining sheet) ≤ most_wants
  few = rw (remain sheet good (fair_wants sheet fair) least, named sheet good (fair_wants sheet fair) least) (accepted_run (sheet_run sheet) fair).wants.few

  reads : reads_in_all (wanted_counts sheet) ≤ most_reads
  reads = rw (reads_total (wanted_counts sheet), counted sheet good (fair_wants sheet fair) least) (accepted_run (sheet_run sheet) fair).wants.reads

  pub taken : (out notes : List ℕ) → length (mended_text sheet) ≤ longest_sheet → length (mended_text sheet) ≤ length out → length (changes_text sheet) ≤ length notes → mend_verdict sheet out notes ≡ accepted
  unfolding mend_verdict loose_verdict
  taken out notes fits row list =
      rw (
        le-ltb longest_sheet (length sheet) (short_sheet sheet good),
        described,
        le-ltb most_wants (length (sheet_remaining sheet)) few,
        le-ltb most_reads (reads_in_all (wanted_counts sheet)) reads,
        le-ltb longest_sheet (length (mended_text sheet)) fits,
        le-ltb (length out) (length (mended_text sheet)) row,
        le-ltb (length notes) (length (changes_text sheet)) list,
      )

  pub five_longer : price_left_out sheet ≡ true → length (mended_text sheet) ≡ length sheet + 5
  unfolding price_left_out sheet_turn_with turn_with
  five_longer out =
      let none = empty_is (value_text turn_key (line_after 2 sheet)) out in
      let price : decimal (sheet_turn sheet) ≡ bytes "12000" = rw out empty_price_lem in
      let new = ap length (new_sheet sheet good (fair_wants sheet fair) least) ∙ third_long (first_lines 2 sheet) (decimal (sheet_turn sheet)) (after_lines 3 sheet) in
      let old = ap length (old_sheet_lem sheet good (fair_wants sheet fair) least) ∙ third_long (first_lines 2 sheet) (value_text turn_key (line_after 2 sheet)) (after_lines 3 sheet) in
      omega (arith, new, old, ap length price, ap length none)
