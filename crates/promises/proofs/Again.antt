-- The mended sheet read again, line by line.
use Prim.Native.Nat.{ℕ, zero, suc, ◌+◌, ◌-◌, ◌^◌, ◌≤◌, ◌<◌}
use mathlib.Core.Path.{◌≡◌, refl, ap, sym, ◌∙◌}
use mathlib.Core.Bool.{Bool, true, false, true≢false, not, cond, ◌&&◌, ◌||◌, or-true}
use mathlib.Core.List.{List, [], ◌∷◌, ◌++◌, append_assoc, append-nil}
use native.Mathlib.Omega.{arith}
use lib.ListN.{length, take, drop, get_or}
use lib.Dec.{eqb, ltb}
use borrow.Author.Tests.{not-false, ltb-true, ltb-false}
use Rattle.refusals.specs.Refusals.{first_where}
use Rattle.runs.specs.Run.{most_wants, most_reads}
use Rattle.runs.proofs.Search.{first_all, first_here, first_zero}
use Rattle.text_bytes.specs.Text.{line_feed, comma, has, before, behind, is_empty, is_number, is_name, is_digit, leading_zero, all_of, starts_with, decimal, value_of}
use Rattle.text_bytes.proofs.Bytes.{and_true_both, not_empty}
use Rattle.text_bytes.proofs.Decimals.{decimal_without, decimal_some, decimal_value, decimal_number}
use Rattle.text_lines.specs.Lines.{line_of, after_lines, line_after, value_text, is_number_line, number_behind, is_pair, is_pair_line, first_in, second_in, is_triple, is_triple_line, first_bad_of, each_of, lines_before}
use Rattle.sheet_reader.specs.Lines.{tape_key, head_key, turn_key, rule_key, least_text, files_key, file_key, wants_key, want_key, is_tape_line, is_turn_line, turn_with, empty_turn, is_rule_line, names_sweep}
use Rattle.sheet_reader.specs.Sheet.{longest_sheet, most_sheet_files, sheet_turn, sheet_turn_with, says_sweep, sheet_files, file_text, unless, first_some}
use Rattle.text_pages.specs.Printing.{line, number_line, pair_lines}
use Rattle.sheet_writer.proofs.Reread.{line_first, line_behind_lem, key_begins, key_value, number_back, value_back, pairs_behind, pairs_good, firsts_back, seconds_back}
use Rattle.sheet_loose.specs.Loose.{loose_files, loose_wants_text, loose_want_text, loose_wants, loose_end, wants_said, price_left_out, first_bad_loose_top, first_bad_loose_below, first_bad_loose, wanted_files, wanted_counts}
use Rattle.sheet_loose.proofs.Wants.{lines_good, want_lines_good}
use Rattle.sheet_reader.proofs.Rows.{length_each}
use Rattle.answer_mend.specs.declared.wants.Fate.TheVariants.{Stays}
use Rattle.answer_mend.specs.Wants.{sum_below, enter, remaining, reads_in_all, asked_of, reads_of_want, reads_each, fate_of}
use Rattle.answer_mend.proofs.Counting.{sum_below_lem, asked_within}
use Rattle.answer_mend.proofs.Texts.{each_long, each_at, few_files}
use Rattle.answer_mend.specs.Mending.{first_lines, sheet_remaining, sheet_reads, mended_text, fate_lines}
use Rattle.promises.proofs.Copied.{Ended, ended_all, copied_after, copied_line, copied_again}

-- A line that is not empty has its LF.
line_ended : (text : List ℕ) → (line_of text ≡ [] → ⊥) → has line_feed text ≡ true
unfolding line_of
line_ended text some = go (has line_feed text) refl
  where
    go : (b : Bool) → has line_feed text ≡ b → has line_feed text ≡ true
    go true e = e
    go false e = absurd (some (rw e))

key_ended : (k : ℕ) (key text : List ℕ) → starts_with (k ∷ key) (line_of text) ≡ true → has line_feed text ≡ true
unfolding starts_with
key_ended k key text begun = line_ended text (λ e. true≢false (sym begun ∙ ap (starts_with (k ∷ key)) e))

-- So many lines that pass a test, and one that does not, are so many that come.
pub come_so_many : (test : List ℕ → Bool) (most n : ℕ) (text : List ℕ) → n ≤ most → ((i : ℕ) → i < n → test (line_after i text) ≡ true) → (n < most → test (line_after n text) ≡ false)
    → lines_before most (first_bad_of test most text) ≡ n
unfolding first_bad_of
come_so_many test most n text l good bad = go (ltb n most) refl
  where
    no : ℕ → Bool
    no i = not (test (line_after i text))

    first : first_where no n ≡ 0
    first = first_all no n (λ i m. ap not (good i m))

    go : (t : Bool) → ltb n most ≡ t → lines_before most (first_where no most) ≡ n
    go true t =
        let m = ltb-true n most t in
        let found : first_where no most ≡ n + 1 = first_here no n most first (ap not (bad m)) m in
        let e : n + 1 ≡ suc n = omega arith in
        rw (found, e)
    go false t =
        let e : n ≡ most = omega (arith, ltb-false n most t) in
        let none : first_where no most ≡ 0 = rw e at first in
        rw none (sym e)

-- Three numbers behind one key are not a number behind another.
pub not_file : (text : List ℕ) → is_triple_line file_key (wants_key ++ text) ≡ false
unfolding is_triple_line starts_with
not_file text = refl

pub not_want : is_pair_line want_key (line_of []) ≡ false
unfolding is_pair_line starts_with line_of has
not_want = refl

plain_turn : has line_feed turn_key ≡ false
unfolding has
plain_turn = refl

plain_rule : has line_feed rule_key ≡ false
unfolding has
plain_rule = refl

plain_least : has line_feed least_text ≡ false
unfolding has
plain_least = refl

plain_files : has line_feed files_key ≡ false
unfolding has
plain_files = refl

plain_wants : has line_feed wants_key ≡ false
unfolding has
plain_wants = refl

plain_want : has line_feed want_key ≡ false
unfolding has
plain_want = refl

rule_back : is_rule_line (rule_key ++ least_text) ≡ true
unfolding is_rule_line starts_with
rule_back = refl

turn_back : (n : ℕ) → n < 2 ^ 64 → is_turn_line (turn_key ++ decimal n) ≡ true
unfolding is_turn_line
turn_back n l = rw (key_begins turn_key (decimal n), key_value turn_key (decimal n), decimal_number n l, or-true)

-- A number is below 2 to the 64.
number_small : (text : List ℕ) → is_number text ≡ true → value_of text < 2 ^ 64
unfolding is_number
number_small text e =
    ltb-true (value_of text) (2 ^ 64) (and_true_both (not (is_empty text) && not (leading_zero text) && all_of is_digit text) (ltb (value_of text) (2 ^ 64)) e).1

turn_small : (line : List ℕ) → is_turn_line line ≡ true → turn_with empty_turn line < 2 ^ 64
unfolding is_turn_line turn_with
turn_small line e = go (is_empty (value_text turn_key line)) refl (and_true_both (starts_with turn_key line) (is_empty (value_text turn_key line) || is_number (value_text turn_key line)) e).1
  where
    go : (b : Bool) → is_empty (value_text turn_key line) ≡ b → (is_empty (value_text turn_key line) || is_number (value_text turn_key line)) ≡ true → cond (is_empty (value_text turn_key line)) empty_turn (number_behind turn_key line) < 2 ^ 64
    go true b f = rw b (ltb-true empty_turn (2 ^ 64) refl)
    go false b f = rw b (number_small (value_text turn_key line) (rw b at f))

first_small : (line : List ℕ) → is_pair_line want_key line ≡ true → first_in want_key line < 2 ^ 64
unfolding is_pair_line is_pair
first_small line e =
    let pair = (and_true_both (starts_with want_key line) (is_number (before comma (value_text want_key line)) && is_number (behind comma (value_text want_key line))) e).1 in
    number_small (before comma (value_text want_key line)) (and_true_both (is_number (before comma (value_text want_key line))) (is_number (behind comma (value_text want_key line))) pair).0

-- Every file of a row is below a number.
abbrev AllBelow : ℕ → List ℕ → Type 0
AllBelow m [] = Unit {0}
AllBelow m (f ∷ files) = (f < m) × AllBelow m files

all_at : (m : ℕ) → 0 < m → (files : List ℕ) → AllBelow m files → (i : ℕ) → get_or files i 0 < m
all_at m some [] p i = some
all_at m some (f ∷ files) p zero = p.0
all_at m some (f ∷ files) p (suc i) = all_at m some files p.1 i

all_last : (m : ℕ) (files : List ℕ) (f : ℕ) → AllBelow m files → f < m → AllBelow m (files ++ (f ∷ []))
all_last m [] f p l = (l, tt)
all_last m (g ∷ files) f p l = (p.0, all_last m files f p.1 l)

all_each : (m : ℕ) (value : ℕ → ℕ) (n : ℕ) → ((i : ℕ) → i < n → value i < m) → AllBelow m (each_of value n)
unfolding each_of
all_each m value zero h = tt
all_each m value (suc n) h = all_last m (each_of value n) (value n) (all_each m value n (λ i l. h i (omega arith))) (h n (omega arith))

all_enter : (m f : ℕ) (files : List ℕ) → f < m → AllBelow m files → AllBelow m (enter f files)
unfolding enter
all_enter m f [] l p = (l, tt)
all_enter m f (g ∷ files) l p = go (all_enter m g files p.0 p.1) (all_enter m f files l p.1) (eqb f g) (ltb f g)
  where
    go : AllBelow m (enter g files) → AllBelow m (enter f files) → (s t : Bool) → AllBelow m (cond s (g ∷ files) (cond t f g ∷ enter (cond t g f) files))
    go low high true t = p
    go low high false true = (l, low)
    go low high false false = (p.0, high)

all_remaining : (m : ℕ) (files counts : List ℕ) → ((i : ℕ) → get_or files i 0 < m) → (n : ℕ) → AllBelow m (remaining files counts n)
unfolding remaining
all_remaining m files counts h zero = tt
all_remaining m files counts h (suc n) = go (all_remaining m files counts h n) (eqb (get_or counts n 0) 0)
  where
    go : AllBelow m (remaining files counts n) → (t : Bool) → AllBelow m (cond t (remaining files counts n) (enter (get_or files n 0) (remaining files counts n)))
    go p true = p
    go p false = all_enter m (get_or files n 0) (remaining files counts n) (h n) p

pub none_more : (n : ℕ) (ns : List ℕ) → first_some (n ∷ ns) ≡ 0 → (n ≡ 0) × (first_some ns ≡ 0)
none_more zero ns e = (refl, e)
none_more (suc n) ns e = absurd (omega (arith, e))

pub line_good : (b : Bool) (line : ℕ) → unless b (suc line) ≡ 0 → b ≡ true
line_good true line e = refl
line_good false line e = absurd (omega (arith, e))

pub regroup : (a b c d e f g : List ℕ) → a ++ b ++ c ++ d ++ e ++ f ++ g ≡ a ++ (b ++ (c ++ (d ++ (e ++ (f ++ g)))))
regroup a b c d e f g = simp append_assoc

-- Wants gathered once more, and lines that all stay.
pub remaining_once : (t row asked : List ℕ) → wanted_files t ≡ row → wanted_counts t ≡ asked → remaining row asked (length row) ≡ row → sheet_remaining t ≡ row
unfolding sheet_remaining
remaining_once t row asked e f g = rw (e, f) g

pub reads_once : (t row asked : List ℕ) → wanted_files t ≡ row → wanted_counts t ≡ asked → sheet_remaining t ≡ row → reads_each row asked row ≡ asked → sheet_reads t ≡ asked
unfolding sheet_reads
reads_once t row asked e f g h = rw (g, e, f) h

pub fates_none : (above : ℕ) (files counts : List ℕ) (n : ℕ) → ((i : ℕ) → i < n → fate_of files counts i ≡ Stays) → fate_lines above files counts n ≡ []
unfolding fate_lines
fates_none above files counts zero h = refl
fates_none above files counts (suc n) h = rw (fates_none above files counts n (λ i l. h i (omega arith)), h n (omega arith))

-- The mended sheet of one whose lines are as described, with at most 64 wants and 1,024 reads.
module _ (sheet : List ℕ) (good : first_bad_loose sheet ≡ 0) (few : length (sheet_remaining sheet) ≤ most_wants) (reads : reads_in_all (wanted_counts sheet) ≤ most_reads) where
  abbrev row : List ℕ
  row = sheet_remaining sheet

  abbrev asked : List ℕ
  asked = sheet_reads sheet

  abbrev count : ℕ
  count = loose_files sheet

  abbrev rule-on : List ℕ
  rule-on = unless (is_rule_line (line_after 3 sheet)) 4 ∷ unless (is_number_line files_key (line_after 4 sheet)) 5 ∷ []

  abbrev head-on : List ℕ
  head-on = unless (is_number_line head_key (line_after 1 sheet)) 2 ∷ unless (is_turn_line (line_after 2 sheet)) 3 ∷ rule-on

  tops : (is_tape_line (line_after 0 sheet) ≡ true) × ((is_number_line head_key (line_after 1 sheet) ≡ true) × (is_turn_line (line_after 2 sheet) ≡ true))
  unfolding first_bad_loose first_bad_loose_top
  tops =
      let upper = (none_more (first_bad_loose_top sheet) (first_bad_loose_below sheet ∷ []) good).0 in
      let a = none_more (unless (is_tape_line (line_after 0 sheet)) 1) head-on upper in
      let b = none_more (unless (is_number_line head_key (line_after 1 sheet)) 2) (unless (is_turn_line (line_after 2 sheet)) 3 ∷ rule-on) a.1 in
      let c = none_more (unless (is_turn_line (line_after 2 sheet)) 3) rule-on b.1 in
      (line_good (is_tape_line (line_after 0 sheet)) 0 a.0, (line_good (is_number_line head_key (line_after 1 sheet)) 1 b.0, line_good (is_turn_line (line_after 2 sheet)) 2 c.0))

  price_small : sheet_turn sheet < 2 ^ 64
  unfolding sheet_turn_with
  price_small = turn_small (line_after 2 sheet) tops.1.1

  -- The numbers of the wants are small.
  files_small : (i : ℕ) → get_or (wanted_files sheet) i 0 < 2 ^ 64
  unfolding wanted_files first_bad_of
  files_small =
      all_at (2 ^ 64) (ltb-true 0 (2 ^ 64) refl) (wanted_files sheet)
      (all_each (2 ^ 64) (λ i. first_in want_key (line_after i (loose_want_text sheet))) (loose_wants sheet)
      (λ i l. first_small (line_after i (loose_want_text sheet)) (not-false (is_pair_line want_key (line_after i (loose_want_text sheet))) (first_zero (λ j. not (is_pair_line want_key (line_after j (loose_want_text sheet)))) (loose_wants sheet) (want_lines_good sheet) i l))))

  row_small : (i : ℕ) → i < length row → get_or row i 0 < 2 ^ 64
  unfolding sheet_remaining
  row_small i l = all_at (2 ^ 64) (ltb-true 0 (2 ^ 64) refl) row (all_remaining (2 ^ 64) (wanted_files sheet) (wanted_counts sheet) files_small (length (wanted_files sheet))) i

  pub even : length row ≡ length asked
  unfolding sheet_reads
  even = each_long (wanted_files sheet) (wanted_counts sheet) row

  pub lines_even : length (wanted_files sheet) ≡ length (wanted_counts sheet)
  unfolding wanted_files wanted_counts
  lines_even = length_each (λ i. first_in want_key (line_after i (loose_want_text sheet))) (loose_wants sheet) ∙ sym (length_each (λ i. second_in want_key (line_after i (loose_want_text sheet))) (loose_wants sheet))

  reads_small_here : (x : ℕ) → reads_of_want (wanted_files sheet) (wanted_counts sheet) x ≤ most_reads
  unfolding reads_of_want reads_in_all
  reads_small_here x =
      let below = sum_below_lem (λ i. asked_of x (get_or (wanted_files sheet) i 0) (get_or (wanted_counts sheet) i 0)) (λ i. get_or (wanted_counts sheet) i 0) (λ i. asked_within x (get_or (wanted_files sheet) i 0) (get_or (wanted_counts sheet) i 0)) (length (wanted_files sheet)) in
      omega (arith, below, ap (sum_below (λ i. get_or (wanted_counts sheet) i 0)) lines_even, reads)

  asked_small : (i : ℕ) → i < length row → get_or asked i 0 < 2 ^ 64
  unfolding sheet_reads
  asked_small i l =
      let is = each_at (wanted_files sheet) (wanted_counts sheet) row i l in
      let big : most_reads < 2 ^ 64 = ltb-true most_reads (2 ^ 64) refl in
      omega (arith, is, reads_small_here (get_or row i 0), big)

  few_table : count ≤ most_sheet_files
  few_table = few_files sheet

  -- Its parts, from the back.
  abbrev P : List ℕ
  P = pair_lines want_key row asked

  abbrev r₆ : List ℕ
  r₆ = number_line wants_key (length row) ++ P

  abbrev r₅ : List ℕ
  r₅ = first_lines count (file_text sheet) ++ r₆

  abbrev r₄ : List ℕ
  r₄ = number_line files_key count ++ r₅

  abbrev r₃ : List ℕ
  r₃ = line rule_key least_text ++ r₄

  abbrev r₂ : List ℕ
  r₂ = number_line turn_key (sheet_turn sheet) ++ r₃

  mended_is : mended_text sheet ≡ first_lines 2 sheet ++ r₂
  unfolding mended_text
  mended_is =
      regroup (first_lines 2 sheet) (number_line turn_key (sheet_turn sheet)) (line rule_key least_text) (number_line files_key count) (first_lines count (file_text sheet))
      (number_line wants_key (length row)) P

  upper_ended : Ended 2 sheet
  unfolding is_tape_line is_number_line after_lines
  upper_ended = (
    key_ended 116 (drop 1 tape_key) sheet (and_true_both (starts_with tape_key (line_after 0 sheet)) (is_name (value_text tape_key (line_after 0 sheet))) tops.0).0,
    (key_ended 104 (drop 1 head_key) (behind line_feed sheet) (and_true_both (starts_with head_key (line_after 1 sheet)) (is_number (value_text head_key (line_after 1 sheet))) tops.1.0).0, tt),
  )

  flat : (n : ℕ) → has line_feed (decimal n) ≡ false
  flat n = decimal_without line_feed n refl

  text₂ : after_lines 2 (mended_text sheet) ≡ r₂
  text₂ = ap (after_lines 2) mended_is ∙ copied_after 2 sheet r₂ upper_ended

  pub line₀ : line_after 0 (mended_text sheet) ≡ line_after 0 sheet
  line₀ = ap (line_after 0) mended_is ∙ copied_line 2 sheet r₂ upper_ended 0 (omega arith)

  pub line₁ : line_after 1 (mended_text sheet) ≡ line_after 1 sheet
  line₁ = ap (line_after 1) mended_is ∙ copied_line 2 sheet r₂ upper_ended 1 (omega arith)

  pub upper_again : first_lines 2 (mended_text sheet) ≡ first_lines 2 sheet
  upper_again = ap (first_lines 2) mended_is ∙ copied_again 2 sheet r₂ upper_ended

  pub line₂ : line_after 2 (mended_text sheet) ≡ turn_key ++ decimal (sheet_turn sheet)
  line₂ = ap line_of text₂ ∙ line_first turn_key (decimal (sheet_turn sheet)) r₃ plain_turn (flat (sheet_turn sheet))

  text₃ : after_lines 3 (mended_text sheet) ≡ r₃
  unfolding after_lines
  text₃ = ap (behind line_feed) text₂ ∙ line_behind_lem turn_key (decimal (sheet_turn sheet)) r₃ plain_turn (flat (sheet_turn sheet))

  pub line₃ : line_after 3 (mended_text sheet) ≡ rule_key ++ least_text
  line₃ = ap line_of text₃ ∙ line_first rule_key least_text r₄ plain_rule plain_least

  text₄ : after_lines 4 (mended_text sheet) ≡ r₄
  unfolding after_lines
  text₄ = ap (behind line_feed) text₃ ∙ line_behind_lem rule_key least_text r₄ plain_rule plain_least

  line₄ : line_after 4 (mended_text sheet) ≡ files_key ++ decimal count
  line₄ = ap line_of text₄ ∙ line_first files_key (decimal count) r₅ plain_files (flat count)

  pub text₅ : file_text (mended_text sheet) ≡ r₅
  unfolding after_lines file_text
  text₅ = ap (behind line_feed) text₄ ∙ line_behind_lem files_key (decimal count) r₅ plain_files (flat count)

  small_count : count < 2 ^ 64
  small_count = let big : most_sheet_files < 2 ^ 64 = ltb-true most_sheet_files (2 ^ 64) refl in omega (arith, few_table, big)

  small_wants : length row < 2 ^ 64
  small_wants = let big : most_wants < 2 ^ 64 = ltb-true most_wants (2 ^ 64) refl in omega (arith, few, big)

  -- The first lines' values.
  pub turn_again : sheet_turn (mended_text sheet) ≡ sheet_turn sheet
  unfolding sheet_turn_with turn_with
  turn_again =
      rw (line₂, key_value turn_key (decimal (sheet_turn sheet)), not_empty (decimal (sheet_turn sheet)) (decimal_some (sheet_turn sheet) (sheet_turn sheet)))
      (decimal_value (sheet_turn sheet))

  pub price_there : price_left_out (mended_text sheet) ≡ false
  unfolding price_left_out
  price_there = rw (line₂, key_value turn_key (decimal (sheet_turn sheet))) (not_empty (decimal (sheet_turn sheet)) (decimal_some (sheet_turn sheet) (sheet_turn sheet)))

  pub rule_there : says_sweep (mended_text sheet) ≡ false
  unfolding says_sweep names_sweep starts_with
  rule_there = rw line₃

  pub files_said : sheet_files (mended_text sheet) ≡ count
  unfolding sheet_files
  files_said = ap (number_behind files_key) line₄ ∙ value_back files_key count small_count

  -- The file lines.
  table_good : (i : ℕ) → i < count → is_triple_line file_key (line_after i (file_text sheet)) ≡ true
  unfolding loose_files first_bad_of
  table_good i l =
      not-false (is_triple_line file_key (line_after i (file_text sheet)))
      (first_zero (λ j. not (is_triple_line file_key (line_after j (file_text sheet)))) count (lines_good (is_triple_line file_key) most_sheet_files (file_text sheet)) i l)

  pub table_ended : Ended count (file_text sheet)
  unfolding is_triple_line
  table_ended =
      ended_all count (file_text sheet)
      (λ i l. key_ended 102 (drop 1 file_key) (after_lines i (file_text sheet)) (and_true_both (starts_with file_key (line_after i (file_text sheet))) (is_triple (value_text file_key (line_after i (file_text sheet)))) (table_good i l)).0)

  text₆ : after_lines count r₅ ≡ r₆
  text₆ = copied_after count (file_text sheet) r₆ table_ended

  line₆ : line_after count r₅ ≡ wants_key ++ decimal (length row)
  line₆ = ap line_of text₆ ∙ line_first wants_key (decimal (length row)) P plain_wants (flat (length row))

  pub files_again : loose_files (mended_text sheet) ≡ count
  unfolding loose_files
  files_again =
      ap (λ t. lines_before most_sheet_files (first_bad_of (is_triple_line file_key) most_sheet_files t)) text₅
      ∙ come_so_many (is_triple_line file_key) most_sheet_files count r₅ few_table
      (λ i l. ap (is_triple_line file_key) (copied_line count (file_text sheet) r₆ table_ended i l) ∙ table_good i l)
      (λ m. ap (is_triple_line file_key) line₆ ∙ not_file (decimal (length row)))

  pub table_again : first_lines (loose_files (mended_text sheet)) (file_text (mended_text sheet)) ≡ first_lines count (file_text sheet)
  table_again = rw (files_again, text₅) (copied_again count (file_text sheet) r₆ table_ended)

  -- The wants.
  tail_again : loose_wants_text (mended_text sheet) ≡ r₆
  unfolding loose_wants_text
  tail_again = rw (files_again, text₅) text₆

  pub wants_said_lem : wants_said (mended_text sheet) ≡ length row
  unfolding wants_said
  wants_said_lem = ap (λ t. number_behind wants_key (line_of t)) tail_again ∙ ap (number_behind wants_key) (line_first wants_key (decimal (length row)) P plain_wants (flat (length row))) ∙ value_back wants_key (length row) small_wants

  body_again : loose_want_text (mended_text sheet) ≡ P
  unfolding loose_want_text after_lines
  body_again = ap (behind line_feed) tail_again ∙ line_behind_lem wants_key (decimal (length row)) P plain_wants (flat (length row))

  pairs_none : first_bad_of (is_pair_line want_key) (length row) P ≡ 0
  pairs_none = rw (append-nil P) at (pairs_good want_key plain_want [] row asked even row_small asked_small)

  pairs_end : after_lines (length row) P ≡ []
  pairs_end = rw (append-nil P) at (pairs_behind want_key plain_want [] row asked even)

  pub wants_again : loose_wants (mended_text sheet) ≡ length row
  unfolding loose_wants first_bad_of
  wants_again =
      ap (λ t. lines_before longest_sheet (first_bad_of (is_pair_line want_key) longest_sheet t)) body_again
      ∙ come_so_many (is_pair_line want_key) longest_sheet (length row) P (omega (arith, few))
      (λ i l. not-false (is_pair_line want_key (line_after i P)) (first_zero (λ j. not (is_pair_line want_key (line_after j P))) (length row) pairs_none i l))
      (λ m. ap (λ t. is_pair_line want_key (line_of t)) pairs_end ∙ not_want)

  pub named_again : wanted_files (mended_text sheet) ≡ row
  unfolding wanted_files
  named_again = rw (wants_again, body_again) (rw (append-nil P) at (firsts_back want_key plain_want [] row asked even))

  pub asked_again : wanted_counts (mended_text sheet) ≡ asked
  unfolding wanted_counts
  asked_again = rw (wants_again, body_again) (rw (append-nil P) at (seconds_back want_key plain_want [] row asked even))

  end_again : loose_end (mended_text sheet) ≡ []
  unfolding loose_end
  end_again = rw (wants_again, body_again) pairs_end

  -- All of it is as described.
  pub good_again : first_bad_loose (mended_text sheet) ≡ 0
  unfolding first_bad_loose first_bad_loose_top first_bad_loose_below
  good_again =
      let turn : is_turn_line (line_after 2 (mended_text sheet)) ≡ true = ap is_turn_line line₂ ∙ turn_back (sheet_turn sheet) price_small in
      let rule : is_rule_line (line_after 3 (mended_text sheet)) ≡ true = ap is_rule_line line₃ ∙ rule_back in
      let files : is_number_line files_key (line_after 4 (mended_text sheet)) ≡ true = ap (is_number_line files_key) line₄ ∙ number_back files_key count small_count in
      let wants : is_number_line wants_key (line_of (loose_wants_text (mended_text sheet))) ≡ true
      = ap (λ t. is_number_line wants_key (line_of t)) tail_again ∙ ap (is_number_line wants_key) (line_first wants_key (decimal (length row)) P plain_wants (flat (length row))) ∙ number_back wants_key (length row) small_wants in
      rw (line₀, tops.0, line₁, tops.1.0, turn, rule, files, wants, end_again)
