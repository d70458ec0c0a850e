-- Reading the sheet of a run that a sheet can hold, so of every accepted run within the sheet's limits, gives that run, the name included; and that sheet is
-- never too long.
use Prim.Native.Nat.{ℕ, zero, suc, ◌+◌, ◌*◌, ◌^◌, ◌≤◌, ◌<◌}
use mathlib.Core.Path.{◌≡◌, refl, ap, sym, ◌∙◌}
use mathlib.Core.Bool.{true, false, cond, ◌&&◌, ◌||◌}
use mathlib.Core.List.{List, [], ◌∷◌, ◌++◌, append_assoc, append-nil}
use native.Mathlib.Omega.{arith}
use lib.ListN.{length, get_or, length-append}
use lib.Dec.{ltb}
use borrow.Author.Tests.{le-ltb, ltb-false}
use Rattle.refusals.specs.Refusals.{is_refusal, accepted}
use Rattle.runs.specs.Run.{Run, total, most_wants, most_aggregates}
use Rattle.runs.specs.Judging.{judge_of, bad_place, bad_number, returns}
use Rattle.runs.proofs.Search.{first_zero, or_false_both}
use Rattle.runs.proofs.Accepted.{GoodFile, good_file}
use Rattle.runs.proofs.Judged.{accepted_run}
use Rattle.text_bytes.specs.Text.{line_feed, has, behind, is_name, is_name_byte, between, all_of, is_empty, starts_with, is_number, decimal}
use Rattle.text_lines.specs.Lines.{line_of, after_lines, line_after, value_text, is_number_line, number_behind, is_pair_line, first_in, second_in, is_triple_line, middle_in, third_in, first_bad_of, each_of}
use Rattle.sheet_reader.specs.Lines.{tape_key, head_key, turn_key, rule_key, least_text, files_key, file_key, wants_key, want_key, is_tape_line, is_count_line, is_turn_line, turn_with, empty_turn, turn_in, is_rule_line, names_sweep}
use Rattle.sheet_reader.specs.Sheet.{longest_sheet, most_sheet_files, sheet_head, sheet_turn_with, sheet_turn, says_sweep, sheet_files, file_text, wants_text, sheet_wants, want_text, end_text, first_bad_top, first_bad_below, first_bad_line, sheet_run, sheet_name}
use Rattle.sheet_reader.specs.Reading.{sheet_verdict, rule_verdict, read_name}
use Rattle.text_pages.specs.Printing.{line, number_line, pair_text, pair_line, triple_text, triple_line, pair_lines, triple_lines}
use Rattle.sheet_writer.specs.Writing.{top_text, sheet_text}
use Rattle.text_bytes.proofs.Bytes.{and_true_both, not_empty}
use Rattle.text_pages.proofs.Pages.{decimal_digits, decimal_short}
use Rattle.text_bytes.proofs.Decimals.{has_none, decimal_without, decimal_some, decimal_number, decimal_value}
use Rattle.sheet_writer.proofs.Sheets.{name_length}
use Rattle.sheet_writer.proofs.Reread.{line_first, line_behind_lem, key_begins, key_value, number_back, value_back, count_back, pairs_behind, pairs_good, firsts_back, seconds_back, triples_behind, triples_good, lefts_back, middles_back, thirds_back}

-- Every entry of a row is below a number: 2 to the 64, or the power of ten that says how many digits it has.
abbrev pub RowBelow : ℕ → List ℕ → Type 0
RowBelow most row = (i : ℕ) → i < length row → get_or row i 0 < most

abbrev pub SmallRow : List ℕ → Type 0
SmallRow row = RowBelow (2 ^ 64) row

-- A run that a sheet can hold. A place has at most 13 digits, an aggregate number at most 4.
pub record SmallRun (run : Run) : Type 0 where
  pub head : run.head < 2 ^ 64
  pub turn : run.turn < 2 ^ 64
  pub files : length run.starts ≤ most_sheet_files
  pub table : length run.starts ≡ length run.lengths
  pub numbered : length run.starts ≡ length run.aggregates
  pub wants : length run.numbers ≤ most_wants
  pub pairs : length run.numbers ≡ length run.counts
  pub starts : RowBelow (10 ^ 13) run.starts
  pub lengths : RowBelow (10 ^ 13) run.lengths
  pub aggregates : RowBelow (10 ^ 4) run.aggregates
  pub numbers : SmallRow run.numbers
  pub counts : SmallRow run.counts

entry_total : (row : List ℕ) (i : ℕ) → get_or row i 0 ≤ total row
entry_total [] i = omega arith
entry_total (x ∷ row) zero = omega arith
entry_total (x ∷ row) (suc i) = omega (arith, entry_total row i)

-- An aggregate number of an accepted run is within its limit.
number_fits : (aggregates : List ℕ) (i : ℕ) → bad_number aggregates i ≡ false → get_or aggregates i 0 ≤ most_aggregates
number_fits aggregates i e = ltb-false most_aggregates (get_or aggregates i 0) (or_false_both (ltb most_aggregates (get_or aggregates i 0)) (returns aggregates i) e).0

pub small_run : (run : Run) → is_refusal (judge_of run).refusal ≡ false → length run.starts ≤ most_sheet_files → SmallRun run
small_run run e few =
    let g = accepted_run run e in
    let file : (i : ℕ) → i < length run.starts → GoodFile run.starts run.lengths i = λ i l. good_file run.starts run.lengths i (first_zero (bad_place run.starts run.lengths) (length run.starts) g.files.table.sound i l) in
    record {
      head = omega (arith, g.start.near);
      turn = omega (arith, g.start.cheap);
      files = few;
      table = g.files.table.equal;
      numbered = g.files.rows;
      wants = g.wants.few;
      pairs = g.wants.equal;
      starts = λ i l. omega (arith, (file i l).ends);
      lengths = λ i l. omega (arith, (file i (omega (arith, g.files.table.equal))).ends);
      aggregates = λ i l. omega (arith, number_fits run.aggregates i (g.files.numbers i (omega (arith, g.files.rows))));
      numbers = λ i l. omega (arith, (g.wants.each i l).in_table, g.files.few);
      counts = λ i l. omega (arith, entry_total run.counts i, g.wants.reads);
    }

-- How long the lines are.
line_length : (key text : List ℕ) → length (line key text) ≡ length key + length text + 1
line_length key text = length-append (key ++ text) (line_feed ∷ []) ∙ rw (length-append key text)

pair_length : (key : List ℕ) (a b : ℕ) → a < 2 ^ 64 → b < 2 ^ 64 → length (pair_line key a b) ≤ length key + 42
pair_length key a b l m =
    let split = length-append (decimal a ++ (44 ∷ [])) (decimal b) in
    omega (arith, line_length key (pair_text a b), split, length-append (decimal a) (44 ∷ []), decimal_short a l, decimal_short b m)

pairs_length : (key xs ys : List ℕ) → length key ≤ 7 → SmallRow xs → SmallRow ys → length (pair_lines key xs ys) ≤ length xs * 49
unfolding pair_lines
pairs_length key [] ys k s t = omega arith
pairs_length key (a ∷ xs) [] k s t = omega arith
pairs_length key (a ∷ xs) (b ∷ ys) k s t =
    omega (
      arith,
      length-append (pair_line key a b) (pair_lines key xs ys),
      pair_length key a b (s 0 (omega arith)) (t 0 (omega arith)),
      pairs_length key xs ys k (λ i l. s (suc i) (omega arith)) (λ i l. t (suc i) (omega arith)),
    )

triple_length : (key : List ℕ) (a b c : ℕ) → a < 10 ^ 13 → b < 10 ^ 13 → c < 10 ^ 4 → length (triple_line key a b c) ≤ length key + 33
triple_length key a b c l m n =
    let pair = length-append (decimal a ++ (44 ∷ [])) (decimal b) in
    let front = length-append (pair_text a b) (44 ∷ []) in
    let whole = length-append (pair_text a b ++ (44 ∷ [])) (decimal c) in
    omega (arith, line_length key (triple_text a b c), whole, front, pair, length-append (decimal a) (44 ∷ []), decimal_digits a 12 l, decimal_digits b 12 m, decimal_digits c 3 n)

triples_length : (key xs ys zs : List ℕ) → length key ≤ 5 → RowBelow (10 ^ 13) xs → RowBelow (10 ^ 13) ys → RowBelow (10 ^ 4) zs → length (triple_lines key xs ys zs) ≤ length xs * 38
unfolding triple_lines
triples_length key [] ys zs k s t u = omega arith
triples_length key (a ∷ xs) [] zs k s t u = omega arith
triples_length key (a ∷ xs) (b ∷ ys) [] k s t u = omega arith
triples_length key (a ∷ xs) (b ∷ ys) (c ∷ zs) k s t u =
    omega (
      arith,
      length-append (triple_line key a b c) (triple_lines key xs ys zs),
      triple_length key a b c (s 0 (omega arith)) (t 0 (omega arith)) (u 0 (omega arith)),
      triples_length key xs ys zs k (λ i l. s (suc i) (omega arith)) (λ i l. t (suc i) (omega arith)) (λ i l. u (suc i) (omega arith)),
    )

regrouped : (a b c d e f g h : List ℕ) → a ++ b ++ c ++ d ++ e ++ f ++ g ++ h ≡ a ++ (b ++ (c ++ (d ++ (e ++ (f ++ (g ++ h))))))
regrouped a b c d e f g h = simp append_assoc

number_length : (key : List ℕ) (n : ℕ) → n < 2 ^ 64 → length (number_line key n) ≤ length key + 21
number_length key n l = omega (arith, line_length key (decimal n), decimal_short n l)

rule_length : length (line rule_key least_text) ≤ 11
rule_length = omega arith

sum_length : (a b c d e f g h : List ℕ) → length a ≤ 22 → length b ≤ 26 → length c ≤ 26 → length d ≤ 11 → length e ≤ 27 → length f ≤ 9728 → length g ≤ 27 → length h ≤ 3136
    → length (a ++ b ++ c ++ d ++ e ++ f ++ g ++ h) ≤ 16384
sum_length a b c d e f g h la lb lc ld le lf lg lh = simp length-append (omega arith)

-- The lines that have not one number alone.
name_back : (key name : List ℕ) → is_name name ≡ true → (starts_with key (key ++ name) && is_name (value_text key (key ++ name))) ≡ true
name_back key name e = rw (key_begins key name, key_value key name, e)

price_back : (key : List ℕ) (n : ℕ) → n < 2 ^ 64
    → (starts_with key (key ++ decimal n) && (is_empty (value_text key (key ++ decimal n)) || is_number (value_text key (key ++ decimal n)))) ≡ true
price_back key n l = rw (key_begins key (decimal n), key_value key (decimal n), not_empty (decimal n) (decimal_some n n), decimal_number n l)

price_value : (key : List ℕ) (n : ℕ) → cond (is_empty (value_text key (key ++ decimal n))) empty_turn (number_behind key (key ++ decimal n)) ≡ n
price_value key n = rw (key_value key (decimal n), not_empty (decimal n) (decimal_some n n), decimal_value n)

rule_test : is_rule_line (rule_key ++ least_text) ≡ true
unfolding is_rule_line starts_with
rule_test = refl

rule_kept : names_sweep (rule_key ++ least_text) ≡ false
unfolding names_sweep starts_with
rule_kept = refl

-- The sheet of a run, read again.
module _ (name : List ℕ) (run : Run) (named : is_name name ≡ true) (small : SmallRun run) where
  F : ℕ
  F = length run.starts

  W : ℕ
  W = length run.numbers

  -- What follows each of the first lines.
  rest₆ : List ℕ
  rest₆ = pair_lines want_key run.numbers run.counts

  rest₅ : List ℕ
  rest₅ = triple_lines file_key run.starts run.lengths run.aggregates ++ (number_line wants_key W ++ rest₆)

  rest₄ : List ℕ
  rest₄ = number_line files_key F ++ rest₅

  rest₃ : List ℕ
  rest₃ = line rule_key least_text ++ rest₄

  rest₂ : List ℕ
  rest₂ = number_line turn_key run.turn ++ rest₃

  rest₁ : List ℕ
  rest₁ = number_line head_key run.head ++ rest₂

  text : List ℕ
  text = sheet_text name run

  text_is_here : text ≡ line tape_key name ++ rest₁
  unfolding text sheet_text top_text rest₁ rest₂ rest₃ rest₄ rest₅ rest₆ F W
  text_is_here =
      regrouped (line tape_key name) (number_line head_key run.head) (number_line turn_key run.turn) (line rule_key least_text)
      (number_line files_key F) (triple_lines file_key run.starts run.lengths run.aggregates) (number_line wants_key W) rest₆

  -- The lines hold no LF of their own.
  name_flat_here : has line_feed name ≡ false
  unfolding is_name
  name_flat_here = has_none is_name_byte line_feed refl name (and_true_both (between 1 16 (length name)) (all_of is_name_byte name) named).1

  rule_flat_here : has line_feed least_text ≡ false
  unfolding has
  rule_flat_here = refl

  number_flat_here : (n : ℕ) → has line_feed (decimal n) ≡ false
  number_flat_here n = decimal_without line_feed n refl

  -- What is left after each line.
  after₁ : after_lines 1 text ≡ rest₁
  unfolding after_lines has
  after₁ = ap (behind line_feed) text_is_here ∙ line_behind_lem tape_key name rest₁ refl name_flat_here

  after₂ : after_lines 2 text ≡ rest₂
  unfolding after_lines rest₁ has
  after₂ = ap (behind line_feed) after₁ ∙ line_behind_lem head_key (decimal run.head) rest₂ refl (number_flat_here run.head)

  after₃ : after_lines 3 text ≡ rest₃
  unfolding after_lines rest₂ has
  after₃ = ap (behind line_feed) after₂ ∙ line_behind_lem turn_key (decimal run.turn) rest₃ refl (number_flat_here run.turn)

  after₄ : after_lines 4 text ≡ rest₄
  unfolding after_lines rest₃ has
  after₄ = ap (behind line_feed) after₃ ∙ line_behind_lem rule_key least_text rest₄ refl rule_flat_here

  after₅ : after_lines 5 text ≡ rest₅
  unfolding after_lines rest₄ has
  after₅ = ap (behind line_feed) after₄ ∙ line_behind_lem files_key (decimal F) rest₅ refl (number_flat_here F)

  -- The first five lines.
  line₀ : line_after 0 text ≡ tape_key ++ name
  unfolding after_lines has
  line₀ = ap line_of text_is_here ∙ line_first tape_key name rest₁ refl name_flat_here

  line₁ : line_after 1 text ≡ head_key ++ decimal run.head
  unfolding rest₁ has
  line₁ = ap line_of after₁ ∙ line_first head_key (decimal run.head) rest₂ refl (number_flat_here run.head)

  line₂ : line_after 2 text ≡ turn_key ++ decimal run.turn
  unfolding rest₂ has
  line₂ = ap line_of after₂ ∙ line_first turn_key (decimal run.turn) rest₃ refl (number_flat_here run.turn)

  line₃ : line_after 3 text ≡ rule_key ++ least_text
  unfolding rest₃ has
  line₃ = ap line_of after₃ ∙ line_first rule_key least_text rest₄ refl rule_flat_here

  line₄ : line_after 4 text ≡ files_key ++ decimal F
  unfolding rest₄ has
  line₄ = ap line_of after₄ ∙ line_first files_key (decimal F) rest₅ refl (number_flat_here F)

  F-small : F < 2 ^ 64
  unfolding F
  F-small = omega (arith, small.files)

  W-small : W < 2 ^ 64
  unfolding W
  W-small = omega (arith, small.wants)

  files_back : sheet_files text ≡ F
  unfolding sheet_files
  files_back = ap (number_behind files_key) line₄ ∙ value_back files_key F F-small

  -- The lines below.
  files_text : file_text text ≡ rest₅
  unfolding file_text
  files_text = after₅

  wants_text_here : wants_text text ≡ number_line wants_key W ++ rest₆
  unfolding wants_text rest₅ F has
  wants_text_here =
      ap (λ n. after_lines n (file_text text)) files_back
      ∙ ap (after_lines F) files_text
      ∙ triples_behind file_key refl (number_line wants_key W ++ rest₆) run.starts run.lengths run.aggregates small.table small.numbered

  wants_line : line_of (wants_text text) ≡ wants_key ++ decimal W
  unfolding has
  wants_line = ap line_of wants_text_here ∙ line_first wants_key (decimal W) rest₆ refl (number_flat_here W)

  wants_back : sheet_wants text ≡ W
  unfolding sheet_wants
  wants_back = ap (number_behind wants_key) wants_line ∙ value_back wants_key W W-small

  want_text_here : want_text text ≡ rest₆
  unfolding want_text after_lines has
  want_text_here = ap (behind line_feed) wants_text_here ∙ line_behind_lem wants_key (decimal W) rest₆ refl (number_flat_here W)

  want_pairs : want_text text ≡ pair_lines want_key run.numbers run.counts ++ []
  unfolding rest₆
  want_pairs = want_text_here ∙ sym (append-nil (pair_lines want_key run.numbers run.counts))

  end_text_here : end_text text ≡ []
  unfolding end_text W has
  end_text_here =
      ap (λ n. after_lines n (want_text text)) wants_back
      ∙ ap (after_lines W) want_pairs
      ∙ pairs_behind want_key refl [] run.numbers run.counts small.pairs

  -- Each line is as described.
  tape_good_here : is_tape_line (line_after 0 text) ≡ true
  unfolding is_tape_line
  tape_good_here = ap is_tape_line line₀ ∙ name_back tape_key name named

  head_good : is_number_line head_key (line_after 1 text) ≡ true
  head_good = ap (is_number_line head_key) line₁ ∙ number_back head_key run.head small.head

  turn_good : is_turn_line (line_after 2 text) ≡ true
  unfolding is_turn_line
  turn_good = ap is_turn_line line₂ ∙ price_back turn_key run.turn small.turn

  rule_good_here : is_rule_line (line_after 3 text) ≡ true
  rule_good_here = ap is_rule_line line₃ ∙ rule_test

  files_good : is_count_line files_key most_sheet_files (line_after 4 text) ≡ true
  unfolding F
  files_good = ap (is_count_line files_key most_sheet_files) line₄ ∙ count_back files_key F F-small most_sheet_files small.files

  wants_good : is_count_line wants_key most_wants (line_of (wants_text text)) ≡ true
  unfolding W
  wants_good = ap (is_count_line wants_key most_wants) wants_line ∙ count_back wants_key W W-small most_wants small.wants

  file_good_here : first_bad_of (is_triple_line file_key) (sheet_files text) (file_text text) ≡ 0
  unfolding rest₅ F has
  file_good_here =
      ap (λ n. first_bad_of (is_triple_line file_key) n (file_text text)) files_back
      ∙ ap (first_bad_of (is_triple_line file_key) F) files_text
      ∙ triples_good file_key refl (number_line wants_key W ++ rest₆) run.starts run.lengths run.aggregates small.table small.numbered
      (λ i l. omega (arith, small.starts i l))
      (λ i l. omega (arith, small.lengths i (omega (arith, small.table))))
      (λ i l. omega (arith, small.aggregates i (omega (arith, small.numbered))))

  want_good_here : first_bad_of (is_pair_line want_key) (sheet_wants text) (want_text text) ≡ 0
  unfolding W has
  want_good_here =
      ap (λ n. first_bad_of (is_pair_line want_key) n (want_text text)) wants_back
      ∙ ap (first_bad_of (is_pair_line want_key) W) want_pairs
      ∙ pairs_good want_key refl [] run.numbers run.counts small.pairs small.numbers (λ i l. small.counts i (omega (arith, small.pairs)))

  all_described_here : first_bad_line text ≡ 0
  unfolding first_bad_line first_bad_top first_bad_below
  all_described_here = rw (tape_good_here, head_good, turn_good, rule_good_here, files_good, file_good_here, wants_good, want_good_here, end_text_here)

  -- What the sheet holds is what was written.
  head_back : sheet_head text ≡ run.head
  unfolding sheet_head
  head_back = ap (number_behind head_key) line₁ ∙ value_back head_key run.head small.head

  turn_back_here : sheet_turn text ≡ run.turn
  unfolding sheet_turn_with turn_with
  turn_back_here = ap turn_in line₂ ∙ price_value turn_key run.turn

  rule_stands : says_sweep text ≡ false
  unfolding says_sweep
  rule_stands = ap names_sweep line₃ ∙ rule_kept

  names_back : sheet_name text ≡ name
  unfolding sheet_name
  names_back = ap (value_text tape_key) line₀ ∙ key_value tape_key name

  file_column : (column : List ℕ → ℕ) (row : List ℕ) → each_of (λ i. column (line_after i rest₅)) F ≡ row → each_of (λ i. column (line_after i (file_text text))) (sheet_files text) ≡ row
  file_column column row e = ap (each_of (λ i. column (line_after i (file_text text)))) files_back ∙ ap (λ t. each_of (λ i. column (line_after i t)) F) files_text ∙ e

  want_column : (column : List ℕ → ℕ) (row : List ℕ) → each_of (λ i. column (line_after i (pair_lines want_key run.numbers run.counts ++ []))) W ≡ row
      → each_of (λ i. column (line_after i (want_text text))) (sheet_wants text) ≡ row
  want_column column row e = ap (each_of (λ i. column (line_after i (want_text text)))) wants_back ∙ ap (λ t. each_of (λ i. column (line_after i t)) W) want_pairs ∙ e

  run_back : sheet_run text ≡ run
  unfolding sheet_run F W rest₅ has
  run_back =
      let starts = file_column (first_in file_key) run.starts (lefts_back file_key refl (number_line wants_key W ++ rest₆) run.starts run.lengths run.aggregates small.table small.numbered) in
      let lengths = file_column (middle_in file_key) run.lengths (middles_back file_key refl (number_line wants_key W ++ rest₆) run.starts run.lengths run.aggregates small.table small.numbered) in
      let aggregates = file_column (third_in file_key) run.aggregates (thirds_back file_key refl (number_line wants_key W ++ rest₆) run.starts run.lengths run.aggregates small.table small.numbered) in
      let numbers = want_column (first_in want_key) run.numbers (firsts_back want_key refl [] run.numbers run.counts small.pairs) in
      let counts = want_column (second_in want_key) run.counts (seconds_back want_key refl [] run.numbers run.counts small.pairs) in
      λ i. record { starts = starts i; lengths = lengths i; aggregates = aggregates i; numbers = numbers i; counts = counts i; head = head_back i; turn = turn_back_here i }

  -- The sheet is not too long.
  short_enough_here : length text ≤ longest_sheet
  unfolding text sheet_text top_text F W
  short_enough_here =
      sum_length (line tape_key name) (number_line head_key run.head) (number_line turn_key run.turn) (line rule_key least_text)
      (number_line files_key F) (triple_lines file_key run.starts run.lengths run.aggregates) (number_line wants_key W) (pair_lines want_key run.numbers run.counts)
      (omega (arith, line_length tape_key name, name_length name named))
      (number_length head_key run.head small.head)
      (number_length turn_key run.turn small.turn)
      rule_length
      (number_length files_key F F-small)
      (omega (arith, triples_length file_key run.starts run.lengths run.aggregates (omega arith) small.starts small.lengths small.aggregates, small.files))
      (number_length wants_key W W-small)
      (omega (arith, pairs_length want_key run.numbers run.counts (omega arith) small.numbers small.counts, small.wants))

-- What reading a run's sheet gives: 12, 11 and 19 accept it, and it holds the run and the name.
pub record ReadsBack (name : List ℕ) (run : Run) : Type 0 where
  pub short : length (sheet_text name run) ≤ longest_sheet
  pub accepts : sheet_verdict (sheet_text name run) ≡ accepted
  pub same_run : sheet_run (sheet_text name run) ≡ run
  pub ruled : rule_verdict (sheet_text name run) ≡ accepted
  pub same_name : read_name (sheet_text name run) ≡ name

-- For every run that a sheet can hold, whatever 1 to 7 say of it.
pub small_trip : (name : List ℕ) (run : Run) → SmallRun run → is_name name ≡ true → ReadsBack name run
unfolding text sheet_verdict rule_verdict read_name
small_trip name run small named =
    let long = short_enough_here name run named small in
    let good : sheet_verdict (sheet_text name run) ≡ accepted = rw (le-ltb longest_sheet (length (sheet_text name run)) long, all_described_here name run named small) in
    record {
      short = long;
      accepts = good;
      same_run = run_back name run named small;
      ruled = rw (rule_stands name run named small);
      same_name = rw good (names_back name run named small);
    }

-- So for every accepted run within the sheet's limits.
pub round_trip : (name : List ℕ) (run : Run) → judge_of run ≡ accepted → length run.starts ≤ most_sheet_files → is_name name ≡ true → ReadsBack name run
round_trip name run e few named = small_trip name run (small_run run (ap (λ v. is_refusal v.refusal) e) few) named
