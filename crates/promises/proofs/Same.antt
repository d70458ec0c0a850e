-- The sheet of an accepted run, mended: the same but for an empty price.
use Prim.Native.Nat.{ℕ, zero, suc, ◌+◌, ◌-◌, ◌^◌, ◌≤◌, ◌<◌}
use mathlib.Core.Path.{◌≡◌, refl, ap, sym, ◌∙◌}
use mathlib.Core.Bool.{Bool, true, false, true≢false, not, cond, ◌&&◌, ◌||◌}
use mathlib.Core.List.{List, [], ◌∷◌, ◌++◌, append_assoc, append-nil}
use native.Mathlib.Omega.{arith}
use native.Mathlib.Numerals.{add-one}
use lib.ListN.{length, take, drop, get_or, take-append-drop, length-append}
use lib.Dec.{eqb, ltb, leb}
use borrow.Author.Tests.{not-false, ltb-true, ltb-false, eq-eqb, eqb-true}
use Rattle.refusals.proofs.Verdicts.{refuses}
use Rattle.refusals.specs.Refusals.{first_where}
use Rattle.runs.specs.Run.{most_wants}
use Rattle.runs.specs.Judging.{judge_of, number_before}
use Rattle.runs.proofs.Search.{first_zero, or_false_both}
use Rattle.runs.proofs.Judged.{GoodWants, GoodRun, accepted_run}
use Rattle.text_bytes.specs.Text.{bytes, line_feed, comma, has, before, behind, is_empty, is_number, starts_with, is_text, value_of, decimal}
use Rattle.text_bytes.proofs.Bytes.{and_true_both}
use Rattle.text_bytes.proofs.Split.{split_at, key_split, whole_key}
use Rattle.text_lines.specs.Lines.{line_of, after_lines, line_after, value_text, is_number_line, number_behind, is_pair, is_pair_line, first_in, second_in, is_triple, is_triple_line, first_bad_of, each_of, lines_before}
use Rattle.sheet_reader.specs.Lines.{turn_key, rule_key, least_text, sweep_text, files_key, file_key, wants_key, want_key, is_count_line, is_turn_line, turn_with, empty_turn, is_rule_line, names_sweep}
use Rattle.sheet_reader.specs.Sheet.{longest_sheet, most_sheet_files, sheet_turn, sheet_turn_with, says_sweep, sheet_files, file_text, wants_text, sheet_wants, want_text, end_text, unless, shifted, first_some, first_bad_top, first_bad_below, first_bad_line, sheet_run}
use Rattle.sheet_reader.specs.Reading.{sheet_verdict}
use Rattle.sheet_reader.proofs.Good.{GoodLines, good_lines, no_bad_line, few_files, few_wants, line_split}
use Rattle.sheet_reader.proofs.Rows.{length_each}
use Rattle.text_pages.specs.Printing.{line, number_line, pair_text, pair_line, pair_lines}
use Rattle.sheet_loose.specs.Loose.{loose_files, loose_wants_text, loose_want_text, loose_wants, wants_said, price_left_out, wanted_files, wanted_counts}
use Rattle.sheet_loose.proofs.Ends.{after_ends}
use Rattle.answer_mend.specs.Wants.{remaining, fate_of}
use Rattle.answer_mend.specs.Mending.{first_lines, sheet_remaining, sheet_reads, mended_text, change_if, changes_text, fate_lines}
use Rattle.promises.proofs.Gathered.{Rising, Clean, clean_remaining, clean_each, clean_stays}
use Rattle.promises.proofs.Again.{come_so_many, not_file, not_want, regroup, none_more, line_good, remaining_once, reads_once, fates_none}
use Rattle.demands.proofs.Canonical.{number_text}

-- A text is its first line, with its LF, and what stands behind it.
pub text_line : (k : ℕ) (key value text : List ℕ) → starts_with (k ∷ key) (line_of text) ≡ true → line_of text ≡ (k ∷ key) ++ value → text ≡ line (k ∷ key) value ++ behind line_feed text
text_line k key value text begun is =
    line_split k key text begun ∙ ap (λ t. t ++ (line_feed ∷ behind line_feed text)) is ∙ sym (append_assoc ((k ∷ key) ++ value) (line_feed ∷ []) (behind line_feed text))

-- What stands on a line, from its numbers.
pub number_line_lem : (key text : List ℕ) → is_number_line key text ≡ true → text ≡ key ++ decimal (number_behind key text)
unfolding is_number_line
number_line_lem key text e =
    let both = and_true_both (starts_with key text) (is_number (value_text key text)) e in
    key_split key text both.0 ∙ ap (λ t. key ++ t) (sym (number_text (value_text key text) both.1))

pub behind_none : (c : ℕ) (text : List ℕ) → has c text ≡ false → behind c text ≡ []
unfolding has behind
behind_none c [] e = refl
behind_none c (b ∷ text) e = let both = or_false_both (eqb b c) (has c text) e in rw both.0 (behind_none c text both.1)

pub no_number : is_number [] ≡ false
unfolding is_number
no_number = refl

pub pair_value : (text : List ℕ) → is_pair text ≡ true → text ≡ pair_text (value_of (before comma text)) (value_of (behind comma text))
unfolding is_pair
pair_value text e = go (has comma text) refl
  where
    both : (is_number (before comma text) ≡ true) × (is_number (behind comma text) ≡ true)
    both = and_true_both (is_number (before comma text)) (is_number (behind comma text)) e

    none : is_number [] ≡ false
    none = no_number

    go : (b : Bool) → has comma text ≡ b → text ≡ pair_text (value_of (before comma text)) (value_of (behind comma text))
    go true h =
        split_at comma text h
        ∙ ap (λ t. t ++ (comma ∷ behind comma text)) (sym (number_text (before comma text) both.0))
        ∙ ap (λ t. decimal (value_of (before comma text)) ++ (comma ∷ t)) (sym (number_text (behind comma text) both.1))
        ∙ sym (append_assoc (decimal (value_of (before comma text))) (comma ∷ []) (decimal (value_of (behind comma text))))
    go false h = absurd (true≢false (sym both.1 ∙ ap is_number (behind_none comma text h) ∙ none))

want_line : (text : List ℕ) → is_pair_line want_key text ≡ true → text ≡ want_key ++ pair_text (first_in want_key text) (second_in want_key text)
unfolding is_pair_line
want_line text e =
    let both = and_true_both (starts_with want_key text) (is_pair (value_text want_key text)) e in
    key_split want_key text both.0 ∙ ap (λ t. want_key ++ t) (pair_value (value_text want_key text) both.1)

want_begun : (text : List ℕ) → is_pair_line want_key text ≡ true → starts_with want_key text ≡ true
unfolding is_pair_line
want_begun text e = (and_true_both (starts_with want_key text) (is_pair (value_text want_key text)) e).0

-- Lines of pairs, one more at the end.
pairs_last : (key xs ys : List ℕ) (x y : ℕ) → length xs ≡ length ys → pair_lines key (xs ++ (x ∷ [])) (ys ++ (y ∷ [])) ≡ pair_lines key xs ys ++ pair_line key x y
unfolding pair_lines
pairs_last key [] [] x y e = append-nil (pair_line key x y)
pairs_last key [] (b ∷ ys) x y e = absurd (omega arith)
pairs_last key (a ∷ xs) [] x y e = absurd (omega arith)
pairs_last key (a ∷ xs) (b ∷ ys) x y e = ap (λ t. pair_line key a b ++ t) (pairs_last key xs ys x y (omega arith)) ∙ sym (append_assoc (pair_line key a b) (pair_lines key xs ys) (pair_line key x y))

module _ (text : List ℕ) where
  abbrev firsts : ℕ → List ℕ
  firsts n = each_of (λ i. first_in want_key (line_after i text)) n

  abbrev seconds : ℕ → List ℕ
  seconds n = each_of (λ i. second_in want_key (line_after i text)) n

  wants_text_here : (n : ℕ) → ((i : ℕ) → i < n → is_pair_line want_key (line_after i text) ≡ true) → text ≡ pair_lines want_key (firsts n) (seconds n) ++ after_lines n text
  unfolding each_of after_lines pair_lines
  wants_text_here zero good = refl
  wants_text_here (suc n) good =
      let here = good n (omega arith) in
      let even = length_each (λ i. first_in want_key (line_after i text)) n ∙ sym (length_each (λ i. second_in want_key (line_after i text)) n) in
      wants_text_here n (λ i l. good i (omega arith))
      ∙ ap (λ t. pair_lines want_key (firsts n) (seconds n) ++ t)
      (text_line 119 (drop 1 want_key) (pair_text (first_in want_key (line_after n text)) (second_in want_key (line_after n text))) (after_lines n text) (want_begun (line_after n text) here) (want_line (line_after n text) here))
      ∙ sym (append_assoc (pair_lines want_key (firsts n) (seconds n)) (pair_line want_key (first_in want_key (line_after n text)) (second_in want_key (line_after n text))) (behind line_feed (after_lines n text)))
      ∙ ap (λ t. t ++ behind line_feed (after_lines n text)) (sym (pairs_last want_key (firsts n) (seconds n) (first_in want_key (line_after n text)) (second_in want_key (line_after n text)) even))

-- Ascending, step by step.
abbrev pub floor : ℕ → List ℕ → ℕ → ℕ
floor b files zero = b
floor b files (suc i) = suc (get_or files i 0)

pub rising_steps : (b : ℕ) (files : List ℕ) → ((i : ℕ) → i < length files → floor b files i ≤ get_or files i 0) → Rising b files
rising_steps b [] h = tt
rising_steps b (g ∷ files) h = (h 0 (omega arith), rising_steps (suc g) files (λ i l. go i l))
  where
    go : (i : ℕ) → i < length files → floor (suc g) files i ≤ get_or files i 0
    go zero l = h 1 (omega arith)
    go (suc i) l = h (suc (suc i)) (omega arith)

wants_rising : (files : ℕ) (numbers counts : List ℕ) → GoodWants files numbers counts → Rising 0 numbers
wants_rising files numbers counts good = rising_steps 0 numbers go
  where
    go : (i : ℕ) → i < length numbers → floor 0 numbers i ≤ get_or numbers i 0
    go zero l = omega arith
    go (suc i) l = (good.each (suc i) l).above

shifted_none : (n x : ℕ) → shifted n x ≡ 0 → x ≡ 0
shifted_none n zero e = refl
shifted_none n (suc x) e = absurd (omega (arith, e))

pub empty_is : (text : List ℕ) → is_empty text ≡ true → text ≡ []
empty_is [] e = refl
empty_is (b ∷ text) e = absurd (true≢false (sym e))

first_and_rest : (n : ℕ) (text : List ℕ) → text ≡ first_lines n text ++ after_lines n text
first_and_rest n text =
    sym (take-append-drop (length text - length (after_lines n text)) text) ∙ ap (λ t. first_lines n text ++ t) (after_ends n text).rest

-- Of two that may be, one is not.
the_other : (a b c : Bool) → (a && (b || c)) ≡ true → (a && b) ≡ false → c ≡ true
the_other true true c e f = absurd (true≢false f)
the_other true false c e f = e
the_other false b c e f = absurd (true≢false (sym e))

a_number : (a b c : Bool) → (a && (b || c)) ≡ true → b ≡ false → c ≡ true
a_number true true c e f = absurd (true≢false f)
a_number true false c e f = e
a_number false b c e f = absurd (true≢false (sym e))

-- A price that stands is written as it stood.
pub price_value : (text : List ℕ) → is_turn_line text ≡ true → is_empty (value_text turn_key text) ≡ false → decimal (turn_with empty_turn text) ≡ value_text turn_key text
unfolding turn_with is_turn_line
price_value text turn given =
    rw given (number_text (value_text turn_key text) (a_number (starts_with turn_key text) (is_empty (value_text turn_key text)) (is_number (value_text turn_key text)) turn given))

no_more : (a : List ℕ) → a ++ [] ++ [] ++ [] ++ [] ≡ a
no_more a = simp append-nil

-- The wants of an accepted run are in order.
pub fair_wants : (sheet : List ℕ) → refuses (judge_of (sheet_run sheet)) ≡ false → Clean (sheet_run sheet).numbers (sheet_run sheet).counts
fair_wants sheet fair =
    let wants = (accepted_run (sheet_run sheet) fair).wants in
    record { even = wants.equal; rising = wants_rising _ (sheet_run sheet).numbers (sheet_run sheet).counts wants; some = λ i l z. omega (arith, (wants.each i l).counted, z) }

module _ (sheet : List ℕ) (good : refuses (sheet_verdict sheet) ≡ false) (fair : Clean (sheet_run sheet).numbers (sheet_run sheet).counts) (least : says_sweep sheet ≡ false) where
  pub g : GoodLines sheet
  g = good_lines sheet good

  abbrev wants_line : ℕ
  wants_line = unless (is_count_line wants_key most_wants (line_of (wants_text sheet))) (sheet_files sheet + 6)

  abbrev bad-wants : ℕ
  bad-wants = first_bad_of (is_pair_line want_key) (sheet_wants sheet) (want_text sheet)

  abbrev end_on : List ℕ
  end_on = unless (is_empty (end_text sheet)) (sheet_files sheet + sheet_wants sheet + 7) ∷ []

  abbrev bad-files : ℕ
  bad-files = first_bad_of (is_triple_line file_key) (sheet_files sheet) (file_text sheet)

  pub below : (bad-files ≡ 0) × ((bad-wants ≡ 0) × (end_text sheet ≡ []))
  unfolding first_bad_line first_bad_below
  below =
      let lower = (none_more (first_bad_below sheet) [] (none_more (first_bad_top sheet) (first_bad_below sheet ∷ []) (no_bad_line sheet good)).1).0 in
      let a = none_more (shifted 5 bad-files) (wants_line ∷ shifted (sheet_files sheet + 6) bad-wants ∷ end_on) lower in
      let b = none_more wants_line (shifted (sheet_files sheet + 6) bad-wants ∷ end_on) a.1 in
      let c = none_more (shifted (sheet_files sheet + 6) bad-wants) end_on b.1 in
      let d = none_more (unless (is_empty (end_text sheet)) (sheet_files sheet + sheet_wants sheet + 7)) [] c.1 in
      let seven : sheet_files sheet + sheet_wants sheet + 7 ≡ suc (sheet_files sheet + sheet_wants sheet + 6) = omega arith in
      (shifted_none 5 bad-files a.0, (shifted_none (sheet_files sheet + 6) bad-wants c.0, empty_is (end_text sheet) (line_good (is_empty (end_text sheet)) (sheet_files sheet + sheet_wants sheet + 6) (rw seven at d.0))))

  pub wants_number : is_number_line wants_key (line_of (wants_text sheet)) ≡ true
  unfolding is_count_line
  wants_number = (and_true_both (is_number_line wants_key (line_of (wants_text sheet))) (leb (number_behind wants_key (line_of (wants_text sheet))) most_wants) g.wants).0

  pub files_number : is_number_line files_key (line_after 4 sheet) ≡ true
  unfolding is_count_line
  files_number = (and_true_both (is_number_line files_key (line_after 4 sheet)) (leb (number_behind files_key (line_after 4 sheet)) most_sheet_files) g.files).0

  -- The lines that come are those that the counts say.
  pub files_same : loose_files sheet ≡ sheet_files sheet
  unfolding loose_files first_bad_of wants_text
  files_same =
      come_so_many (is_triple_line file_key) most_sheet_files (sheet_files sheet) (file_text sheet) (few_files sheet good)
      (λ i l. not-false (is_triple_line file_key (line_after i (file_text sheet))) (first_zero (λ j. not (is_triple_line file_key (line_after j (file_text sheet)))) (sheet_files sheet) below.0 i l))
      (λ m. ap (is_triple_line file_key) (number_line_lem wants_key (line_of (wants_text sheet)) wants_number) ∙ not_file (decimal (number_behind wants_key (line_of (wants_text sheet)))))

  pub tail_same : loose_wants_text sheet ≡ wants_text sheet
  unfolding loose_wants_text wants_text
  tail_same = rw files_same

  pub body_same : loose_want_text sheet ≡ want_text sheet
  unfolding loose_want_text want_text
  body_same = rw tail_same

  want_good_here : (i : ℕ) → i < sheet_wants sheet → is_pair_line want_key (line_after i (want_text sheet)) ≡ true
  unfolding first_bad_of
  want_good_here i l = not-false (is_pair_line want_key (line_after i (want_text sheet))) (first_zero (λ j. not (is_pair_line want_key (line_after j (want_text sheet)))) (sheet_wants sheet) below.1.0 i l)

  pub wants_same : loose_wants sheet ≡ sheet_wants sheet
  unfolding loose_wants end_text
  wants_same =
      ap (λ t. lines_before longest_sheet (first_bad_of (is_pair_line want_key) longest_sheet t)) body_same
      ∙ come_so_many (is_pair_line want_key) longest_sheet (sheet_wants sheet) (want_text sheet) (omega (arith, few_wants sheet good)) want_good_here (λ m. ap (λ t. is_pair_line want_key (line_of t)) below.1.1 ∙ not_want)

  pub named : wanted_files sheet ≡ (sheet_run sheet).numbers
  unfolding wanted_files sheet_run
  named = rw (wants_same, body_same)

  pub counted : wanted_counts sheet ≡ (sheet_run sheet).counts
  unfolding wanted_counts sheet_run
  counted = rw (wants_same, body_same)

  -- Its wants are in order already.
  clean : Clean (wanted_files sheet) (wanted_counts sheet)
  clean = rw (named, counted) fair

  pub remain : sheet_remaining sheet ≡ wanted_files sheet
  remain = remaining_once sheet (wanted_files sheet) (wanted_counts sheet) refl refl (clean_remaining (wanted_files sheet) (wanted_counts sheet) clean)

  pub ask : sheet_reads sheet ≡ wanted_counts sheet
  ask = reads_once sheet (wanted_files sheet) (wanted_counts sheet) refl refl remain (clean_each (wanted_files sheet) (wanted_counts sheet) clean)

  long : length (sheet_remaining sheet) ≡ sheet_wants sheet
  unfolding wanted_files
  long = ap length remain ∙ length_each (λ i. first_in want_key (line_after i (loose_want_text sheet))) (loose_wants sheet) ∙ wants_same

  -- Line by line.
  turn_begun_here : starts_with turn_key (line_after 2 sheet) ≡ true
  unfolding is_turn_line
  turn_begun_here = (and_true_both (starts_with turn_key (line_after 2 sheet)) (is_empty (value_text turn_key (line_after 2 sheet)) || is_number (value_text turn_key (line_after 2 sheet))) g.turn).0

  third_old : after_lines 2 sheet ≡ line turn_key (value_text turn_key (line_after 2 sheet)) ++ after_lines 3 sheet
  unfolding after_lines
  third_old = text_line 116 (drop 1 turn_key) (value_text turn_key (line_after 2 sheet)) (after_lines 2 sheet) turn_begun_here (key_split turn_key (line_after 2 sheet) turn_begun_here)

  abbrev rule-text : List ℕ
  rule-text = value_text rule_key (line_after 3 sheet)

  rule_begun : starts_with rule_key (line_after 3 sheet) ≡ true
  unfolding is_rule_line
  rule_begun = (and_true_both (starts_with rule_key (line_after 3 sheet)) (is_text sweep_text rule-text || is_text least_text rule-text) g.rule).0

  rule_is : line_after 3 sheet ≡ rule_key ++ least_text
  unfolding is_rule_line says_sweep names_sweep
  rule_is =
      let yes = the_other (starts_with rule_key (line_after 3 sheet)) (is_text sweep_text rule-text) (is_text least_text rule-text) g.rule least in
      let is = and_true_both (eqb (length least_text) (length rule-text)) (starts_with least_text rule-text) yes in
      key_split rule_key (line_after 3 sheet) rule_begun ∙ ap (λ t. rule_key ++ t) (whole_key least_text rule-text (eqb-true (length least_text) (length rule-text) is.0) is.1)

  fourth : after_lines 3 sheet ≡ line rule_key least_text ++ after_lines 4 sheet
  unfolding after_lines
  fourth = text_line 114 (drop 1 rule_key) least_text (after_lines 3 sheet) rule_begun rule_is

  fifth : after_lines 4 sheet ≡ number_line files_key (loose_files sheet) ++ file_text sheet
  unfolding after_lines file_text sheet_files is_number_line
  fifth =
      let begun = (and_true_both (starts_with files_key (line_after 4 sheet)) (is_number (value_text files_key (line_after 4 sheet))) files_number).0 in
      rw files_same (text_line 102 (drop 1 files_key) (decimal (number_behind files_key (line_after 4 sheet))) (after_lines 4 sheet) begun (number_line_lem files_key (line_after 4 sheet) files_number))

  table : file_text sheet ≡ first_lines (loose_files sheet) (file_text sheet) ++ loose_wants_text sheet
  unfolding loose_wants_text
  table = first_and_rest (loose_files sheet) (file_text sheet)

  said : number_behind wants_key (line_of (loose_wants_text sheet)) ≡ length (sheet_remaining sheet)
  unfolding sheet_wants
  said = ap (λ t. number_behind wants_key (line_of t)) tail_same ∙ sym long

  tail : loose_wants_text sheet ≡ number_line wants_key (length (sheet_remaining sheet)) ++ loose_want_text sheet
  unfolding loose_want_text after_lines is_number_line
  tail =
      let number : is_number_line wants_key (line_of (loose_wants_text sheet)) ≡ true = ap (λ t. is_number_line wants_key (line_of t)) tail_same ∙ wants_number in
      let begun = (and_true_both (starts_with wants_key (line_of (loose_wants_text sheet))) (is_number (value_text wants_key (line_of (loose_wants_text sheet)))) number).0 in
      text_line 119 (drop 1 wants_key) (decimal (length (sheet_remaining sheet))) (loose_wants_text sheet) begun (number_line_lem wants_key (line_of (loose_wants_text sheet)) number ∙ ap (λ n. wants_key ++ decimal n) said)

  body : loose_want_text sheet ≡ pair_lines want_key (sheet_remaining sheet) (sheet_reads sheet)
  unfolding wanted_files wanted_counts end_text
  body =
      let lines = wants_text_here (loose_want_text sheet) (loose_wants sheet) (λ i l. rw body_same (want_good_here i (rw wants_same at l))) in
      let none : after_lines (loose_wants sheet) (loose_want_text sheet) ≡ [] = rw (wants_same, body_same) below.1.1 in
      lines ∙ ap (λ t. pair_lines want_key (wanted_files sheet) (wanted_counts sheet) ++ t) none ∙ append-nil (pair_lines want_key (wanted_files sheet) (wanted_counts sheet))
      ∙ rw (remain, ask)

  pub lower_is : after_lines 3 sheet ≡ line rule_key least_text ++ (number_line files_key (loose_files sheet) ++ (first_lines (loose_files sheet) (file_text sheet)
      ++ (number_line wants_key (length (sheet_remaining sheet)) ++ pair_lines want_key (sheet_remaining sheet) (sheet_reads sheet))))
  lower_is =
      fourth ∙ ap (λ t. line rule_key least_text ++ t)
      (fifth ∙ ap (λ t. number_line files_key (loose_files sheet) ++ t)
      (table ∙ ap (λ t. first_lines (loose_files sheet) (file_text sheet) ++ t) (tail ∙ ap (λ t. number_line wants_key (length (sheet_remaining sheet)) ++ t) body)))

  pub old_sheet_lem : sheet ≡ first_lines 2 sheet ++ (line turn_key (value_text turn_key (line_after 2 sheet)) ++ after_lines 3 sheet)
  old_sheet_lem = first_and_rest 2 sheet ∙ ap (λ t. first_lines 2 sheet ++ t) third_old

  pub new_sheet : mended_text sheet ≡ first_lines 2 sheet ++ (number_line turn_key (sheet_turn sheet) ++ after_lines 3 sheet)
  unfolding mended_text
  new_sheet =
      regroup (first_lines 2 sheet) (number_line turn_key (sheet_turn sheet)) (line rule_key least_text) (number_line files_key (loose_files sheet)) (first_lines (loose_files sheet) (file_text sheet))
      (number_line wants_key (length (sheet_remaining sheet))) (pair_lines want_key (sheet_remaining sheet) (sheet_reads sheet))
      ∙ ap (λ t. first_lines 2 sheet ++ (number_line turn_key (sheet_turn sheet) ++ t)) (sym lower_is)

  price_text_here : price_left_out sheet ≡ false → decimal (sheet_turn sheet) ≡ value_text turn_key (line_after 2 sheet)
  unfolding price_left_out sheet_turn_with
  price_text_here given = price_value (line_after 2 sheet) g.turn given

  pub same_sheet : price_left_out sheet ≡ false → mended_text sheet ≡ sheet
  same_sheet given = new_sheet ∙ ap (λ t. first_lines 2 sheet ++ (line turn_key t ++ after_lines 3 sheet)) (price_text_here given) ∙ sym old_sheet_lem

  pub one_change : changes_text sheet ≡ change_if (price_left_out sheet) 3 (bytes "turn")
  unfolding changes_text wants_said
  one_change =
      let fates = fates_none (loose_files sheet + 6) (wanted_files sheet) (wanted_counts sheet) (length (wanted_files sheet)) (clean_stays (wanted_files sheet) (wanted_counts sheet) clean) in
      rw (least, eq-eqb (sheet_files sheet) (loose_files sheet) (sym files_same), eq-eqb (number_behind wants_key (line_of (loose_wants_text sheet))) (length (sheet_remaining sheet)) said, fates)
      (no_more (change_if (price_left_out sheet) 3 (bytes "turn")))
