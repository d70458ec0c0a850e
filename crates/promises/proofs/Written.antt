-- The sheet of an accepted run, mended, is the one that the writer writes for that run: a number has one text, so lines with the same numbers are the same
-- lines. So it is within the limit.
use Prim.Native.Nat.{ℕ, zero, suc, ◌+◌, ◌-◌, ◌≤◌, ◌<◌}
use mathlib.Core.Path.{◌≡◌, refl, ap, sym, ◌∙◌}
use mathlib.Core.Bool.{true, false, true≢false, not}
use mathlib.Core.Logic.{⊎_elim}
use mathlib.Core.List.{List, [], ◌∷◌, ◌++◌, append_assoc, append-nil}
use native.Mathlib.Omega.{arith}
use lib.ListN.{length, take, drop, length-append}
use lib.Seq.{take_at}
use borrow.Author.Tests.{not-false}
use Rattle.refusals.proofs.Verdicts.{refuses}
use Rattle.runs.specs.Judging.{judge_of}
use Rattle.runs.proofs.Search.{true_or_false, first_zero}
use Rattle.text_bytes.specs.Text.{line_feed, comma, has, before, behind, is_number, is_name, starts_with, value_of, decimal}
use Rattle.text_bytes.proofs.Bytes.{and_true_both}
use Rattle.text_bytes.proofs.Split.{split_at, key_split}
use Rattle.text_lines.specs.Lines.{after_lines, line_after, value_text, is_number_line, is_pair, is_triple, is_triple_line, first_in, middle_in, third_in, first_bad_of, each_of}
use Rattle.sheet_reader.specs.Lines.{tape_key, head_key, turn_key, rule_key, least_text, files_key, file_key, wants_key, want_key, is_tape_line}
use Rattle.sheet_reader.specs.Sheet.{longest_sheet, sheet_head, sheet_turn, says_sweep, sheet_files, file_text, sheet_name, sheet_run}
use Rattle.sheet_reader.specs.Reading.{sheet_verdict}
use Rattle.sheet_reader.proofs.Good.{good_name, few_files}
use Rattle.sheet_reader.proofs.Rows.{length_each}
use Rattle.text_pages.specs.Printing.{line, number_line, pair_lines, triple_text, triple_line, triple_lines}
use Rattle.sheet_writer.specs.Writing.{top_text, sheet_text}
use Rattle.sheet_writer.proofs.RoundTrip.{round_trip}
use Rattle.sheet_loose.specs.Loose.{loose_files}
use Rattle.answer_mend.specs.Mending.{first_lines, sheet_remaining, sheet_reads, mended_text}
use Rattle.demands.proofs.Judged.{judged_accepted}
use Rattle.demands.proofs.Canonical.{number_text}
use Rattle.promises.proofs.Same.{fair_wants, text_line, number_line_lem, behind_none, no_number, pair_value, g, below, files_same, named, counted, remain, ask, lower_is, new_sheet}

no_pair : is_pair [] ≡ false
unfolding is_pair before
no_pair = rw no_number

-- Three numbers with two commas between them have one text.
triple_value : (text : List ℕ) → is_triple text ≡ true → text ≡ triple_text (value_of (before comma text)) (value_of (before comma (behind comma text))) (value_of (behind comma (behind comma text)))
unfolding is_triple
triple_value text e =
    let both = and_true_both (is_number (before comma text)) (is_pair (behind comma text)) e in
    let first = value_of (before comma text) in
    let rest = behind comma text in
    ⊎_elim
    (λ (h : has comma text ≡ true).
    split_at comma text h
    ∙ ap (λ t. t ++ (comma ∷ rest)) (sym (number_text (before comma text) both.0))
    ∙ ap (λ t. decimal first ++ (comma ∷ t)) (pair_value rest both.1)
    ∙ regroup_three (decimal first) (decimal (value_of (before comma rest))) (decimal (value_of (behind comma rest))))
    (λ (h : has comma text ≡ false). absurd (true≢false (sym both.1 ∙ ap is_pair (behind_none comma text h) ∙ no_pair)))
    (true_or_false (has comma text))
  where
    regroup_three : (a b c : List ℕ) → a ++ (comma ∷ ((b ++ (comma ∷ [])) ++ c)) ≡ (((a ++ (comma ∷ [])) ++ b) ++ (comma ∷ [])) ++ c
    regroup_three a b c = simp append_assoc

file_begun : (text : List ℕ) → is_triple_line file_key text ≡ true → starts_with file_key text ≡ true
unfolding is_triple_line
file_begun text e = (and_true_both (starts_with file_key text) (is_triple (value_text file_key text)) e).0

file_line : (text : List ℕ) → is_triple_line file_key text ≡ true → text ≡ file_key ++ triple_text (first_in file_key text) (middle_in file_key text) (third_in file_key text)
unfolding is_triple_line
file_line text e =
    let both = and_true_both (starts_with file_key text) (is_triple (value_text file_key text)) e in
    key_split file_key text both.0 ∙ ap (λ t. file_key ++ t) (triple_value (value_text file_key text) both.1)

-- Lines of three numbers, one more at the end.
triples_last : (key xs ys zs : List ℕ) (x y z : ℕ) → length xs ≡ length ys → length xs ≡ length zs
    → triple_lines key (xs ++ (x ∷ [])) (ys ++ (y ∷ [])) (zs ++ (z ∷ [])) ≡ triple_lines key xs ys zs ++ triple_line key x y z
unfolding triple_lines
triples_last key [] [] [] x y z e f = append-nil (triple_line key x y z)
triples_last key [] [] (c ∷ zs) x y z e f = absurd (omega arith)
triples_last key [] (b ∷ ys) zs x y z e f = absurd (omega arith)
triples_last key (a ∷ xs) [] zs x y z e f = absurd (omega arith)
triples_last key (a ∷ xs) (b ∷ ys) [] x y z e f = absurd (omega arith)
triples_last key (a ∷ xs) (b ∷ ys) (c ∷ zs) x y z e f =
    ap (λ t. triple_line key a b c ++ t) (triples_last key xs ys zs x y z (omega arith) (omega arith))
    ∙ sym (append_assoc (triple_line key a b c) (triple_lines key xs ys zs) (triple_line key x y z))

module _ (text : List ℕ) where
  abbrev firsts : ℕ → List ℕ
  firsts n = each_of (λ i. first_in file_key (line_after i text)) n

  abbrev middles : ℕ → List ℕ
  middles n = each_of (λ i. middle_in file_key (line_after i text)) n

  abbrev thirds : ℕ → List ℕ
  thirds n = each_of (λ i. third_in file_key (line_after i text)) n

  files_text : (n : ℕ) → ((i : ℕ) → i < n → is_triple_line file_key (line_after i text) ≡ true) → text ≡ triple_lines file_key (firsts n) (middles n) (thirds n) ++ after_lines n text
  unfolding each_of after_lines triple_lines
  files_text zero good = refl
  files_text (suc n) good =
      let here = good n (omega arith) in
      let at = line_after n text in
      let a = length_each (λ i. first_in file_key (line_after i text)) n in
      let b = length_each (λ i. middle_in file_key (line_after i text)) n in
      let c = length_each (λ i. third_in file_key (line_after i text)) n in
      files_text n (λ i l. good i (omega arith))
      ∙ ap (λ t. triple_lines file_key (firsts n) (middles n) (thirds n) ++ t)
      (text_line 102 (drop 1 file_key) (triple_text (first_in file_key at) (middle_in file_key at) (third_in file_key at)) (after_lines n text) (file_begun at here) (file_line at here))
      ∙ sym (append_assoc (triple_lines file_key (firsts n) (middles n) (thirds n)) (triple_line file_key (first_in file_key at) (middle_in file_key at) (third_in file_key at)) (behind line_feed (after_lines n text)))
      ∙ ap (λ t. t ++ behind line_feed (after_lines n text)) (sym (triples_last file_key (firsts n) (middles n) (thirds n) (first_in file_key at) (middle_in file_key at) (third_in file_key at) (a ∙ sym b) (a ∙ sym c)))

-- What stands before some lines' end.
first_are : (n : ℕ) (text top : List ℕ) → text ≡ top ++ after_lines n text → first_lines n text ≡ top
first_are n text top e =
    let size : length text - length (after_lines n text) ≡ length top = omega (arith, ap length e ∙ length-append top (after_lines n text)) in
    ap (λ m. take m text) size ∙ ap (λ t. take (length top) t) e ∙ take_at top (after_lines n text) (length top) refl

module _ (sheet : List ℕ) (good : refuses (sheet_verdict sheet) ≡ false) (fair : refuses (judge_of (sheet_run sheet)) ≡ false) (least : says_sweep sheet ≡ false) where
  top_two : first_lines 2 sheet ≡ line tape_key (sheet_name sheet) ++ number_line head_key (sheet_head sheet)
  unfolding after_lines is_tape_line is_number_line sheet_name sheet_head
  top_two =
      let lines = g sheet good (fair_wants sheet fair) least in
      let named-so = (and_true_both (starts_with tape_key (line_after 0 sheet)) (is_name (value_text tape_key (line_after 0 sheet))) lines.tape).0 in
      let begun = (and_true_both (starts_with head_key (line_after 1 sheet)) (is_number (value_text head_key (line_after 1 sheet))) lines.head).0 in
      let one = text_line 116 (drop 1 tape_key) (value_text tape_key (line_after 0 sheet)) sheet named-so (key_split tape_key (line_after 0 sheet) named-so) in
      let two = text_line 104 (drop 1 head_key) (decimal (sheet_head sheet)) (after_lines 1 sheet) begun (number_line_lem head_key (line_after 1 sheet) lines.head) in
      first_are 2 sheet (line tape_key (sheet_name sheet) ++ number_line head_key (sheet_head sheet))
      (one ∙ ap (λ t. line tape_key (sheet_name sheet) ++ t) two ∙ sym (append_assoc (line tape_key (sheet_name sheet)) (number_line head_key (sheet_head sheet)) (after_lines 2 sheet)))

  file_good_here : (i : ℕ) → i < sheet_files sheet → is_triple_line file_key (line_after i (file_text sheet)) ≡ true
  unfolding first_bad_of
  file_good_here i l = not-false (is_triple_line file_key (line_after i (file_text sheet))) (first_zero (λ j. not (is_triple_line file_key (line_after j (file_text sheet)))) (sheet_files sheet) (below sheet good (fair_wants sheet fair) least).0 i l)

  table_lines : first_lines (loose_files sheet) (file_text sheet) ≡ triple_lines file_key (sheet_run sheet).starts (sheet_run sheet).lengths (sheet_run sheet).aggregates
  unfolding sheet_run
  table_lines =
      ap (λ n. first_lines n (file_text sheet)) (files_same sheet good (fair_wants sheet fair) least)
      ∙ first_are (sheet_files sheet) (file_text sheet) _ (files_text (file_text sheet) (sheet_files sheet) file_good_here)

  files_many : loose_files sheet ≡ length (sheet_run sheet).starts
  unfolding sheet_run
  files_many = files_same sheet good (fair_wants sheet fair) least ∙ sym (length_each (λ i. first_in file_key (line_after i (file_text sheet))) (sheet_files sheet))

  remain_is : sheet_remaining sheet ≡ (sheet_run sheet).numbers
  remain_is = remain sheet good (fair_wants sheet fair) least ∙ named sheet good (fair_wants sheet fair) least

  reads_are : sheet_reads sheet ≡ (sheet_run sheet).counts
  reads_are = ask sheet good (fair_wants sheet fair) least ∙ counted sheet good (fair_wants sheet fair) least

  regrouped : (a b c d e f h i : List ℕ) → (a ++ b) ++ (c ++ (d ++ (e ++ (f ++ (h ++ i))))) ≡ (((((((a ++ b) ++ c) ++ d) ++ e) ++ f) ++ h) ++ i)
  regrouped a b c d e f h i = simp append_assoc

  head_and_turn : ((sheet_run sheet).head ≡ sheet_head sheet) × ((sheet_run sheet).turn ≡ sheet_turn sheet)
  unfolding sheet_run
  head_and_turn = (refl, refl)

  pub written_so : mended_text sheet ≡ sheet_text (sheet_name sheet) (sheet_run sheet)
  unfolding sheet_text top_text
  written_so =
      new_sheet sheet good (fair_wants sheet fair) least
      ∙ rw (
        top_two,
        lower_is sheet good (fair_wants sheet fair) least,
        table_lines,
        files_many,
        remain_is,
        reads_are,
        head_and_turn.0,
        head_and_turn.1,
      )
      (regrouped (line tape_key (sheet_name sheet)) (number_line head_key (sheet_head sheet)) (number_line turn_key (sheet_turn sheet)) (line rule_key least_text) (number_line files_key (length (sheet_run sheet).starts))
      (triple_lines file_key (sheet_run sheet).starts (sheet_run sheet).lengths (sheet_run sheet).aggregates) (number_line wants_key (length (sheet_run sheet).numbers)) (pair_lines want_key (sheet_run sheet).numbers (sheet_run sheet).counts))

  -- Within the limit, as every sheet that the writer writes.
  pub mended_short : length (mended_text sheet) ≤ longest_sheet
  mended_short =
      rw written_so
      (round_trip (sheet_name sheet) (sheet_run sheet) (judged_accepted (sheet_run sheet) fair) (omega (arith, files_many, files_same sheet good (fair_wants sheet fair) least, few_files sheet good)) (good_name sheet good)).short
