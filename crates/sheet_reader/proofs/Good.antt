-- What 12 and 11 say of a sheet that they accept: it is short, and each line of it is as described.
use Prim.Native.Nat.{ℕ, zero, suc, ◌+◌, ◌≤◌}
use mathlib.Core.Path.{◌≡◌, refl, sym, ◌∙◌}
use mathlib.Core.Bool.{Bool, true, false, true≢false}
use mathlib.Core.List.{List, [], ◌∷◌, ◌++◌}
use native.Mathlib.Omega.{arith}
use lib.ListN.{length}
use lib.Dec.{leb, ltb}
use borrow.Author.Tests.{leb-true, ltb-false}
use Rattle.refusals.specs.declared.Refusal.TheVariants.{BadLine, LongSheet}
use Rattle.refusals.specs.Refusals.{accepted, refuse_if, refuse_at}
use Rattle.refusals.proofs.Verdicts.{refuses, all_accept, none_refuses, accepts_if, accepts_at}
use Rattle.runs.specs.Run.{most_wants}
use Rattle.text_bytes.specs.Text.{line_feed, has, before, behind, is_empty, is_name, is_number, starts_with}
use Rattle.text_bytes.proofs.Bytes.{and_true_both}
use Rattle.text_bytes.proofs.Split.{split_at, none_before}
use Rattle.text_lines.specs.Lines.{line_of, line_after, value_text, is_number_line, number_behind, is_pair_line, is_triple_line, first_bad_of}
use Rattle.sheet_reader.specs.Lines.{tape_key, head_key, files_key, file_key, wants_key, want_key, turn_key, is_tape_line, is_count_line, is_turn_line, is_rule_line}
use Rattle.sheet_reader.specs.Sheet.{longest_sheet, most_sheet_files, sheet_files, sheet_wants, file_text, wants_text, want_text, end_text, unless, shifted, first_some, first_bad_top, first_bad_below, first_bad_line, sheet_name}
use Rattle.sheet_reader.specs.Reading.{sheet_verdict}

-- Where no line is bad, each is as described.
none_some : (line : ℕ) (lines : List ℕ) → first_some (line ∷ lines) ≡ 0 → (line ≡ 0) × (first_some lines ≡ 0)
none_some zero lines e = (refl, e)
none_some (suc line) lines e = absurd (omega (arith, e))

line_good : (b : Bool) (line : ℕ) → (line ≡ 0 → ⊥) → unless b line ≡ 0 → b ≡ true
line_good true line some e = refl
line_good false line some e = absurd (some e)

count_few : (key : List ℕ) (most : ℕ) (line : List ℕ) → is_count_line key most line ≡ true → number_behind key line ≤ most
unfolding is_count_line
count_few key most line e = leb-true (number_behind key line) most (and_true_both (is_number_line key line) (leb (number_behind key line) most) e).1

-- The first five lines and the `wants` line.
pub record GoodLines (sheet : List ℕ) : Type 0 where
  pub tape : is_tape_line (line_after 0 sheet) ≡ true
  pub head : is_number_line head_key (line_after 1 sheet) ≡ true
  pub turn : is_turn_line (line_after 2 sheet) ≡ true
  pub rule : is_rule_line (line_after 3 sheet) ≡ true
  pub files : is_count_line files_key most_sheet_files (line_after 4 sheet) ≡ true
  pub wants : is_count_line wants_key most_wants (line_of (wants_text sheet)) ≡ true

module _ (sheet : List ℕ) (good : refuses (sheet_verdict sheet) ≡ false) where
  checked : (ltb longest_sheet (length sheet) ≡ false) × (first_bad_line sheet ≡ 0)
  unfolding sheet_verdict
  checked =
      let all = all_accept (refuse_if (ltb longest_sheet (length sheet)) LongSheet ∷ refuse_at (first_bad_line sheet) BadLine ∷ []) good in
      (accepts_if (ltb longest_sheet (length sheet)) LongSheet refl all.0, accepts_at (first_bad_line sheet) BadLine refl all.1.0)

  pub short_sheet : length sheet ≤ longest_sheet
  short_sheet = ltb-false longest_sheet (length sheet) checked.0

  pub no_bad_line : first_bad_line sheet ≡ 0
  no_bad_line = checked.1

  pub accepted_sheet : sheet_verdict sheet ≡ accepted
  unfolding sheet_verdict
  accepted_sheet = none_refuses (refuse_if (ltb longest_sheet (length sheet)) LongSheet ∷ refuse_at (first_bad_line sheet) BadLine ∷ []) good

  -- The lines that are left to look at, from one on.
  abbrev files-on : List ℕ
  files-on = unless (is_count_line files_key most_sheet_files (line_after 4 sheet)) 5 ∷ []

  abbrev rule-on : List ℕ
  rule-on = unless (is_rule_line (line_after 3 sheet)) 4 ∷ files-on

  abbrev turn_on : List ℕ
  turn_on = unless (is_turn_line (line_after 2 sheet)) 3 ∷ rule-on

  abbrev wants_line : ℕ
  wants_line = unless (is_count_line wants_key most_wants (line_of (wants_text sheet))) (sheet_files sheet + 6)

  abbrev want-on : List ℕ
  want-on =
      shifted (sheet_files sheet + 6) (first_bad_of (is_pair_line want_key) (sheet_wants sheet) (want_text sheet))
      ∷ unless (is_empty (end_text sheet)) (sheet_files sheet + sheet_wants sheet + 7)
      ∷ []

  pub good_lines : GoodLines sheet
  unfolding first_bad_line first_bad_top first_bad_below
  good_lines =
      let parts = none_some (first_bad_top sheet) (first_bad_below sheet ∷ []) no_bad_line in
      let after₁ = none_some (unless (is_tape_line (line_after 0 sheet)) 1) (unless (is_number_line head_key (line_after 1 sheet)) 2 ∷ turn_on) parts.0 in
      let after₂ = none_some (unless (is_number_line head_key (line_after 1 sheet)) 2) turn_on after₁.1 in
      let after₃ = none_some (unless (is_turn_line (line_after 2 sheet)) 3) rule-on after₂.1 in
      let after₄ = none_some (unless (is_rule_line (line_after 3 sheet)) 4) files-on after₃.1 in
      let after₅ = none_some (unless (is_count_line files_key most_sheet_files (line_after 4 sheet)) 5) [] after₄.1 in
      let below = (none_some (first_bad_below sheet) [] parts.1).0 in
      let after₆ = none_some (shifted 5 (first_bad_of (is_triple_line file_key) (sheet_files sheet) (file_text sheet))) (wants_line ∷ want-on) below in
      let after₇ = none_some wants_line want-on after₆.1 in
      record {
        tape = line_good (is_tape_line (line_after 0 sheet)) 1 (λ e. omega (arith, e)) after₁.0;
        head = line_good (is_number_line head_key (line_after 1 sheet)) 2 (λ e. omega (arith, e)) after₂.0;
        turn = line_good (is_turn_line (line_after 2 sheet)) 3 (λ e. omega (arith, e)) after₃.0;
        rule = line_good (is_rule_line (line_after 3 sheet)) 4 (λ e. omega (arith, e)) after₄.0;
        files = line_good (is_count_line files_key most_sheet_files (line_after 4 sheet)) 5 (λ e. omega (arith, e)) after₅.0;
        wants = line_good (is_count_line wants_key most_wants (line_of (wants_text sheet))) (sheet_files sheet + 6) (λ e. omega (arith, e)) after₇.0;
      }

  -- The name is a name.
  pub good_name : is_name (sheet_name sheet) ≡ true
  unfolding sheet_name is_tape_line
  good_name = (and_true_both (starts_with tape_key (line_after 0 sheet)) (is_name (value_text tape_key (line_after 0 sheet))) good_lines.tape).1

  -- There are at most 256 files and 64 wants.
  pub few_files : sheet_files sheet ≤ 256
  unfolding sheet_files
  few_files = count_few files_key most_sheet_files (line_after 4 sheet) good_lines.files

  pub few_wants : sheet_wants sheet ≤ 64
  unfolding sheet_wants
  few_wants = count_few wants_key most_wants (line_of (wants_text sheet)) good_lines.wants

-- A line that begins with a key has its LF: it is what stands before that, and no LF stands in it.
module _ (k : ℕ) (key text : List ℕ) (begun : starts_with (k ∷ key) (line_of text) ≡ true) where
  line_ends_here : has line_feed text ≡ true
  unfolding line_of starts_with
  line_ends_here = go (has line_feed text) refl
    where
      go : (b : Bool) → has line_feed text ≡ b → has line_feed text ≡ true
      go true e = e
      go false e = absurd (true≢false (sym begun ∙ rw e))

  line_is_here : line_of text ≡ before line_feed text
  unfolding line_of
  line_is_here = rw line_ends_here

  pub line_split : text ≡ line_of text ++ (line_feed ∷ behind line_feed text)
  line_split = rw line_is_here (split_at line_feed text line_ends_here)

  pub line_flat : has line_feed (line_of text) ≡ false
  line_flat = rw line_is_here (none_before line_feed text)

-- The first three lines begin with their keys.
module _ (sheet : List ℕ) (good : refuses (sheet_verdict sheet) ≡ false) where
  pub tape_begun : starts_with tape_key (line_after 0 sheet) ≡ true
  unfolding is_tape_line
  tape_begun = (and_true_both (starts_with tape_key (line_after 0 sheet)) (is_name (value_text tape_key (line_after 0 sheet))) (good_lines sheet good).tape).0

  pub head_begun : starts_with head_key (line_after 1 sheet) ≡ true
  unfolding is_number_line
  head_begun = (and_true_both (starts_with head_key (line_after 1 sheet)) (is_number (value_text head_key (line_after 1 sheet))) (good_lines sheet good).head).0

  pub turn_begun : starts_with turn_key (line_after 2 sheet) ≡ true
  unfolding is_turn_line
  turn_begun = (and_true_both (starts_with turn_key (line_after 2 sheet)) _ (good_lines sheet good).turn).0
