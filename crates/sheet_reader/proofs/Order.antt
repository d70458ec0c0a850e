-- The lines of a sheet in turn: what each reader's answer says of the first line that is not as described.
use Prim.Native.Nat.{ℕ, zero, suc, ◌+◌, ◌≤◌, ◌<◌}
use mathlib.Core.Path.{◌≡◌, refl, ap, sym, ◌∙◌}
use mathlib.Core.Bool.{Bool, true, false}
use mathlib.Core.List.{List, ◌∷◌, []}
use native.Mathlib.Omega.{arith}
use lib.ListN.{length, drop, drop_of_length-le}
use lib.Seq.{drop-cons}
use lib.Dec.{leb, ltb}
use borrow.Author.Tests.{leb-true}
use Rattle.std.specs.Prelude.{Option, None, Result, Ok, Err}
use Rattle.std.specs.Option.{ok_or}
use Rattle.std.specs.Result.{IsErrAnd}
use Rattle.refusals.specs.declared.Refusal.TheVariants.{LongSheet}
use Rattle.refusals.specs.declared.Refusal.TheVariants as Refusal
use Rattle.text_lines.specs.declared.BadLine.{BadLine}
use Rattle.refusals.specs.declared.Verdict.{Verdict}
use Rattle.refusals.specs.Refusals.{checked, refuse_if, refuse_at}
use Rattle.refusals.proofs.Verdicts.{refuse_at_lem}
use Rattle.refusals.proofs.Checked.{first_stops, first_passes_on, last_decides}
use Rattle.runs.specs.Run.{most_wants}
use Rattle.sheet_reader.specs.declared.reader.Top.{Top}
use Rattle.sheet_reader.specs.declared.reader.Parts.{Parts}
use Rattle.text_bytes.specs.Text.{line_feed, behind, is_empty}
use Rattle.text_lines.specs.Lines.{line_of, after_lines, line_after, is_number_line, number_behind, is_pair_line, is_triple_line, first_bad_of}
use Rattle.sheet_reader.specs.Lines.{head_key, files_key, file_key, wants_key, want_key, is_tape_line, is_count_line, is_turn_line, turn_in, is_rule_line, names_sweep}
use Rattle.sheet_reader.specs.Sheet.{longest_sheet, most_sheet_files, sheet_head, sheet_turn_with, says_sweep, sheet_files, file_text, wants_text, sheet_wants, want_text, end_text, shifted, first_some, first_bad_top, first_bad_below, first_bad_line}
use Rattle.sheet_reader.specs.Reading.{sheet_verdict}
use Rattle.text_lines.specs.Found.{Passed, LinesPassed, LineBad}
use Rattle.sheet_reader.specs.Found.{NamePart}
use Rattle.sheet_reader.specs.Private.{TopIs, TopBad, FilesAt, WantsAt, BelowIs, BelowBad, PartsAre, PartsBad, SheetGood}
use Rattle.text_bytes.proofs.Bytes.{and_true_both}

-- So many lines passed, and what is left stands at a position.
pub record Reached (sheet : List ℕ) (lines at : ℕ) : Type 0 where
  pub within : at ≤ length sheet
  pub rest : drop at sheet ≡ after_lines lines sheet

module _ (sheet : List ℕ) (lines at : ℕ) (here : Reached sheet lines at) (test : List ℕ → Bool) where
  one_more : (next : ℕ) → Passed test sheet at next → Reached sheet (suc lines) next
  unfolding after_lines
  one_more next p = record { within = p.within; rest = p.rest ∙ ap (behind line_feed) here.rest }

  passes : (next : ℕ) → Passed test sheet at next → test (line_after lines sheet) ≡ true
  passes next p = rw (← here.rest) p.good

  fails : test (line_of (drop at sheet)) ≡ false → test (line_after lines sheet) ≡ false
  fails e = rw (← here.rest) e

-- A count line that passed has a number within its limit.
count_small : (key : List ℕ) (most : ℕ) (line : List ℕ) → is_count_line key most line ≡ true → number_behind key line ≤ most
unfolding is_count_line
count_small key most line e = leb-true (number_behind key line) most (and_true_both (is_number_line key line) (leb (number_behind key line) most) e).1

module _ (sheet : List ℕ) where
  pub tape_bad : is_tape_line (line_of sheet) ≡ false → TopBad sheet 1
  unfolding first_bad_top after_lines
  tape_bad bad = record { first = rw bad; some = omega arith }

  module _ (end at₁ : ℕ) (named : Passed is_tape_line sheet 0 at₁ × NamePart sheet end) where
    test₁ : is_tape_line (line_after 0 sheet) ≡ true
    unfolding after_lines
    test₁ = named.0.good

    at_head : Reached sheet 1 at₁
    unfolding after_lines
    at_head = record { within = named.0.within; rest = named.0.rest }

    pub head_bad : is_number_line head_key (line_of (drop at₁ sheet)) ≡ false → TopBad sheet 2
    unfolding first_bad_top
    head_bad e = let bad = fails sheet 1 at₁ at_head (is_number_line head_key) e in record { first = rw (test₁, bad); some = omega arith }

    module _ (head at₂ : ℕ) (head_read : Passed (is_number_line head_key) sheet at₁ at₂ × (head ≡ number_behind head_key (line_of (drop at₁ sheet)))) where
      test₂ : is_number_line head_key (line_after 1 sheet) ≡ true
      test₂ = passes sheet 1 at₁ at_head (is_number_line head_key) at₂ head_read.0

      at_turn : Reached sheet 2 at₂
      at_turn = one_more sheet 1 at₁ at_head (is_number_line head_key) at₂ head_read.0

      pub turn_bad : is_turn_line (line_of (drop at₂ sheet)) ≡ false → TopBad sheet 3
      unfolding first_bad_top
      turn_bad e = let bad = fails sheet 2 at₂ at_turn is_turn_line e in record { first = rw (test₁, test₂, bad); some = omega arith }

      module _ (turn at₃ : ℕ) (turn_read : Passed is_turn_line sheet at₂ at₃ × (turn ≡ turn_in (line_of (drop at₂ sheet)))) where
        test₃ : is_turn_line (line_after 2 sheet) ≡ true
        test₃ = passes sheet 2 at₂ at_turn is_turn_line at₃ turn_read.0

        at_rule : Reached sheet 3 at₃
        at_rule = one_more sheet 2 at₂ at_turn is_turn_line at₃ turn_read.0

        pub rule_bad : is_rule_line (line_of (drop at₃ sheet)) ≡ false → TopBad sheet 4
        unfolding first_bad_top
        rule_bad e = let bad = fails sheet 3 at₃ at_rule is_rule_line e in record { first = rw (test₁, test₂, test₃, bad); some = omega arith }

        module _ (sweep : Bool) (at₄ : ℕ) (rule_read : Passed is_rule_line sheet at₃ at₄ × (sweep ≡ names_sweep (line_of (drop at₃ sheet)))) where
          test₄ : is_rule_line (line_after 3 sheet) ≡ true
          test₄ = passes sheet 3 at₃ at_rule is_rule_line at₄ rule_read.0

          at_files : Reached sheet 4 at₄
          at_files = one_more sheet 3 at₃ at_rule is_rule_line at₄ rule_read.0

          pub files_bad : is_count_line files_key most_sheet_files (line_of (drop at₄ sheet)) ≡ false → TopBad sheet 5
          unfolding first_bad_top
          files_bad e =
              let bad = fails sheet 4 at₄ at_files (is_count_line files_key most_sheet_files) e in
              record { first = rw (test₁, test₂, test₃, test₄, bad); some = omega arith }

          pub top_good : (files at₅ : ℕ) → Passed (is_count_line files_key most_sheet_files) sheet at₄ at₅ × (files ≡ number_behind files_key (line_of (drop at₄ sheet)))
              → TopIs sheet (record { end = end; head = head; turn = turn; sweep = sweep; files = files; next = at₅ })
          unfolding first_bad_top sheet_head sheet_turn_with says_sweep sheet_files file_text
          top_good files at₅ read =
              let test₅ = passes sheet 4 at₄ at_files (is_count_line files_key most_sheet_files) at₅ read.0 in
              let past = one_more sheet 4 at₄ at_files (is_count_line files_key most_sheet_files) at₅ read.0 in
              let count : files ≡ number_behind files_key (line_after 4 sheet) = read.1 ∙ ap (λ t. number_behind files_key (line_of t)) at_files.rest in
              record {
                none = rw (test₁, test₂, test₃, test₄, test₅);
                name = named.1;
                head = head_read.1 ∙ ap (λ t. number_behind head_key (line_of t)) at_head.rest;
                turn = turn_read.1 ∙ ap (λ t. turn_in (line_of t)) at_turn.rest;
                sweep = rule_read.1 ∙ ap (λ t. names_sweep (line_of t)) at_rule.rest;
                files = count;
                few = rw count (count_small files_key most_sheet_files (line_after 4 sheet) test₅);
                within = past.within;
                rest = past.rest;
              }

-- The first number of a row that is not 0, step by step.
first_some_lem : (n : ℕ) (ns : List ℕ) → 0 < n → first_some (n ∷ ns) ≡ n
first_some_lem zero ns l = absurd (omega arith)
first_some_lem (suc n) ns l = refl

first_skip : (ns : List ℕ) → first_some (0 ∷ ns) ≡ first_some ns
first_skip ns = refl

shifted_some : (lines n : ℕ) → 0 < n → shifted lines n ≡ lines + n
shifted_some lines zero l = absurd (omega arith)
shifted_some lines (suc n) l = refl

pub files_bad_below : (sheet : List ℕ) (at files line : ℕ) → FilesAt sheet at files → LineBad (is_triple_line file_key) sheet at files line → BelowBad sheet (5 + line)
unfolding first_bad_below
files_bad_below sheet at files line p b =
    let bad : first_bad_of (is_triple_line file_key) (sheet_files sheet) (file_text sheet) ≡ line = rw (← p.count, ← p.rest) b.first in
    let some = b.some in
    let l : 0 < 5 + line = omega arith in
    record { first = rw (bad, shifted_some 5 line some, first_some_lem (5 + line)); some = l }

pub files_good_below : (sheet : List ℕ) (at files next : ℕ) → FilesAt sheet at files → LinesPassed (is_triple_line file_key) sheet at files next → WantsAt sheet next files
unfolding wants_text
files_good_below sheet at files next p b =
    record {
      count = p.count;
      few = p.few;
      within = b.within;
      rest = b.rest ∙ rw (p.count, p.rest);
      none = rw (← p.count, ← p.rest) b.none;
    }

-- The `wants` line and the lines below it.
module _ (sheet : List ℕ) (at files : ℕ) (p : WantsAt sheet at files) where
  pub wants_bad : is_count_line wants_key most_wants (line_of (drop at sheet)) ≡ false → BelowBad sheet (files + 6)
  unfolding first_bad_below
  wants_bad e =
      let bad : is_count_line wants_key most_wants (line_of (wants_text sheet)) ≡ false = rw (← p.rest) e in
      let l : 0 < files + 6 = omega arith in
      record { first = rw (p.none, bad, ← p.count, first_skip, first_some_lem (files + 6)); some = l }

  module _ (wants next : ℕ) (wants_read : Passed (is_count_line wants_key most_wants) sheet at next × (wants ≡ number_behind wants_key (line_of (drop at sheet)))) where
    wants_test : is_count_line wants_key most_wants (line_of (wants_text sheet)) ≡ true
    wants_test = rw (← p.rest) wants_read.0.good

    wants_count : wants ≡ sheet_wants sheet
    unfolding sheet_wants
    wants_count = wants_read.1 ∙ ap (λ t. number_behind wants_key (line_of t)) p.rest

    pub wants_few : wants ≤ most_wants
    wants_few = rw wants_read.1 (count_small wants_key most_wants (line_of (drop at sheet)) wants_read.0.good)

    wants_rest : drop next sheet ≡ want_text sheet
    unfolding want_text after_lines
    wants_rest = wants_read.0.rest ∙ ap (behind line_feed) p.rest

    pub want_bad : (line : ℕ) → LineBad (is_pair_line want_key) sheet next wants line → BelowBad sheet (files + 6 + line)
    unfolding first_bad_below
    want_bad line b =
        let bad : first_bad_of (is_pair_line want_key) (sheet_wants sheet) (want_text sheet) ≡ line = rw (← wants_count, ← wants_rest) b.first in
        let some = b.some in
        let l : 0 < files + 6 + line = omega arith in
        record { first = rw (p.none, wants_test, bad, ← p.count, shifted_some (files + 6) line some, first_skip, first_skip, first_some_lem (files + 6 + line)); some = l }

    module _ (last : ℕ) (b : LinesPassed (is_pair_line want_key) sheet next wants last) where
      wants_none_here : first_bad_of (is_pair_line want_key) (sheet_wants sheet) (want_text sheet) ≡ 0
      wants_none_here = rw (← wants_count, ← wants_rest) b.none

      end_is : end_text sheet ≡ drop last sheet
      unfolding end_text
      end_is = sym (b.rest ∙ rw (wants_count, wants_rest))

      pub text_behind : last < length sheet → BelowBad sheet (files + wants + 7)
      unfolding first_bad_below
      text_behind l =
          let more : is_empty (end_text sheet) ≡ false = rw (end_is, drop-cons sheet last 0 l) in
          let s : 0 < files + wants + 7 = omega arith in
          record { first = rw (p.none, wants_test, wants_none_here, more, ← p.count, ← wants_count, first_skip, first_skip, first_skip, first_some_lem (files + wants + 7)); some = s }

      pub below_good : length sheet ≤ last → BelowIs sheet wants next
      unfolding first_bad_below
      below_good l =
          let none : is_empty (end_text sheet) ≡ true = rw (end_is, drop_of_length-le sheet l) in
          record {
            none = rw (p.none, wants_test, wants_none_here, none);
            filed = p.none;
            wanted = wants_none_here;
            count = wants_count;
            within = wants_read.0.within;
            rest = wants_rest;
          }

pub parts_top_bad : (sheet : List ℕ) (line : ℕ) → TopBad sheet line → PartsBad sheet line
unfolding first_bad_line
parts_top_bad sheet line b = let l : 0 < line = b.some in record { first = rw (b.first, first_some_lem line); some = l }

pub parts_below_bad : (sheet : List ℕ) (top : Top) → TopIs sheet top → (line : ℕ) → BelowBad sheet line → PartsBad sheet line
unfolding first_bad_line
parts_below_bad sheet top t line b = let l : 0 < line = b.some in record { first = rw (t.none, b.first, first_skip, first_some_lem line); some = l }

abbrev lines_judged : List ℕ → List Verdict
lines_judged sheet = refuse_at (first_bad_line sheet) Refusal.BadLine ∷ []

-- 12 refuses; or it does not, and the lines decide.
pub sheet_long : (sheet : List ℕ) (v : Verdict) → Err v ≡ checked (refuse_if (ltb longest_sheet (length sheet)) LongSheet) → Err v ≡ checked (sheet_verdict sheet)
unfolding sheet_verdict
sheet_long sheet v said = first_stops _ (lines_judged sheet) v said

module _ (sheet : List ℕ) (fits : Ok tt ≡ checked (refuse_if (ltb longest_sheet (length sheet)) LongSheet)) where
  pub line_refuses : (line : ℕ) → PartsBad sheet line → Err (record { refusal = Refusal.BadLine; place = line }) ≡ checked (sheet_verdict sheet)
  unfolding sheet_verdict
  line_refuses line b =
      let some = b.some in
      first_passes_on _ (lines_judged sheet) tt _ fits (last_decides (refuse_at (first_bad_line sheet) Refusal.BadLine) _ (rw (b.first, refuse_at_lem line Refusal.BadLine (λ z. omega arith))))

  pub sheet_good : (parts : Parts) → PartsAre sheet parts → SheetGood sheet parts
  unfolding sheet_verdict first_bad_line
  sheet_good parts p = record { accepted = first_passes_on _ (lines_judged sheet) tt _ fits (rw (p.upper.none, p.below.none)); are = p }

-- An exit by `?` behind `ok_or` answers the line that this names.
pub exits_at : {T U : Type 0} (o : Option T) (line : ℕ) (found : BadLine) (r : Result U BadLine)
    → o ≡ None → Err found ≡ ok_or o (record { line = line }) → IsErrAnd r (λ e. e ≡ found) → r ≡ Err (record { line = line })
exits_at o line found (Ok x) none value exit = absurd exit
exits_at o line found (Err e) none value exit = let named : found ≡ record { line = line } = cc (rw none at value) in ap Err (exit ∙ named)
