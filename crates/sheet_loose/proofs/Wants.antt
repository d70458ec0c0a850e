-- How many want lines a sheet can have.
use Prim.Native.Nat.{ℕ, zero, suc, ◌*◌, ◌≤◌}
use mathlib.Core.Path.{◌≡◌, refl}
use mathlib.Core.Bool.{Bool, not}
use mathlib.Core.List.{List}
use native.Mathlib.Omega.{arith}
use lib.ListN.{length}
use Rattle.refusals.specs.Refusals.{first_where}
use Rattle.runs.proofs.Search.{first_before, first_all}
use Rattle.text_lines.specs.Lines.{after_lines, line_after, is_pair_line, first_bad_of, lines_before}
use Rattle.sheet_reader.specs.Lines.{want_key}
use Rattle.sheet_reader.specs.Sheet.{longest_sheet, file_text}
use Rattle.sheet_loose.specs.Loose.{loose_files, loose_wants_text, loose_want_text, loose_wants}
use Rattle.sheet_loose.proofs.Passing.{wants_long}
use Rattle.sheet_loose.proofs.Ends.{Ends, ends_on, after_ends}

-- The lines that come are all as described.
pub lines_good : (test : List ℕ → Bool) (most : ℕ) (text : List ℕ) → first_bad_of test (lines_before most (first_bad_of test most text)) text ≡ 0
unfolding first_bad_of
lines_good test most text = go (first_where bad most) refl
  where
    bad : ℕ → Bool
    bad i = not (test (line_after i text))

    go : (n : ℕ) → first_where bad most ≡ n → first_where bad (lines_before most n) ≡ 0
    go zero e = e
    go (suc i) e = first_all bad i (first_before bad most i e)

pub want_lines_good : (sheet : List ℕ) → first_bad_of (is_pair_line want_key) (loose_wants sheet) (loose_want_text sheet) ≡ 0
unfolding loose_wants
want_lines_good sheet = lines_good (is_pair_line want_key) longest_sheet (loose_want_text sheet)

pub want_text_ends : (sheet : List ℕ) → Ends (loose_want_text sheet) sheet
unfolding loose_want_text loose_wants_text file_text
want_text_ends sheet =
    ends_on (after_lines 1 (after_lines (loose_files sheet) (after_lines 5 sheet))) (after_lines (loose_files sheet) (after_lines 5 sheet)) sheet
    (after_ends 1 (after_lines (loose_files sheet) (after_lines 5 sheet)))
    (ends_on (after_lines (loose_files sheet) (after_lines 5 sheet)) (after_lines 5 sheet) sheet (after_ends (loose_files sheet) (after_lines 5 sheet)) (after_ends 5 sheet))

pub wants_few : (sheet : List ℕ) → loose_wants sheet * 6 ≤ length sheet
wants_few sheet = omega (arith, wants_long (loose_want_text sheet) (loose_wants sheet) (want_lines_good sheet), (want_text_ends sheet).short)
