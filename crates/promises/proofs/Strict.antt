-- A sheet that is as described, whose two counts say how many lines follow, is one that the reader of run sheets takes.
use Prim.Native.Nat.{ℕ, ◌+◌, ◌≤◌}
use mathlib.Core.Path.{◌≡◌, refl, ap, sym, ◌∙◌}
use mathlib.Core.Bool.{Bool, true, ◌&&◌}
use mathlib.Core.List.{List, [], ◌∷◌}
use native.Mathlib.Omega.{arith}
use lib.Dec.{leb}
use borrow.Author.Tests.{le-leb}
use Rattle.runs.specs.Run.{most_wants}
use Rattle.text_bytes.specs.Text.{is_empty}
use Rattle.text_lines.specs.Lines.{line_of, after_lines, line_after, is_number_line, number_behind, is_pair_line, first_in, second_in, is_triple_line, first_bad_of, each_of}
use Rattle.sheet_reader.specs.Lines.{head_key, files_key, file_key, wants_key, want_key, is_tape_line, is_count_line, is_turn_line, is_rule_line}
use Rattle.sheet_reader.specs.Sheet.{most_sheet_files, sheet_files, file_text, wants_text, sheet_wants, want_text, end_text, unless, shifted, first_bad_top, first_bad_below, first_bad_line, sheet_run}
use Rattle.sheet_loose.specs.Loose.{loose_files, loose_wants_text, loose_want_text, loose_wants, loose_end, wants_said, first_bad_loose, wanted_files, wanted_counts}
use Rattle.sheet_loose.proofs.Wants.{lines_good, want_lines_good}
use Rattle.answer_mend.proofs.Texts.{few_files}
use Rattle.promises.proofs.Described.{described}

count_line_lem : (key : List ℕ) (most : ℕ) (text : List ℕ) → is_number_line key text ≡ true → number_behind key text ≤ most → is_count_line key most text ≡ true
unfolding is_count_line
count_line_lem key most text number l = rw (number, le-leb (number_behind key text) most l)

module _ (text : List ℕ) (good : first_bad_loose text ≡ 0) (files_said : sheet_files text ≡ loose_files text) (wants_said_lem : wants_said text ≡ loose_wants text) (few : loose_wants text ≤ most_wants) where
  tail_same_here : wants_text text ≡ loose_wants_text text
  unfolding wants_text loose_wants_text
  tail_same_here = rw files_said

  wants_same_here : sheet_wants text ≡ loose_wants text
  unfolding sheet_wants wants_said
  wants_same_here = rw tail_same_here wants_said_lem

  body_same : want_text text ≡ loose_want_text text
  unfolding want_text loose_want_text
  body_same = rw tail_same_here

  table_good : first_bad_of (is_triple_line file_key) (sheet_files text) (file_text text) ≡ 0
  unfolding loose_files
  table_good = rw files_said (lines_good (is_triple_line file_key) most_sheet_files (file_text text))

  body_good : first_bad_of (is_pair_line want_key) (sheet_wants text) (want_text text) ≡ 0
  body_good = rw (wants_same_here, body_same) (want_lines_good text)

  end_same : is_empty (end_text text) ≡ true
  unfolding end_text loose_end
  end_same = rw (wants_same_here, body_same) (described text good).end

  files_few_here : is_count_line files_key most_sheet_files (line_after 4 text) ≡ true
  unfolding sheet_files
  files_few_here = count_line_lem files_key most_sheet_files (line_after 4 text) (described text good).files (rw files_said (few_files text))

  wants_few_here : is_count_line wants_key most_wants (line_of (wants_text text)) ≡ true
  unfolding wants_said
  wants_few_here = rw tail_same_here (count_line_lem wants_key most_wants (line_of (loose_wants_text text)) (described text good).wants (rw wants_said_lem few))

  pub strict : first_bad_line text ≡ 0
  unfolding first_bad_line first_bad_top first_bad_below
  strict = rw ((described text good).tape, (described text good).head, (described text good).turn, (described text good).rule, files_few_here, table_good, wants_few_here, body_good, end_same)

  pub numbers_read : (sheet_run text).numbers ≡ wanted_files text
  unfolding sheet_run wanted_files
  numbers_read = rw (wants_same_here, body_same)

  pub counts_read : (sheet_run text).counts ≡ wanted_counts text
  unfolding sheet_run wanted_counts
  counts_read = rw (wants_same_here, body_same)
