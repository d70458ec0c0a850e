-- A loose sheet: a run sheet as it comes by mail, before it is mended. Its lines are document 01's, in its order and form, but for the two counts: after
-- `files=` stands any number and up to 256 file lines follow, after `wants=` any number and want lines to the end.
use Rattle.std.specs.Prelude.{ℕ, ◌+◌, Bool, List, [], ◌∷◌}
use Rattle.text_bytes.specs.Text.{is_empty}
use Rattle.text_lines.specs.Lines.{line_of, after_lines, line_after, value_text, is_number_line, number_behind, is_pair_line, first_in, second_in, is_triple_line, first_bad_of, each_of, lines_before}
use Rattle.sheet_reader.specs.Lines.{head_key, turn_key, files_key, file_key, wants_key, want_key, is_tape_line, is_turn_line, is_rule_line}
use Rattle.sheet_reader.specs.Sheet.{longest_sheet, most_sheet_files, file_text, unless, first_some}

-- The file lines that come; the text from the `wants` line on, and from the first want line on; the want lines that come (a sheet has fewer lines than
-- bytes); and what stands behind them.
unfoldable pub loose_files : List ℕ → ℕ
loose_files sheet = lines_before most_sheet_files (first_bad_of (is_triple_line file_key) most_sheet_files (file_text sheet))

unfoldable pub loose_wants_text : List ℕ → List ℕ
loose_wants_text sheet = after_lines (loose_files sheet) (file_text sheet)

unfoldable pub loose_want_text : List ℕ → List ℕ
loose_want_text sheet = after_lines 1 (loose_wants_text sheet)

unfoldable pub loose_wants : List ℕ → ℕ
loose_wants sheet = lines_before longest_sheet (first_bad_of (is_pair_line want_key) longest_sheet (loose_want_text sheet))

unfoldable pub loose_end : List ℕ → List ℕ
loose_end sheet = after_lines (loose_wants sheet) (loose_want_text sheet)

-- What `wants=` says, and whether `turn=` is empty.
unfoldable pub wants_said : List ℕ → ℕ
wants_said sheet = number_behind wants_key (line_of (loose_wants_text sheet))

unfoldable pub price_left_out : List ℕ → Bool
price_left_out sheet = is_empty (value_text turn_key (line_after 2 sheet))

-- The first line that is not as described: of the first five, of the others, and of all; 0 where all are.
unfoldable pub first_bad_loose_top : List ℕ → ℕ
first_bad_loose_top sheet =
    first_some
    (unless (is_tape_line (line_after 0 sheet)) 1
    ∷ unless (is_number_line head_key (line_after 1 sheet)) 2
    ∷ unless (is_turn_line (line_after 2 sheet)) 3
    ∷ unless (is_rule_line (line_after 3 sheet)) 4
    ∷ unless (is_number_line files_key (line_after 4 sheet)) 5
    ∷ [])

unfoldable pub first_bad_loose_below : List ℕ → ℕ
first_bad_loose_below sheet =
    first_some
    (unless (is_number_line wants_key (line_of (loose_wants_text sheet))) (loose_files sheet + 6)
    ∷ unless (is_empty (loose_end sheet)) (loose_files sheet + loose_wants sheet + 7)
    ∷ [])

unfoldable pub first_bad_loose : List ℕ → ℕ
first_bad_loose sheet = first_some (first_bad_loose_top sheet ∷ first_bad_loose_below sheet ∷ [])

-- The file that each want line names, and the count behind it.
unfoldable pub wanted_files : List ℕ → List ℕ
wanted_files sheet = each_of (λ i. first_in want_key (line_after i (loose_want_text sheet))) (loose_wants sheet)

unfoldable pub wanted_counts : List ℕ → List ℕ
wanted_counts sheet = each_of (λ i. second_in want_key (line_after i (loose_want_text sheet))) (loose_wants sheet)
