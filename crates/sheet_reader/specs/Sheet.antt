-- A run sheet: which lines must stand where, the first that is not as described, and the run and the name that it holds.
use Rattle.std.specs.Prelude.{ℕ, suc, zero, ◌+◌, Bool, true, false, List, [], ◌∷◌}
use Rattle.runs.specs.Run.{Run, most_wants}
use Rattle.text_bytes.specs.Text.{is_empty}
use Rattle.text_lines.specs.Lines.{line_of, after_lines, line_after, value_text, is_number_line, number_behind, is_pair_line, first_in, second_in, is_triple_line, middle_in, third_in, first_bad_of, each_of}
use Rattle.sheet_reader.specs.Lines.{tape_key, head_key, files_key, file_key, wants_key, want_key, is_tape_line, is_count_line, is_turn_line, turn_with, empty_turn, is_rule_line, names_sweep}

-- The limits of a sheet. `wants` is limited as the run is.
abbrev pub longest_sheet : ℕ
longest_sheet = 16384

abbrev pub most_sheet_files : ℕ
most_sheet_files = 256

-- The numbers of the first lines.
unfoldable pub sheet_head : List ℕ → ℕ
sheet_head sheet = number_behind head_key (line_after 1 sheet)

-- Where an empty price means e, and as it is read.
unfoldable pub sheet_turn_with : ℕ → List ℕ → ℕ
sheet_turn_with e sheet = turn_with e (line_after 2 sheet)

abbrev pub sheet_turn : List ℕ → ℕ
sheet_turn sheet = sheet_turn_with empty_turn sheet

-- Whether the fourth line names the retired rule.
unfoldable pub says_sweep : List ℕ → Bool
says_sweep sheet = names_sweep (line_after 3 sheet)

unfoldable pub sheet_files : List ℕ → ℕ
sheet_files sheet = number_behind files_key (line_after 4 sheet)

-- The text from the first `file` line on, from the `wants` line on, from the first `want` line on, and behind the last of these.
unfoldable pub file_text : List ℕ → List ℕ
file_text sheet = after_lines 5 sheet

unfoldable pub wants_text : List ℕ → List ℕ
wants_text sheet = after_lines (sheet_files sheet) (file_text sheet)

unfoldable pub sheet_wants : List ℕ → ℕ
sheet_wants sheet = number_behind wants_key (line_of (wants_text sheet))

unfoldable pub want_text : List ℕ → List ℕ
want_text sheet = after_lines 1 (wants_text sheet)

unfoldable pub end_text : List ℕ → List ℕ
end_text sheet = after_lines (sheet_wants sheet) (want_text sheet)

-- The number of a line that is not as described, 0 where it is; and of the first such line of many that stand behind so many lines.
abbrev pub unless : Bool → ℕ → ℕ
unless true line = 0
unless false line = line

abbrev pub shifted : ℕ → ℕ → ℕ
shifted lines zero = 0
shifted lines (suc i) = lines + suc i

-- The first number of a row that is not 0.
abbrev pub first_some : List ℕ → ℕ
first_some [] = 0
first_some (zero ∷ lines) = first_some lines
first_some (suc line ∷ lines) = suc line

-- The first of the first five lines that is not as described, and the first of the others; 0 where all are.
unfoldable pub first_bad_top : List ℕ → ℕ
first_bad_top sheet =
    first_some
    (unless (is_tape_line (line_after 0 sheet)) 1
    ∷ unless (is_number_line head_key (line_after 1 sheet)) 2
    ∷ unless (is_turn_line (line_after 2 sheet)) 3
    ∷ unless (is_rule_line (line_after 3 sheet)) 4
    ∷ unless (is_count_line files_key most_sheet_files (line_after 4 sheet)) 5
    ∷ [])

unfoldable pub first_bad_below : List ℕ → ℕ
first_bad_below sheet =
    first_some
    (shifted 5 (first_bad_of (is_triple_line file_key) (sheet_files sheet) (file_text sheet))
    ∷ unless (is_count_line wants_key most_wants (line_of (wants_text sheet))) (sheet_files sheet + 6)
    ∷ shifted (sheet_files sheet + 6) (first_bad_of (is_pair_line want_key) (sheet_wants sheet) (want_text sheet))
    ∷ unless (is_empty (end_text sheet)) (sheet_files sheet + sheet_wants sheet + 7)
    ∷ [])

-- The first line of a sheet that is not as described; 0 where all are.
unfoldable pub first_bad_line : List ℕ → ℕ
first_bad_line sheet = first_some (first_bad_top sheet ∷ first_bad_below sheet ∷ [])

-- The run that a sheet holds, where an empty price means e: `file` is start, length and
-- aggregate, `want` is file number and count.
abbrev pub sheet_run_with : ℕ → List ℕ → Run
sheet_run_with e sheet =
    record {
      starts = each_of (λ i. first_in file_key (line_after i (file_text sheet))) (sheet_files sheet);
      lengths = each_of (λ i. middle_in file_key (line_after i (file_text sheet))) (sheet_files sheet);
      aggregates = each_of (λ i. third_in file_key (line_after i (file_text sheet))) (sheet_files sheet);
      numbers = each_of (λ i. first_in want_key (line_after i (want_text sheet))) (sheet_wants sheet);
      counts = each_of (λ i. second_in want_key (line_after i (want_text sheet))) (sheet_wants sheet);
      head = sheet_head sheet;
      turn = sheet_turn_with e sheet;
    }

unfoldable pub sheet_run : List ℕ → Run
sheet_run sheet = sheet_run_with empty_turn sheet

-- The tape name that a sheet holds.
unfoldable pub sheet_name : List ℕ → List ℕ
sheet_name sheet = value_text tape_key (line_after 0 sheet)
