-- The bytes of one tape as they are handed in: `tape=NAME` LF, `label=N` LF and N bytes, `index=M` LF and M bytes, nothing behind. What is answered to
-- any bytes, and the two rows that take the answer's two texts.
use Rattle.std.specs.Prelude.{ℕ, ◌≡◌, Bool, cond, not, ◌&&◌, ◌||◌, List, [], ◌∷◌, ◌++◌, length, take, drop, leb, ltb}
use Rattle.refusals.specs.declared.Refusal.TheVariants.{BadName, BadText}
use Rattle.refusals.specs.declared.Verdict.{Verdict}
use Rattle.refusals.specs.Refusals.{is_refusal, refuse_if, first_of}
use Rattle.text_bytes.specs.Text.{bytes, line_feed, behind, is_empty}
use Rattle.text_lines.specs.Lines.{line_of, value_text, is_number_line, number_behind}
use Rattle.text_pages.specs.Printing.{number_line}
use Rattle.sheet_reader.specs.Lines.{tape_key, is_tape_line}
use Rattle.sheet_writer.specs.RefusalLines.{refusal_text}
use Rattle.tape_markup.specs.Tree.{tree_of}
use Rattle.answer_ltfs.specs.declared.Told.{Told}
use Rattle.tape_files.specs.Index.{data_partition_of, index_files}
use Rattle.answer_ltfs.specs.TapeTable.{is_empty_file, lies_elsewhere, how_many, ltfs_sheet, tape_verdict}

-- No input has more bytes.
abbrev pub most_tape_input : ℕ
most_tape_input = 524288

-- The keys of the two texts in it, and those of the report.
abbrev pub label_key : List ℕ
label_key = bytes "label="

abbrev pub index_key : List ℕ
index_key = bytes "index="

abbrev pub empty_key : List ℕ
empty_key = bytes "empty="

abbrev pub other_key : List ℕ
other_key = bytes "other="

-- A text behind a line with a key and the number of its bytes: whether so many bytes are there, the text, and what follows it.
unfoldable pub is_counted : List ℕ → List ℕ → Bool
is_counted key input = is_number_line key (line_of input) && leb (number_behind key (line_of input)) (length (behind line_feed input))

unfoldable pub counted_text : List ℕ → List ℕ → List ℕ
counted_text key input = take (number_behind key (line_of input)) (behind line_feed input)

unfoldable pub after_counted : List ℕ → List ℕ → List ℕ
after_counted key input = drop (number_behind key (line_of input)) (behind line_feed input)

-- What stands behind the name's line: the label, and behind it the index.
abbrev pub framed_label : List ℕ → List ℕ
framed_label rest = counted_text label_key rest

abbrev pub framed_index : List ℕ → List ℕ
framed_index rest = counted_text index_key (after_counted label_key rest)

-- Both are there, and nothing behind them.
unfoldable pub is_framed : List ℕ → Bool
is_framed rest =
    is_counted label_key rest && is_counted index_key (after_counted label_key rest) && is_empty (after_counted index_key (after_counted label_key rest))

-- Name, label and index of an input.
abbrev pub input_name : List ℕ → List ℕ
input_name input = value_text tape_key (line_of input)

abbrev pub input_label : List ℕ → List ℕ
input_label input = framed_label (behind line_feed input)

abbrev pub input_index : List ℕ → List ℕ
input_index input = framed_index (behind line_feed input)

-- 20: an input that is too long, or one whose texts are not framed so.
abbrev pub bad_frame : List ℕ → List ℕ → Bool
bad_frame input rest = ltb most_tape_input (length input) || not (is_framed rest)

-- 13 for the first line, then that 20, then what the label and the index are refused with.
unfoldable pub tape_input_verdict : List ℕ → Verdict
tape_input_verdict input =
    first_of
    (refuse_if (not (is_tape_line (line_of input))) BadName
    ∷ refuse_if (bad_frame input (behind line_feed input)) BadText
    ∷ tape_verdict (input_name input) (input_label input) (input_index input)
    ∷ [])

-- The text for standard output: the run sheet, or the two lines of the refusal.
unfoldable pub answer_text : List ℕ → List ℕ
answer_text input =
    cond (is_refusal (tape_input_verdict input).refusal) (refusal_text (tape_input_verdict input))
    (ltfs_sheet (input_name input) (input_label input) (input_index input))

-- The report: how many files were left out, empty or in the other partition; nothing on a refusal.
unfoldable pub left_out_text : ℕ → ℕ → List ℕ
left_out_text empty other = number_line empty_key empty ++ number_line other_key other

unfoldable pub report_text : List ℕ → List ℕ
report_text input =
    cond (is_refusal (tape_input_verdict input).refusal) []
    (left_out_text (how_many is_empty_file (index_files (tree_of (input_index input))))
    (how_many (lies_elsewhere (data_partition_of (tree_of (input_label input)))) (index_files (tree_of (input_index input)))))

-- Two texts in the first bytes of two rows, the later bytes as they were: how many bytes each has. Where a row is shorter than its text, both rows
-- are as they were and both numbers are 0.
abbrev pub rows_short : List ℕ → List ℕ → List ℕ → List ℕ → Bool
rows_short text report out notes = ltb (length out) (length text) || ltb (length notes) (length report)

pub record BothHanded (text report out notes : List ℕ) (r : Told) (out' notes' : List ℕ) : Type 0 where
  pub told : r ≡ cond (rows_short text report out notes) (record { bytes = 0; noted = 0 }) (record { bytes = length text; noted = length report })
  pub sheet : out' ≡ cond (rows_short text report out notes) out (text ++ drop (length text) out)
  pub listed : notes' ≡ cond (rows_short text report out notes) notes (report ++ drop (length report) notes)

-- The answer to an input.
abbrev pub InputAnswered : List ℕ → List ℕ → List ℕ → Told → List ℕ → List ℕ → Type 0
InputAnswered input out notes r out' notes' = BothHanded (answer_text input) (report_text input) out notes r out' notes'
