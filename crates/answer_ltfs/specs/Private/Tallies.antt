-- What the functions that count files, fill the table and answer for it ask and leave. No public contract cites this file.
use Rattle.std.specs.Prelude.{ℕ, ◌+◌, ◌≤◌, ◌<◌, ◌^◌, ◌≡◌, Bool, true, false, cond, not, ◌&&◌, List, [], ◌∷◌, ◌++◌, map, length, take, get_or, eqb}
use Rattle.refusals.specs.declared.Refusal.TheVariants.{Accepted, BadName, BadText, ManyExtents, Overlap, FarFile}
use Rattle.refusals.specs.declared.Verdict.{Verdict}
use Rattle.refusals.specs.Refusals.{is_refusal, refuse_if, first_of}
use Rattle.runs.specs.Run.{last_place}
use Rattle.text_bytes.specs.Text.{is_name}
use Rattle.sheet_writer.specs.declared.Written.{Written}
use Rattle.sheet_writer.specs.Writing.{sheet_text, row_verdict, written_row}
use Rattle.answer_ltfs.specs.declared.Report.{Report}
use Rattle.tape_files.specs.declared.Label.{Label}
use Rattle.tape_ranges.specs.declared.File.{File}
use Rattle.tape_ranges.specs.declared.Tally.{Tally}
use Rattle.tape_markup.specs.Tree.{Forest, is_balanced, tree_of}
use Rattle.tape_files.specs.Index.{every, some, is_none, insides, index_name, is_good_extent}
use Rattle.tape_ranges.specs.Ranges.{Range, ranges_from, neighbour_overlap}
use Rattle.answer_ltfs.specs.TapeTable.{in_several, is_empty_file, lies_elsewhere, how_many, ranges_of, in_tape_order, are_far, some_overlap, run_of_table, refused_report}
use Rattle.tape_files.specs.Values.{is_value}
use Rattle.answer_ltfs.specs.Private.Parts.{file_of}

-- The rows of a table have its size.
pub record TableRows (starts lengths : List ℕ) : Type 0 where
  pub first : length starts ≡ 256
  pub second : length lengths ≡ 256

-- A table in the first entries of two rows.
pub record RowsHold (table : List Range) (kept : ℕ) (starts lengths : List ℕ) : Type 0 where
  pub start : take kept starts ≡ map (λ range. range.start) table
  pub bytes : take kept lengths ≡ map (λ range. range.bytes) table

-- What files come to, where all their extents are good.
pub record Counted (size partition : ℕ) (files : List (List Forest)) (tally : Tally) (starts lengths : List ℕ) : Type 0 where
  pub empty : tally.empty ≡ how_many is_empty_file files
  pub other : tally.other ≡ how_many (lies_elsewhere partition) files
  pub far : tally.far ≡ are_far (ranges_of size partition files)
  pub table : tally.far ≡ false → RowsHold (in_tape_order (ranges_of size partition files)) tally.kept starts lengths

pub record TallyHolds (size partition : ℕ) (files : List (List Forest)) (tally : Tally) (starts lengths : List ℕ) : Type 0 where
  pub good : tally.good ≡ every (every is_good_extent) files
  pub several : tally.several ≡ some in_several files
  pub within : tally.kept ≤ 256
  pub counted : tally.good ≡ true → Counted size partition files tally starts lengths

-- A tally that may count one more file.
pub record CountFits (tally : Tally) : Type 0 where
  pub kept : tally.kept ≤ 256
  pub others : tally.empty + tally.other + 1 < 2 ^ 64

-- Whatever files were counted, one more is counted.
pub record FileCounted (tally : Tally) (f : File) (size partition : ℕ) (starts lengths : List ℕ) (r : Tally) (starts' lengths' : List ℕ) : Type 0 where
  pub within : r.kept ≤ 256
  pub others : r.empty + r.other ≤ tally.empty + tally.other + 1
  pub holds : (files : List (List Forest)) (extents : List Forest) → f ≡ file_of extents → TallyHolds size partition files tally starts lengths → TallyHolds size partition (files ++ (extents ∷ [])) r starts' lengths'

-- No end in the first entries of two rows is above the limit.
abbrev pub EndsFit : List ℕ → List ℕ → ℕ → Type 0
EndsFit starts lengths kept = (i : ℕ) → i < kept → get_or starts i 0 + get_or lengths i 0 ≤ last_place

-- 20 for what the texts say themselves: not balanced, a value of the label that is missing or bad, no outermost `ltfsindex`.
abbrev pub texts_read : List ℕ → List ℕ → Label → Bool
texts_read label index read =
    is_balanced label && is_balanced index && (is_value read.size && is_value read.partition) && not (is_none (insides index_name (tree_of index)))

abbrev pub text_checks : List ℕ → List ℕ → List ℕ → Label → List Verdict
text_checks name label index read = refuse_if (not (is_name name)) BadName ∷ refuse_if (not (texts_read label index read)) BadText ∷ []

-- 20, 21, 23 and 22 for the files that were counted.
abbrev pub file_checks : Tally → List ℕ → List ℕ → List Verdict
file_checks tally starts lengths =
    refuse_if (not tally.good) BadText
    ∷ refuse_if tally.several ManyExtents
    ∷ refuse_if tally.far FarFile
    ∷ refuse_if (neighbour_overlap (ranges_from (take tally.kept starts) (take tally.kept lengths))) Overlap
    ∷ []

-- The answer of a sheet that was written or refused.
unfoldable pub report_of : Written → Tally → Report
report_of written tally =
    cond (eqb written.bytes 0) (refused_report (record { refusal = written.refusal; place = written.place }))
    (record {
      refusal = Accepted;
      place = 0;
      bytes = written.bytes;
      empty = tally.empty;
      other = tally.other;
    })

-- The answer and the row for an index, a block size and a data partition, where name, balance, label and root are as they should be.
unfoldable pub table_sheet : List ℕ → ℕ → ℕ → List (List Forest) → List ℕ
table_sheet name size partition files = sheet_text name (run_of_table (in_tape_order (ranges_of size partition files)))

unfoldable pub table_verdict : List ℕ → ℕ → ℕ → List (List Forest) → List ℕ → Verdict
table_verdict name size partition files row =
    first_of
    (refuse_if (not (every (every is_good_extent) files)) BadText
    ∷ refuse_if (some in_several files) ManyExtents
    ∷ refuse_if (are_far (ranges_of size partition files)) FarFile
    ∷ refuse_if (some_overlap (in_tape_order (ranges_of size partition files))) Overlap
    ∷ row_verdict (table_sheet name size partition files) row
    ∷ [])

unfoldable pub table_report : List ℕ → ℕ → ℕ → List (List Forest) → List ℕ → Report
table_report name size partition files row =
    cond (is_refusal (table_verdict name size partition files row).refusal) (refused_report (table_verdict name size partition files row))
    (record {
      refusal = Accepted;
      place = 0;
      bytes = length (table_sheet name size partition files);
      empty = how_many is_empty_file files;
      other = how_many (lies_elsewhere partition) files;
    })

unfoldable pub table_row : List ℕ → ℕ → ℕ → List (List Forest) → List ℕ → List ℕ
table_row name size partition files row = written_row (table_verdict name size partition files row) (table_sheet name size partition files) row
