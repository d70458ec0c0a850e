-- What is answered for the files of an index and for a label and an index, check by check.
use Prim.Native.Nat.{ℕ, zero, suc, ◌≤◌}
use mathlib.Core.Path.{◌≡◌, refl, ap, sym, ◌∙◌, subst}
use mathlib.Core.Bool.{Bool, true, false, not, ◌&&◌, and_assoc, true≢false}
use mathlib.Core.List.{List, [], ◌∷◌}
use native.Mathlib.Omega.{arith}
use lib.ListN.{length, take, length-map}
use lib.Seq.{take-nil}
use lib.Dec.{ltb}
use borrow.Author.Tests.{ltb-false, le-ltb, ne_eqb, not-false}
use Rattle.refusals.specs.declared.Refusal.TheVariants.{BadName, BadText, ManyExtents, Overlap, FarFile, ShortRow}
use Rattle.refusals.specs.declared.Verdict.{Verdict}
use Rattle.refusals.specs.Refusals.{accepted, refuse_if, first_of}
use Rattle.refusals.proofs.Verdicts.{refuses, all_accept, accepts_if}
use Rattle.runs.specs.Run.{Run, run_of}
use Rattle.runs.specs.Alone.{alone_of, zeros}
use Rattle.runs.specs.Judging.{judge_of}
use Rattle.runs.proofs.Search.{or_false_both}
use Rattle.sheet_writer.specs.declared.Written.{Written}
use Rattle.text_bytes.specs.Text.{is_name, is_number, value_of}
use Rattle.text_bytes.proofs.Bytes.{and_true_both}
use Rattle.sheet_writer.specs.Writing.{top_text, sheet_text, row_verdict, write_verdict, written_answer, written_row, SheetWritten}
use Rattle.sheet_writer.proofs.Sheets.{first_row}
use Rattle.answer_ltfs.specs.declared.Report.{Report}
use Rattle.tape_ranges.specs.declared.Tally.{Tally}
use Rattle.tape_markup.specs.Tree.{Forest, is_balanced, tree_of}
use Rattle.tape_files.specs.Index.{every, some, is_none, insides, are_good, is_partition, letter_of, index_name, block_sizes, data_partitions, is_good_label, block_size_of, data_partition_of, is_good_extent, index_files, is_good_index}
use Rattle.tape_ranges.specs.Ranges.{Range}
use Rattle.answer_ltfs.specs.TapeTable.{in_several, ranges_of, in_tape_order, are_far, some_overlap, last_end, run_of_table, ranges_in, tape_table, are_good_texts, ltfs_sheet, ltfs_verdict, refused_report, ltfs_report, ltfs_row}
use Rattle.tape_ranges.specs.Ranges.{ranges_from, neighbour_overlap}
use Rattle.tape_files.specs.Values.{is_value, value_in, number_field, letter_field, label_of}
use Rattle.answer_ltfs.specs.Private.Tallies.{TableRows, RowsHold, EndsFit, TallyHolds, texts_read, text_checks, file_checks, report_of, table_sheet, table_verdict, table_report, table_row}
use Rattle.answer_ltfs.proofs.Order.{some_kept, length_kept, tape_order_ascends, held_ranges}
use Rattle.answer_ltfs.proofs.Tallies.{held_length}
use Rattle.tape_files.proofs.Said.{field_good, field_value, number_form, letter_form}
use Rattle.answer_ltfs.proofs.Neighbours.{is_void, is_beyond, same_overlap, none_void, ends_fit_lem, passes}

-- A sheet has bytes.
text_some : (name : List ℕ) (run : Run) → length (sheet_text name run) ≡ 0 → ⊥
unfolding sheet_text top_text
text_some name run e = omega arith

-- Where the run passes and the name is one, the sheet writer checks only the row.
write_checks : (name : List ℕ) (run : Run) (row : List ℕ) → is_name name ≡ true → judge_of run ≡ accepted → length run.starts ≤ 256
    → write_verdict name run row ≡ refuse_if (ltb (length row) (length (sheet_text name run))) ShortRow
unfolding write_verdict row_verdict
write_checks name run row n j l = rw (j, le-ltb 256 (length run.starts) l, n) (first_row (ltb (length row) (length (sheet_text name run))))

-- What the sheet writer wrote with a row of zeros is the sheet of files that lie in no aggregate.
pub table_written : (name starts lengths aggregates : List ℕ) (head : ℕ) (row : List ℕ) (w : Written) (row' : List ℕ) → aggregates ≡ zeros (length starts)
    → SheetWritten name (run_of starts lengths aggregates [] [] head 0) row w row' → SheetWritten name (alone_of starts lengths [] [] head 0) row w row'
table_written name starts lengths aggregates head row w row' e written = subst (λ zs. SheetWritten name (run_of starts lengths zs [] [] head 0) row w row') e written

pub kept_few : (kept most : ℕ) (row : List ℕ) → kept ≤ most → length (take kept row) ≤ most
kept_few kept most [] l = rw (take-nil kept) (omega arith)
kept_few zero most (x ∷ row) l = omega arith
kept_few (suc kept) zero (x ∷ row) l = absurd (omega arith)
kept_few (suc kept) (suc most) (x ∷ row) l = omega (arith, kept_few kept most row (omega arith))

-- The table of an index within the limits, without two files that overlap.
module _ (size partition : ℕ) (files : List (List Forest)) where
  abbrev pub tableFor : List Range
  tableFor = in_tape_order (ranges_of size partition files)

  few_ranges : are_far (ranges_of size partition files) ≡ false → (length tableFor ≤ 256) × (some is_beyond tableFor ≡ false)
  unfolding are_far
  few_ranges e =
      let both = or_false_both (ltb 256 (length (ranges_of size partition files))) (some is_beyond (ranges_of size partition files)) e in
      let l = ltb-false 256 (length (ranges_of size partition files)) both.0 in
      (rw (length_kept (ranges_of size partition files)) l, some_kept is_beyond (ranges_of size partition files) ∙ both.1)

  full_ranges : some is_void tableFor ≡ false
  full_ranges = some_kept is_void (ranges_of size partition files) ∙ none_void size partition files

  pub overlap_is : some_overlap tableFor ≡ neighbour_overlap tableFor
  overlap_is = same_overlap tableFor (tape_order_ascends (ranges_of size partition files)) full_ranges

  pub table_passes : are_far (ranges_of size partition files) ≡ false → some_overlap tableFor ≡ false → judge_of (run_of_table tableFor) ≡ accepted
  table_passes f o =
      let few = few_ranges f in
      passes tableFor few.0 full_ranges few.1 (sym overlap_is ∙ o)

  pub table_few : are_far (ranges_of size partition files) ≡ false → length (run_of_table tableFor).starts ≤ 256
  unfolding run_of_table
  table_few f = rw (length-map tableFor (λ range. range.start)) (few_ranges f).0

-- The checks of the files of an index.
module _ (name : List ℕ) (size partition : ℕ) (files : List (List Forest)) (row : List ℕ) where
  refused_table_here : (v : Verdict) → refuses v ≡ true → table_verdict name size partition files row ≡ v → (refused_report v ≡ table_report name size partition files row) × (row ≡ table_row name size partition files row)
  unfolding table_report table_row written_row
  refused_table_here v r e = (rw (e, r), rw (e, r))

  row_table : every (every is_good_extent) files ≡ true → some in_several files ≡ false → are_far (ranges_of size partition files) ≡ false
      → some_overlap (in_tape_order (ranges_of size partition files)) ≡ false
      → table_verdict name size partition files row ≡ refuse_if (ltb (length row) (length (table_sheet name size partition files))) ShortRow
  unfolding table_verdict row_verdict
  row_table g s f o = rw (g, s, f, o) (first_row (ltb (length row) (length (table_sheet name size partition files))))

  module _ (tally : Tally) (starts lengths : List ℕ) (h : TallyHolds size partition files tally starts lengths) where
    abbrev FilesDecide : Type 0
    FilesDecide = table_verdict name size partition files row ≡ first_of (file_checks tally starts lengths)

    same_bad : tally.good ≡ false → FilesDecide
    unfolding table_verdict
    same_bad g = rw (sym h.good ∙ g, g)

    same_several : tally.good ≡ true → tally.several ≡ true → FilesDecide
    unfolding table_verdict
    same_several g s = rw (sym h.good ∙ g, sym h.several ∙ s, g, s)

    module _ (g : tally.good ≡ true) (s : tally.several ≡ false) where
      far_is : tally.far ≡ are_far (ranges_of size partition files)
      far_is = (h.counted g).far

      same_far : tally.far ≡ true → FilesDecide
      unfolding table_verdict
      same_far f = rw (sym h.good ∙ g, sym h.several ∙ s, sym far_is ∙ f, g, s, f)

      module _ (f : tally.far ≡ false) (fits : TableRows starts lengths) where
        held : RowsHold (tableFor size partition files) tally.kept starts lengths
        held = (h.counted g).table f

        pub laid_ends : EndsFit starts lengths tally.kept
        laid_ends =
            ends_fit_lem (tableFor size partition files) tally.kept starts lengths held
            (held_length (tableFor size partition files) tally.kept starts lengths (omega (arith, fits.first, h.within)) held)
            (few_ranges size partition files (sym far_is ∙ f)).1

        overlap_seen : (b : Bool) → b ≡ neighbour_overlap (ranges_from (take tally.kept starts) (take tally.kept lengths)) → some_overlap (tableFor size partition files) ≡ b
        overlap_seen b e = overlap_is size partition files ∙ sym (e ∙ ap neighbour_overlap (held_ranges (tableFor size partition files) tally.kept starts lengths held))

        same_overlaps : neighbour_overlap (ranges_from (take tally.kept starts) (take tally.kept lengths)) ≡ true → FilesDecide
        unfolding table_verdict
        same_overlaps o = rw (sym h.good ∙ g, sym h.several ∙ s, sym far_is ∙ f, overlap_seen true (sym o), g, s, f, o)

        laid_run : (head : ℕ) → head ≡ last_end (ranges_from (take tally.kept starts) (take tally.kept lengths))
            → alone_of (take tally.kept starts) (take tally.kept lengths) [] [] head 0 ≡ run_of_table (tableFor size partition files)
        unfolding run_of_table
        laid_run head e =
            let last : head ≡ last_end (tableFor size partition files) = e ∙ ap last_end (held_ranges (tableFor size partition files) tally.kept starts lengths held) in
            rw (held.start, held.bytes, last)

        report_is : (b : Bool) → table_verdict name size partition files row ≡ refuse_if b ShortRow
            → report_of (written_answer (refuse_if b ShortRow) (sheet_text name (run_of_table (tableFor size partition files)))) tally ≡ table_report name size partition files row
        unfolding report_of written_answer table_report table_sheet
        report_is true v = rw v
        report_is false v =
            rw (v, ne_eqb (length (sheet_text name (run_of_table (tableFor size partition files)))) 0 (text_some name (run_of_table (tableFor size partition files))), (h.counted g).empty, (h.counted g).other)

        -- The sheet is written, or the row is too short.
        pub laid_out : is_name name ≡ true → false ≡ neighbour_overlap (ranges_from (take tally.kept starts) (take tally.kept lengths))
            → (head : ℕ) → head ≡ last_end (ranges_from (take tally.kept starts) (take tally.kept lengths)) → (w : Written) (row' : List ℕ)
            → SheetWritten name (alone_of (take tally.kept starts) (take tally.kept lengths) [] [] head 0) row w row'
            → (report_of w tally ≡ table_report name size partition files row) × (row' ≡ table_row name size partition files row)
        unfolding table_row table_sheet
        laid_out n e head l w row' written =
            let run = laid_run head l in
            let far : are_far (ranges_of size partition files) ≡ false = sym far_is ∙ f in
            let apart = overlap_seen false e in
            let wv = write_checks name (run_of_table (tableFor size partition files)) row n (table_passes size partition files far apart) (table_few size partition files far) in
            let tv = row_table (sym h.good ∙ g) (sym h.several ∙ s) far apart in
            let we' : w ≡ written_answer (refuse_if (ltb (length row) (length (sheet_text name (run_of_table (tableFor size partition files))))) ShortRow) (sheet_text name (run_of_table (tableFor size partition files))) =
            written.answer ∙ ap (λ (r : Run). written_answer (write_verdict name r row) (sheet_text name r)) run ∙ ap (λ (v : Verdict). written_answer v (sheet_text name (run_of_table (tableFor size partition files)))) wv in (
              ap (λ (x : Written). report_of x tally) we' ∙ report_is (ltb (length row) (length (sheet_text name (run_of_table (tableFor size partition files))))) tv,
              written.left ∙ ap (λ (r : Run). written_row (write_verdict name r row) (sheet_text name r) row) run
                  ∙ ap (λ (v : Verdict). written_row v (sheet_text name (run_of_table (tableFor size partition files))) row) (wv ∙ sym tv),
            )

    -- A check refuses: that is the verdict.
    files_refused : TableRows starts lengths → refuses (first_of (file_checks tally starts lengths)) ≡ true → FilesDecide
    files_refused fits e = by_good tally.good refl
      where
        by_overlap : (b : Bool) → neighbour_overlap (ranges_from (take tally.kept starts) (take tally.kept lengths)) ≡ b → tally.good ≡ true → tally.several ≡ false → tally.far ≡ false → FilesDecide
        by_overlap true o g s f = same_overlaps g s f fits o
        by_overlap false o g s f = absurd (true≢false (sym (rw (g, s, f, o) at e)))

        by_far : (b : Bool) → tally.far ≡ b → tally.good ≡ true → tally.several ≡ false → FilesDecide
        by_far true f g s = same_far g s f
        by_far false f g s = by_overlap (neighbour_overlap (ranges_from (take tally.kept starts) (take tally.kept lengths))) refl g s f

        by_several : (b : Bool) → tally.several ≡ b → tally.good ≡ true → FilesDecide
        by_several true s g = same_several g s
        by_several false s g = by_far tally.far refl g s

        by_good : (b : Bool) → tally.good ≡ b → FilesDecide
        by_good true g = by_several tally.several refl g
        by_good false g = same_bad g

    pub laid_refused : TableRows starts lengths → refuses (first_of (file_checks tally starts lengths)) ≡ true
        → (refused_report (first_of (file_checks tally starts lengths)) ≡ table_report name size partition files row) × (row ≡ table_row name size partition files row)
    laid_refused fits r = refused_table_here (first_of (file_checks tally starts lengths)) r (files_refused fits r)

    -- No check refuses.
    pub laid_passed : refuses (first_of (file_checks tally starts lengths)) ≡ false
        → (tally.good ≡ true) × (tally.several ≡ false) × (tally.far ≡ false) × (neighbour_overlap (ranges_from (take tally.kept starts) (take tally.kept lengths)) ≡ false)
    laid_passed r =
        let a = all_accept (file_checks tally starts lengths) r in (
          not-false tally.good (accepts_if (not tally.good) BadText refl a.0),
          accepts_if tally.several ManyExtents refl a.1.0,
          accepts_if tally.far FarFile refl a.1.1.0,
          accepts_if (neighbour_overlap (ranges_from (take tally.kept starts) (take tally.kept lengths))) Overlap refl a.1.1.1.0,
        )

-- A label that was read is good where its fields are values, and then says the same.
pub label_size : (label : Forest) → is_value (label_of label).size ≡ are_good is_number (block_sizes label)
unfolding label_of
label_size label = field_good number_field is_number value_of number_form (block_sizes label)

pub label_partition : (label : Forest) → is_value (label_of label).partition ≡ are_good is_partition (data_partitions label)
unfolding label_of
label_partition label = field_good letter_field is_partition letter_of letter_form (data_partitions label)

size_value : (label : Forest) → is_value (label_of label).size ≡ true → value_in (label_of label).size ≡ block_size_of label
unfolding label_of block_size_of
size_value label e = field_value number_field is_number value_of number_form (block_sizes label) (sym (label_size label) ∙ e)

partition_value : (label : Forest) → is_value (label_of label).partition ≡ true → value_in (label_of label).partition ≡ data_partition_of label
unfolding label_of data_partition_of
partition_value label e = field_value letter_field is_partition letter_of letter_form (data_partitions label) (sym (label_partition label) ∙ e)

-- The checks of a name, a label and an index.
module _ (name label index row : List ℕ) where
  -- What the two texts say themselves, and the extents of the index.
  texts_are : are_good_texts label index ≡ (texts_read label index (label_of (tree_of label)) && every (every is_good_extent) (index_files (tree_of index)))
  unfolding are_good_texts is_good_label is_good_index
  texts_are =
      rw (label_size (tree_of label), label_partition (tree_of label))
      (sym (and_assoc (is_balanced label && is_balanced index && (are_good is_number (block_sizes (tree_of label)) && are_good is_partition (data_partitions (tree_of label))))
      (not (is_none (insides index_name (tree_of index)))) (every (every is_good_extent) (index_files (tree_of index)))))

  abbrev TextsDecide : Type 0
  TextsDecide = ltfs_verdict name label index row ≡ first_of (text_checks name label index (label_of (tree_of label)))

  same_name : is_name name ≡ false → TextsDecide
  unfolding ltfs_verdict
  same_name n = rw n

  same_texts : is_name name ≡ true → texts_read label index (label_of (tree_of label)) ≡ false → TextsDecide
  unfolding ltfs_verdict
  same_texts n t =
      let g : are_good_texts label index ≡ false = texts_are ∙ (rw t) in
      rw (n, g, t)

  texts_refused : refuses (first_of (text_checks name label index (label_of (tree_of label)))) ≡ true → TextsDecide
  texts_refused e = by_name (is_name name) refl
    where
      by_texts : (b : Bool) → texts_read label index (label_of (tree_of label)) ≡ b → is_name name ≡ true → TextsDecide
      by_texts true t n = absurd (true≢false (sym (rw (n, t) at e)))
      by_texts false t n = same_texts n t

      by_name : (b : Bool) → is_name name ≡ b → TextsDecide
      by_name true n = by_texts (texts_read label index (label_of (tree_of label))) refl n
      by_name false n = same_name n

  refused_sheet : (v : Verdict) → refuses v ≡ true → ltfs_verdict name label index row ≡ v
      → (refused_report v ≡ ltfs_report (ltfs_verdict name label index row) name label index) × (row ≡ ltfs_row (ltfs_verdict name label index row) name label index row)
  unfolding ltfs_report ltfs_row written_row
  refused_sheet v r e = (rw (e, r), rw (e, r))

  pub sheet_refused : refuses (first_of (text_checks name label index (label_of (tree_of label)))) ≡ true
      → (refused_report (first_of (text_checks name label index (label_of (tree_of label)))) ≡ ltfs_report (ltfs_verdict name label index row) name label index) × (row ≡ ltfs_row (ltfs_verdict name label index row) name label index row)
  sheet_refused r = refused_sheet (first_of (text_checks name label index (label_of (tree_of label)))) r (texts_refused r)

  pub sheet_passed : refuses (first_of (text_checks name label index (label_of (tree_of label)))) ≡ false → (is_name name ≡ true) × (texts_read label index (label_of (tree_of label)) ≡ true)
  sheet_passed r =
      let a = all_accept (text_checks name label index (label_of (tree_of label))) r in (
        not-false (is_name name) (accepts_if (not (is_name name)) BadName refl a.0),
        not-false (texts_read label index (label_of (tree_of label))) (accepts_if (not (texts_read label index (label_of (tree_of label)))) BadText refl a.1.0),
      )

  -- All these checks passed: the files of the index decide.
  module _ (n : is_name name ≡ true) (t : texts_read label index (label_of (tree_of label)) ≡ true) where
    values_are_here : (is_value (label_of (tree_of label)).size ≡ true) × (is_value (label_of (tree_of label)).partition ≡ true)
    values_are_here =
        let balanced = is_balanced label && is_balanced index in
        let size = is_value (label_of (tree_of label)).size in
        let partition = is_value (label_of (tree_of label)).partition in
        let texts = and_true_both (balanced && (size && partition)) (not (is_none (insides index_name (tree_of index)))) t in
        and_true_both size partition (and_true_both balanced (size && partition) texts.0).1

    extents_are : are_good_texts label index ≡ every (every is_good_extent) (index_files (tree_of index))
    extents_are = texts_are ∙ (rw t)

    verdict_is_here : ltfs_verdict name label index row ≡ table_verdict name (block_size_of (tree_of label)) (data_partition_of (tree_of label)) (index_files (tree_of index)) row
    unfolding ltfs_verdict table_verdict ranges_in tape_table ltfs_sheet table_sheet
    verdict_is_here = rw (n, extents_are)

    report_at : table_report name (block_size_of (tree_of label)) (data_partition_of (tree_of label)) (index_files (tree_of index)) row ≡ ltfs_report (ltfs_verdict name label index row) name label index
    unfolding table_report ltfs_report table_sheet ltfs_sheet tape_table ranges_in
    report_at = rw verdict_is_here

    row_at_end : table_row name (block_size_of (tree_of label)) (data_partition_of (tree_of label)) (index_files (tree_of index)) row ≡ ltfs_row (ltfs_verdict name label index row) name label index row
    unfolding table_row ltfs_row table_sheet ltfs_sheet tape_table ranges_in
    row_at_end = rw verdict_is_here

    pub sheet_laid : (size partition : ℕ) → size ≡ value_in (label_of (tree_of label)).size → partition ≡ value_in (label_of (tree_of label)).partition → (r : Report) (row' : List ℕ)
        → r ≡ table_report name size partition (index_files (tree_of index)) row → row' ≡ table_row name size partition (index_files (tree_of index)) row
        → (r ≡ ltfs_report (ltfs_verdict name label index row) name label index) × (row' ≡ ltfs_row (ltfs_verdict name label index row) name label index row)
    sheet_laid size partition se pe r row' re we =
        let s = se ∙ size_value (tree_of label) values_are_here.0 in
        let p = pe ∙ partition_value (tree_of label) values_are_here.1 in (
          re ∙ (rw (s, p) report_at),
          we ∙ (rw (s, p) row_at_end),
        )
