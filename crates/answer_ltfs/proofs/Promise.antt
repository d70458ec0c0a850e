-- What is promised of the sheet of a tape: no file is lost, and where nothing is refused the sheet reads back.
use Prim.Native.Nat.{ℕ, ◌+◌, ◌≤◌}
use mathlib.Core.Path.{◌≡◌, refl, ap, sym, ◌∙◌}
use mathlib.Core.Bool.{Bool, true, false, cond, not, ◌&&◌}
use mathlib.Core.List.{List, [], ◌∷◌}
use native.Mathlib.Omega.{arith}
use lib.ListN.{length, length-map}
use lib.Dec.{eqb, ltb}
use borrow.Author.Tests.{not-false, le-ltb, ltb-false}
use Rattle.refusals.specs.declared.Refusal.TheVariants.{BadName, BadText, ManyExtents, Overlap, FarFile, LongSheet, BadLine}
use Rattle.refusals.specs.declared.Verdict.{Verdict}
use Rattle.refusals.specs.Refusals.{refuse_if, refuse_at}
use Rattle.runs.specs.Run.{Run}
use Rattle.runs.specs.Alone.{zeros}
use Rattle.runs.specs.Judging.{judge_of}
use Rattle.refusals.proofs.Verdicts.{refuses, none_refuses, all_accept, accepts_if}
use Rattle.text_bytes.specs.Text.{is_name}
use Rattle.sheet_reader.specs.Sheet.{longest_sheet, first_bad_line}
use Rattle.sheet_reader.specs.Reading.{sheet_verdict}
use Rattle.sheet_writer.specs.Writing.{row_verdict}
use Rattle.sheet_writer.proofs.RoundTrip.{round_trip}
use Rattle.sheet_writer.proofs.Sheets.{front_refuses, front_passes}
use Rattle.tape_markup.specs.Tree.{Forest, tree_of}
use Rattle.tape_files.specs.Index.{some, block_size_of, data_partition_of, partition_of, index_files}
use Rattle.answer_ltfs.specs.TapeTable.{first_extent, in_several, is_empty_file, lies_elsewhere, is_accepted, how_many, only, range_of, ranges_of, are_far, some_overlap, run_of_table, ranges_in, tape_table, are_good_texts, ltfs_sheet, ltfs_verdict, tape_verdict, ltfs_report}
use Rattle.answer_ltfs.specs.Promises.{NoFileIsLost, AnswerCountsAll, SheetReadsBack, RowSuffices}
use Rattle.answer_ltfs.proofs.Order.{one_if, counted_cons, counted_none, length_kept}
use Rattle.answer_ltfs.proofs.Laid.{table_passes, table_few}

-- Every file is accepted, empty or elsewhere, and only one of these.
one_kind : (e p : Bool) → one_if (not e && p) + one_if e + one_if (not e && not p) ≡ 1
one_kind true p = refl
one_kind false true = refl
one_kind false false = refl

only_length : (kind : List Forest → Bool) (file : List Forest) (files : List (List Forest)) → length (only kind (file ∷ files)) ≡ one_if (kind file) + length (only kind files)
unfolding only
only_length kind file files = by_test (kind file)
  where
    by_test : (b : Bool) → length (cond b (file ∷ only kind files) (only kind files)) ≡ one_if b + length (only kind files)
    by_test true = omega arith
    by_test false = omega arith

pub no_file_is_lost : NoFileIsLost
unfolding only
no_file_is_lost partition [] = omega (arith, counted_none is_empty_file, counted_none (lies_elsewhere partition))
no_file_is_lost partition (file ∷ files) =
    omega (
      arith,
      no_file_is_lost partition files,
      only_length (is_accepted partition) file files,
      counted_cons is_empty_file file files,
      counted_cons (lies_elsewhere partition) file files,
      one_kind (is_empty_file file) (eqb (partition_of (first_extent file)) partition),
    )

pub answer_counts_all : AnswerCountsAll
unfolding ltfs_report tape_table ranges_in ranges_of
answer_counts_all name label index row e =
    let partition = data_partition_of (tree_of label) in
    let files = index_files (tree_of index) in
    let kept = length_kept (ranges_of (block_size_of (tree_of label)) partition files) in
    let ranges = length-map (only (is_accepted partition) files) (range_of (block_size_of (tree_of label))) in
    let empty : (ltfs_report (ltfs_verdict name label index row) name label index).empty ≡ how_many is_empty_file files = rw e in
    let other : (ltfs_report (ltfs_verdict name label index row) name label index).other ≡ how_many (lies_elsewhere partition) files = rw e in
    omega (arith, no_file_is_lost partition files)

-- What reading the sheet gives, for a run that is the table's.
pub sheet_reads_back : SheetReadsBack
unfolding ltfs_verdict ltfs_sheet tape_table ranges_in run_of_table
sheet_reads_back name label index row e =
    let size = block_size_of (tree_of label) in
    let partition = data_partition_of (tree_of label) in
    let files = index_files (tree_of index) in
    let all =
    all_accept
    (refuse_if (not (is_name name)) BadName
    ∷ refuse_if (not (are_good_texts label index)) BadText
    ∷ refuse_if (some in_several (index_files (tree_of index))) ManyExtents
    ∷ refuse_if (are_far (ranges_in label index)) FarFile
    ∷ refuse_if (some_overlap (tape_table label index)) Overlap
    ∷ row_verdict (ltfs_sheet name label index) row
    ∷ [])
    e in
    let named = not-false (is_name name) (accepts_if (not (is_name name)) BadName refl all.0) in
    let far = accepts_if (are_far (ranges_in label index)) FarFile refl all.1.1.1.0 in
    let apart = accepts_if (some_overlap (tape_table label index)) Overlap refl all.1.1.1.1.0 in
    let judged = table_passes size partition files far apart in
    let back = round_trip name (run_of_table (tape_table label index)) judged (table_few size partition files far) named in
    record {
      reads = back.accepts;
      name = back.same_name;
      rule = back.ruled;
      starts = ap (λ (r : Run). r.starts) back.same_run;
      lengths = ap (λ (r : Run). r.lengths) back.same_run;
      aggregates = ap (λ (r : Run). r.aggregates) back.same_run ∙ ap zeros (length-map (tape_table label index) (λ range. range.start));
      numbers = ap (λ (r : Run). r.numbers) back.same_run;
      counts = ap (λ (r : Run). r.counts) back.same_run;
      head = ap (λ (r : Run). r.head) back.same_run;
      turn = ap (λ (r : Run). r.turn) back.same_run;
      judged = ap judge_of back.same_run ∙ judged;
    }

-- The checks before 8.
module _ (name label index : List ℕ) where
  abbrev pub tape-checks : List Verdict
  tape-checks =
      refuse_if (not (is_name name)) BadName
      ∷ refuse_if (not (are_good_texts label index)) BadText
      ∷ refuse_if (some in_several (index_files (tree_of index))) ManyExtents
      ∷ refuse_if (are_far (ranges_in label index)) FarFile
      ∷ refuse_if (some_overlap (tape_table label index)) Overlap
      ∷ []

  abbrev sheet : List ℕ
  sheet = ltfs_sheet name label index

  -- The sheet itself is a row that holds it.
  own_row : refuses (tape_verdict name label index) ≡ false → refuses (ltfs_verdict name label index sheet) ≡ false
  unfolding tape_verdict ltfs_verdict row_verdict
  own_row e =
      ap refuses (front_passes tape-checks (row_verdict sheet sheet ∷ []) e) ∙ (rw (le-ltb (length sheet) (length sheet) (omega arith)))

  pub sheet_within : refuses (tape_verdict name label index) ≡ false → length sheet ≤ longest_sheet
  unfolding sheet_verdict
  sheet_within e =
      let back = sheet_reads_back name label index sheet (own_row e) in
      let all = all_accept (refuse_if (ltb longest_sheet (length sheet)) LongSheet ∷ refuse_at (first_bad_line sheet) BadLine ∷ []) (ap refuses back.reads) in
      ltb-false longest_sheet (length sheet) (accepts_if (ltb longest_sheet (length sheet)) LongSheet refl all.0)

pub row_suffices : RowSuffices
unfolding tape_verdict ltfs_verdict row_verdict
row_suffices name label index row fits = by_test (refuses (tape_verdict name label index)) refl
  where
    last : List Verdict
    last = row_verdict (ltfs_sheet name label index) row ∷ []

    by_test : (b : Bool) → refuses (tape_verdict name label index) ≡ b → ltfs_verdict name label index row ≡ tape_verdict name label index
    by_test true e = front_refuses (tape-checks name label index) last e
    by_test false e =
        let l : length (ltfs_sheet name label index) ≤ longest_sheet = sheet_within name label index e in
        front_passes (tape-checks name label index) last e
        ∙ (rw (le-ltb (length row) (length (ltfs_sheet name label index)) (omega arith)))
        ∙ sym (none_refuses (tape-checks name label index) e)
