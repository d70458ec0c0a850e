-- The texts of `ltfs` are no longer than the rows of its program: a sheet is within its limit, and an index has fewer files than bytes.
use Prim.Native.Nat.{ℕ, ◌+◌, ◌≤◌, ◌<◌}
use mathlib.Core.Path.{◌≡◌, refl, ap, ◌∙◌}
use mathlib.Core.Bool.{Bool, true, false, not, ◌||◌, or-true}
use mathlib.Core.Logic.{◌⊎◌, inl, inr}
use mathlib.Core.List.{List, [], ◌∷◌, ◌++◌}
use native.Mathlib.Omega.{arith}
use lib.ListN.{length, drop, get_or, length-append, length-take, length-drop}
use lib.Seq.{take-append_seam, drop-append_seam}
use lib.Dec.{ltb, eqb}
use borrow.Author.Tests.{lt-ltb, le-ltb, ltb-false}
use Rattle.refusals.specs.declared.Refusal.TheVariants.{BadName, BadText, ManyExtents, FarFile, Overlap}
use Rattle.refusals.specs.declared.Verdict.{Verdict}
use Rattle.refusals.specs.Refusals.{refuse_if}
use Rattle.refusals.proofs.Verdicts.{refuses, all_accept, accepts_if}
use Rattle.runs.proofs.Search.{or_false_both}
use Rattle.walk.proofs.Places.{place_most, first_near, if_near}
use Rattle.text_bytes.specs.Text.{line_feed, behind, is_name}
use Rattle.text_lines.specs.Lines.{line_of, number_behind}
use Rattle.text_pages.specs.Printing.{number_line}
use Rattle.sheet_reader.specs.Lines.{is_tape_line}
use Rattle.sheet_writer.specs.Writing.{top_text, sheet_text}
use Rattle.sheet_writer.specs.RefusalLines.{refusal_text}
use Rattle.tape_markup.specs.Markup.{Token, Open, Close, Char, Broken, tokens_of}
use Rattle.tape_markup.specs.Tree.{Forest, none, char, element, innermost, frame, frames, tree_of}
use Rattle.tape_markup.proofs.Counts.{few_from}
use Rattle.tape_files.specs.Index.{some, Level, Role, holds, file, other, role_of, files_of_role, files_in, index_files, data_partition_of}
use Rattle.answer_ltfs.specs.declared.Told.{Told}
use Rattle.answer_ltfs.specs.TapeTable.{in_several, is_empty_file, lies_elsewhere, how_many, are_far, some_overlap, ranges_in, tape_table, are_good_texts, ltfs_sheet, tape_verdict}
use Rattle.answer_ltfs.specs.Input.{most_tape_input, label_key, index_key, empty_key, other_key, is_framed, counted_text, after_counted, input_name, input_label, input_index, bad_frame, tape_input_verdict, answer_text, left_out_text, report_text, rows_short, InputAnswered}
use Rattle.answer_ltfs.proofs.Promise.{sheet_within}
use Rattle.promises.specs.Lengths.{sheet_row, report_row, TapeIsWhole, BothOrNeither, TapeInAnyRows, TapeKeepsBehind}
use Rattle.promises.proofs.Lengths.{some_begun, number_length, refusal_short, refusal_begins}

-- The elements of a tree are fewer than the text's bytes: each begins with a token of its own.
abbrev elements : Forest → ℕ
elements none = 0
elements (char b rest) = elements rest
elements (element name inside rest) = 1 + elements inside + elements rest

abbrev in_frames : List Forest → ℕ
in_frames [] = 0
in_frames (f ∷ fs) = elements f + in_frames fs

frame_few : (token : Token) (left : List Forest) → in_frames (frame token left) ≤ 1 + in_frames left
frame_few (Open name) [] = omega arith
frame_few (Open name) (f ∷ []) = omega arith
frame_few (Open name) (f ∷ g ∷ left) = omega arith
frame_few (Close name) left = omega arith
frame_few (Char b) [] = omega arith
frame_few (Char b) (f ∷ left) = omega arith
frame_few Broken left = omega arith

frames_few : (tokens : List Token) → in_frames (frames tokens) ≤ length tokens
unfolding frames
frames_few [] = omega arith
frames_few (token ∷ tokens) = omega (arith, frame_few token (frames tokens), frames_few tokens)

inner_few : (left : List Forest) → elements (innermost left) ≤ in_frames left
inner_few [] = omega arith
inner_few (f ∷ left) = omega arith

tree_few : (text : List ℕ) → elements (tree_of text) ≤ length text
unfolding tree_of
tree_few text = omega (arith, inner_few (frames (tokens_of text)), frames_few (tokens_of text), few_from text 0)

-- So are its files.
role_few : (role : Role) (inside : Forest) → ((level : Level) → length (files_in inside level) ≤ elements inside) → length (files_of_role role inside (files_in inside)) ≤ 1 + elements inside
role_few (holds level) inside few = omega (arith, few level)
role_few file inside few = omega arith
role_few other inside few = omega arith

files_few : (forest : Forest) (level : Level) → length (files_in forest level) ≤ elements forest
unfolding files_in
files_few none level = omega arith
files_few (char b rest) level = files_few rest level
files_few (element name inside rest) level =
    omega (
      arith,
      length-append (files_of_role (role_of level name) inside (files_in inside)) (files_in rest level),
      role_few (role_of level name) inside (files_few inside),
      files_few rest level,
    )

many_few : (kind : List Forest → Bool) (files : List (List Forest)) → how_many kind files ≤ length files
unfolding how_many
many_few kind [] = omega arith
many_few kind (f ∷ files) = go (kind f) refl (many_few kind files)
  where
    go : (b : Bool) → kind f ≡ b → how_many kind files ≤ length files → how_many kind (f ∷ files) ≤ length (f ∷ files)
    go true e rest = rw e (omega (arith, rest))
    go false e rest = rw e (omega (arith, rest))

counted_few : (kind : List Forest → Bool) (index : List ℕ) → how_many kind (index_files (tree_of index)) ≤ length index
unfolding index_files
counted_few kind index = omega (arith, many_few kind (index_files (tree_of index)), files_few (tree_of index) Level.outside, tree_few index)

-- The index is a part of the input.
behind_few : (c : ℕ) (text : List ℕ) → length (behind c text) ≤ length text
unfolding behind
behind_few c [] = omega arith
behind_few c (b ∷ text) = go (eqb b c) refl (behind_few c text)
  where
    go : (t : Bool) → eqb b c ≡ t → length (behind c text) ≤ length text → length (behind c (b ∷ text)) ≤ length (b ∷ text)
    go true e rest = rw e (omega arith)
    go false e rest = rw e (omega (arith, rest))

after_few : (key input : List ℕ) → length (after_counted key input) ≤ length input
unfolding after_counted
after_few key input = omega (arith, length-drop (number_behind key (line_of input)) (behind line_feed input), behind_few line_feed input)

counted_part : (key input : List ℕ) → length (counted_text key input) ≤ length input
unfolding counted_text
counted_part key input = omega (arith, length-take (number_behind key (line_of input)) (behind line_feed input), behind_few line_feed input)

index_few : (input : List ℕ) → length (input_index input) ≤ length input
index_few input =
    omega (arith, counted_part index_key (after_counted label_key (behind line_feed input)), after_few label_key (behind line_feed input), behind_few line_feed input)

module _ (input : List ℕ) where
  abbrev v : Verdict
  v = tape_input_verdict input

  tape_near : (tape_verdict (input_name input) (input_label input) (input_index input)).place ≤ place_most
  unfolding tape_verdict
  tape_near =
      first_near
      (refuse_if (not (is_name (input_name input))) BadName
      ∷ refuse_if (not (are_good_texts (input_label input) (input_index input))) BadText
      ∷ refuse_if (some in_several (index_files (tree_of (input_index input)))) ManyExtents
      ∷ refuse_if (are_far (ranges_in (input_label input) (input_index input))) FarFile
      ∷ refuse_if (some_overlap (tape_table (input_label input) (input_index input))) Overlap
      ∷ []) (
        if_near (not (is_name (input_name input))) BadName,
        λ a. (
          if_near (not (are_good_texts (input_label input) (input_index input))) BadText,
          λ b. (
            if_near (some in_several (index_files (tree_of (input_index input)))) ManyExtents,
            λ c. (
              if_near (are_far (ranges_in (input_label input) (input_index input))) FarFile,
              λ d. (if_near (some_overlap (tape_table (input_label input) (input_index input))) Overlap, λ e. tt),
            ),
          ),
        ),
      )

  abbrev checks : List Verdict
  checks =
      refuse_if (not (is_tape_line (line_of input))) BadName
      ∷ refuse_if (bad_frame input (behind line_feed input)) BadText
      ∷ tape_verdict (input_name input) (input_label input) (input_index input)
      ∷ []

  input_near : v.place ≤ place_most
  unfolding tape_input_verdict
  input_near =
      first_near checks (
        if_near (not (is_tape_line (line_of input))) BadName,
        λ a. (if_near (bad_frame input (behind line_feed input)) BadText, λ b. (tape_near, λ c. tt)),
      )

  sheet_begins : get_or (ltfs_sheet (input_name input) (input_label input) (input_index input)) 0 0 ≡ 116
  unfolding ltfs_sheet sheet_text top_text
  sheet_begins = refl

  text_few : (length (answer_text input) ≤ sheet_row) × (0 < length (answer_text input))
  unfolding answer_text tape_input_verdict
  text_few = go (refuses v) refl
    where
      go : (b : Bool) → refuses v ≡ b → (length (answer_text input) ≤ sheet_row) × (0 < length (answer_text input))
      go true e = rw e (omega (arith, refusal_short v (omega (arith, input_near))), some_begun (refusal_text v) 113 (refusal_begins v))
      go false e =
          rw e (sheet_within (input_name input) (input_label input) (input_index input) (all_accept checks e).1.1.0, some_begun (ltfs_sheet (input_name input) (input_label input) (input_index input)) 115 sheet_begins)

  input_few : refuses v ≡ false → length input ≤ most_tape_input
  unfolding tape_input_verdict
  input_few e =
      ltb-false most_tape_input (length input)
      (or_false_both (ltb most_tape_input (length input)) (not (is_framed (behind line_feed input))) (accepts_if (bad_frame input (behind line_feed input)) BadText refl (all_accept checks e).1.0)).0

  report_few : length (report_text input) ≤ report_row
  unfolding report_text left_out_text
  report_few = go (refuses v) refl
    where
      go : (b : Bool) → refuses v ≡ b → length (report_text input) ≤ report_row
      go true e = rw e (omega arith)
      go false e =
          let few = input_few e in
          let index = input_index input in
          let empty = how_many is_empty_file (index_files (tree_of index)) in
          let elsewhere = how_many (lies_elsewhere (data_partition_of (tree_of (input_label input)))) (index_files (tree_of index)) in
          rw e
          (omega (
            arith,
            length-append (number_line empty_key empty) (number_line other_key elsewhere),
            number_length empty_key empty (omega (arith, few, index_few input, counted_few is_empty_file index)),
            number_length other_key elsewhere (omega (arith, few, index_few input, counted_few (lies_elsewhere (data_partition_of (tree_of (input_label input)))) index)),
          ))

-- What two rows are left with.
module _ (input out notes : List ℕ) (r : Told) (out' notes' : List ℕ) (h : InputAnswered input out notes r out' notes') where
  fits_both : length (answer_text input) ≤ length out → length (report_text input) ≤ length notes → rows_short (answer_text input) (report_text input) out notes ≡ false
  fits_both wide long = rw (le-ltb (length out) (length (answer_text input)) wide, le-ltb (length notes) (length (report_text input)) long)

  one_short : (length out < length (answer_text input)) ⊎ (length notes < length (report_text input)) → rows_short (answer_text input) (report_text input) out notes ≡ true
  one_short (inl l) = rw (lt-ltb (length out) (length (answer_text input)) l)
  one_short (inr l) = rw (lt-ltb (length notes) (length (report_text input)) l) (or-true (ltb (length out) (length (answer_text input))))

  both_or_neither : BothOrNeither (answer_text input) (report_text input) out notes r out' notes'
  both_or_neither =
      record {
        both = λ wide long.
            let fits = fits_both wide long in
            let bytes : r.bytes ≡ length (answer_text input) = ap (λ t. t.bytes) h.told ∙ rw fits in
            let noted : r.noted ≡ length (report_text input) = ap (λ t. t.noted) h.told ∙ rw fits in
            let sheet : out' ≡ answer_text input ++ drop (length (answer_text input)) out = h.sheet ∙ rw fits in
            let listed : notes' ≡ report_text input ++ drop (length (report_text input)) notes = h.listed ∙ rw fits in (
              (bytes, noted),
              (rw (bytes, sheet) (take-append_seam (answer_text input) (drop (length (answer_text input)) out)), rw (noted, listed) (take-append_seam (report_text input) (drop (length (report_text input)) notes))),
            );
        neither = λ short.
            let e = one_short short in
            ((ap (λ t. t.bytes) h.told ∙ rw e, ap (λ t. t.noted) h.told ∙ rw e), (h.sheet ∙ rw e, h.listed ∙ rw e));
      }

pub tape_is_whole : TapeIsWhole
tape_is_whole input out notes r out' notes' h wide long =
    let text = text_few input in
    let told = (both_or_neither input out notes r out' notes' h).both (omega (arith, text.0)) (omega (arith, report_few input)) in
    record { some = omega (arith, told.0.0, text.1); text = told.1.0; report = told.1.1 }

pub tape_in_any_rows : TapeInAnyRows
tape_in_any_rows input wide long out notes w r wide' long' out' notes' h enough some g =
    let whole = tape_is_whole input wide long w wide' long' h enough some in
    rw (whole.text, whole.report) (both_or_neither input out notes r out' notes' g)

pub tape_keeps_behind : TapeKeepsBehind
tape_keeps_behind input out notes r out' notes' h = go (rows_short (answer_text input) (report_text input) out notes) refl
  where
    go : (b : Bool) → rows_short (answer_text input) (report_text input) out notes ≡ b → (drop r.bytes out' ≡ drop r.bytes out) × (drop r.noted notes' ≡ drop r.noted notes)
    go true e =
        let sheet : out' ≡ out = h.sheet ∙ rw e in
        let listed : notes' ≡ notes = h.listed ∙ rw e in
        (rw sheet, rw listed)
    go false e =
        let bytes : r.bytes ≡ length (answer_text input) = ap (λ t. t.bytes) h.told ∙ rw e in
        let noted : r.noted ≡ length (report_text input) = ap (λ t. t.noted) h.told ∙ rw e in
        let sheet : out' ≡ answer_text input ++ drop (length (answer_text input)) out = h.sheet ∙ rw e in
        let listed : notes' ≡ report_text input ++ drop (length (report_text input)) notes = h.listed ∙ rw e in
        (rw (bytes, sheet) (drop-append_seam (answer_text input) (drop (length (answer_text input)) out)), rw (noted, listed) (drop-append_seam (report_text input) (drop (length (report_text input)) notes)))
