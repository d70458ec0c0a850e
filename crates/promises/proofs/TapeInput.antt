-- The input of `ltfs`: put together as described it is taken apart again; and one that is taken apart was put together so.
use Prim.Native.Nat.{ℕ, ◌^◌, ◌≤◌, ◌<◌}
use mathlib.Core.Path.{◌≡◌, refl, ap, sym, ◌∙◌, subst}
use mathlib.Core.Bool.{Bool, true, false, not, ◌&&◌, true≢false}
use mathlib.Core.Logic.{⊎_elim}
use mathlib.Core.List.{List, [], ◌∷◌, ◌++◌, append_assoc, append-nil}
use native.Mathlib.Omega.{arith}
use lib.ListN.{length, take, drop, length-take, length-append, take-append-drop}
use lib.Dec.{leb, ltb}
use borrow.Author.Tests.{le-ltb, lt-ltb, leb-true}
use Rattle.refusals.specs.declared.Refusal.TheVariants.{Accepted, BadName, BadText, ManyExtents, FarFile, Overlap, ShortRow}
use Rattle.refusals.specs.declared.Verdict.{Verdict}
use Rattle.refusals.specs.Refusals.{accepted, is_refusal, refuse_if, first_of}
use Rattle.refusals.proofs.Verdicts.{refuses, first_refuses, first_passes, first_alone}
use Rattle.runs.proofs.Search.{true_or_false}
use Rattle.text_bytes.specs.Text.{bytes, line_feed, is_empty, has, behind, between, all_of, is_name_byte, is_name, is_number, value_of, decimal, decimal_in}
use Rattle.text_bytes.proofs.Bytes.{and_true_both}
use Rattle.text_bytes.proofs.Decimals.{has_none}
use Rattle.text_lines.specs.Lines.{line_of, after_lines, is_number_line, number_behind}
use Rattle.text_pages.specs.Printing.{line, number_line}
use Rattle.sheet_reader.specs.Lines.{tape_key, is_tape_line}
use Rattle.sheet_writer.specs.RefusalLines.{refusal_text}
use Rattle.sheet_writer.specs.Writing.{row_verdict}
use Rattle.sheet_writer.proofs.Reread.{line_behind_lem, key_value}
use Rattle.tape_markup.specs.Tree.{tree_of}
use Rattle.tape_files.specs.Index.{some, data_partition_of, index_files}
use Rattle.answer_ltfs.specs.TapeTable.{in_several, is_empty_file, lies_elsewhere, how_many, are_far, some_overlap, ranges_in, tape_table, are_good_texts, ltfs_sheet, ltfs_verdict, ltfs_report, ltfs_row, tape_verdict}
use Rattle.answer_ltfs.specs.Input.{most_tape_input, label_key, index_key, is_counted, counted_text, after_counted, is_framed, framed_label, framed_index, bad_frame, tape_input_verdict, answer_text, left_out_text, report_text}
use Rattle.answer_ltfs.specs.Framed.{input_text}
use Rattle.answer_ltfs.proofs.Apart.{input_taken_apart}
use Rattle.answer_ltfs.proofs.Promise.{sheet_within}
use Rattle.demands.specs.Lines.{Stands, Name, Number}
use Rattle.demands.specs.Tapes.{TapeAnswers}
use Rattle.demands.proofs.Checks.{first_of_joined}
use Rattle.demands.proofs.Lines.{tells_tape, tells_number, number_flat, line_read}
use Rattle.demands.proofs.Tapes.{demand1_tape}
use Rattle.promises.specs.Lengths.{sheet_row}
use Rattle.promises.specs.TapeInput.{left_out_lines, TapePrinted, TapeByItsTable, OtherTapesRefused}
use Rattle.demands.proofs.Canonical.{number_text}
use Rattle.promises.proofs.Answers.{lines_are}
use Rattle.promises.proofs.TapeLengths.{tape_is_whole}

-- A verdict on an input, and the text that it gives.
answer_refused : (input : List ℕ) (v : Verdict) → tape_input_verdict input ≡ v → refuses v ≡ true → answer_text input ≡ refusal_text v
unfolding answer_text
answer_refused input v e r = rw (e, r)

report_refused : (input : List ℕ) (v : Verdict) → tape_input_verdict input ≡ v → refuses v ≡ true → report_text input ≡ []
unfolding report_text
report_refused input v e r = rw (e, r)

lines_of_13 : refusal_text (record { refusal = BadName; place = 0 }) ≡ bytes "refused=13\nplace=0\n"
unfolding refusal_text decimal_in
lines_of_13 = refl

lines_of_20 : refusal_text (record { refusal = BadText; place = 0 }) ≡ bytes "refused=20\nplace=0\n"
unfolding refusal_text decimal_in
lines_of_20 = refl

module _ (input : List ℕ) where
  unnamed_refused : is_tape_line (line_of input) ≡ false → tape_input_verdict input ≡ record { refusal = BadName; place = 0 }
  unfolding tape_input_verdict
  unnamed_refused e = rw e

  unframed_refused : is_tape_line (line_of input) ≡ true → bad_frame input (behind line_feed input) ≡ true → tape_input_verdict input ≡ record { refusal = BadText; place = 0 }
  unfolding tape_input_verdict
  unframed_refused e f = rw (e, f)

  named : Stands tape_key Name input 0 → is_tape_line (line_of input) ≡ true
  unfolding after_lines
  named s =
      ⊎_elim (λ (e : is_tape_line (line_of input) ≡ true). e) (λ (e : is_tape_line (line_of input) ≡ false). absurd ((tells_tape input 0).when_false e s))
      (true_or_false (is_tape_line (line_of input)))

  not_named : (Stands tape_key Name input 0 → ⊥) → is_tape_line (line_of input) ≡ false
  unfolding after_lines
  not_named n =
      ⊎_elim (λ (e : is_tape_line (line_of input) ≡ true). absurd (n ((tells_tape input 0).when_true e))) (λ (e : is_tape_line (line_of input) ≡ false). e)
      (true_or_false (is_tape_line (line_of input)))

  long_frame : 524288 < length input → bad_frame input (behind line_feed input) ≡ true
  long_frame l = rw (lt-ltb most_tape_input (length input) l)

-- A counted text and what follows it make up the input.
module _ (key : List ℕ) (long : 0 < length key) (plain : has line_feed key ≡ false) (input : List ℕ) (good : is_counted key input ≡ true) where
  both : (is_number_line key (line_of input) ≡ true) × (leb (number_behind key (line_of input)) (length (behind line_feed input)) ≡ true)
  unfolding is_counted
  both = and_true_both _ _ good

  stands : Stands key Number input 0
  unfolding after_lines
  stands = (tells_number input 0 key long plain).when_true both.0

  abbrev count : ℕ
  count = number_behind key (line_of input)

  flat : has line_feed stands.value ≡ false
  flat = number_flat line_feed refl stands.value stands.kind

  count_text : decimal count ≡ stands.value
  unfolding after_lines
  count_text =
      ap (λ l. decimal (number_behind key l)) (line_read key stands.value stands.rest input plain flat stands.is)
      ∙ ap (λ t. decimal (value_of t)) (key_value key stands.value)
      ∙ number_text stands.value stands.kind

  line_then : input ≡ line key stands.value ++ stands.rest
  unfolding after_lines
  line_then = stands.is ∙ sym (append_assoc (key ++ stands.value) (line_feed ∷ []) stands.rest)

  rest_is_here : behind line_feed input ≡ stands.rest
  rest_is_here = ap (behind line_feed) line_then ∙ line_behind_lem key stands.value stands.rest plain flat

  size : length (counted_text key input) ≡ count
  unfolding counted_text
  size = omega (arith, length-take count (behind line_feed input), leb-true count (length (behind line_feed input)) both.1)

  counted_whole : input ≡ number_line key (length (counted_text key input)) ++ (counted_text key input ++ after_counted key input)
  unfolding counted_text after_counted
  counted_whole =
      line_then
      ∙ ap (λ t. line key t ++ stands.rest) (sym count_text)
      ∙ ap (λ n. number_line key n ++ stands.rest) (sym size)
      ∙ ap (λ t. number_line key (length (counted_text key input)) ++ t) (sym rest_is_here ∙ sym (take-append-drop count (behind line_feed input)))

empty_is : (text : List ℕ) → is_empty text ≡ true → text ≡ []
empty_is [] e = refl
empty_is (b ∷ text) e = absurd (true≢false (sym e))

frame_whole : (rest : List ℕ) → is_framed rest ≡ true
    → rest ≡ number_line label_key (length (framed_label rest)) ++ (framed_label rest ++ (number_line index_key (length (framed_index rest)) ++ framed_index rest))
unfolding is_framed has
frame_whole rest e =
    let after = after_counted label_key rest in
    let last = after_counted index_key after in
    let two = and_true_both (is_counted label_key rest && is_counted index_key after) (is_empty last) e in
    let one = and_true_both (is_counted label_key rest) (is_counted index_key after) two.0 in
    let index = framed_index rest in
    let none : index ++ last ≡ index = ap (λ t. index ++ t) (empty_is last two.1) ∙ append-nil index in
    counted_whole label_key (omega arith) refl rest one.0
    ∙ ap (λ t. number_line label_key (length (framed_label rest)) ++ (framed_label rest ++ t)) (counted_whole index_key (omega arith) refl after one.1 ∙ ap (λ t. number_line index_key (length index) ++ t) none)

name_flat : (text : List ℕ) → Name text → has line_feed text ≡ false
unfolding is_name
name_flat text e =
    has_none is_name_byte line_feed refl text
    (and_true_both (between 1 16 (length text)) (all_of is_name_byte text) e).1

input_whole : (input : List ℕ) (s : Stands tape_key Name input 0) → is_framed (behind line_feed input) ≡ true
    → input ≡ input_text s.value (framed_label (behind line_feed input)) (framed_index (behind line_feed input))
unfolding after_lines has
input_whole input s e =
    let first : input ≡ line tape_key s.value ++ s.rest = s.is ∙ sym (append_assoc (tape_key ++ s.value) (line_feed ∷ []) s.rest) in
    let more : behind line_feed input ≡ s.rest = ap (behind line_feed) first ∙ line_behind_lem tape_key s.value s.rest refl (name_flat s.value s.kind) in
    first ∙ ap (λ t. line tape_key s.value ++ t) (sym more ∙ frame_whole (behind line_feed input) e)

other_frame : (input : List ℕ) → Stands tape_key Name input 0 → ((name label index : List ℕ) → is_name name ≡ true → input ≡ input_text name label index → ⊥) → bad_frame input (behind line_feed input) ≡ true
other_frame input s n =
    ⊎_elim (λ (e : is_framed (behind line_feed input) ≡ true). absurd (n s.value (framed_label (behind line_feed input)) (framed_index (behind line_feed input)) s.kind (input_whole input s e)))
    (λ (e : is_framed (behind line_feed input) ≡ false). rw e (mathlib.Core.Bool.or-true (ltb most_tape_input (length input))))
    (true_or_false (is_framed (behind line_feed input)))

pub other_tapes_refused : OtherTapesRefused
other_tapes_refused input out notes r out' notes' h wide room =
    let whole = tape_is_whole input out notes r out' notes' h wide room in
    let by-13 : Verdict = record { refusal = BadName; place = 0 } in
    let by-20 : Verdict = record { refusal = BadText; place = 0 } in
    let so : (v : Verdict) → tape_input_verdict input ≡ v → refuses v ≡ true → (take r.bytes out' ≡ refusal_text v) × (take r.noted notes' ≡ []) =
    λ v e f. (whole.text ∙ answer_refused input v e f, whole.report ∙ report_refused input v e f) in
    let two : is_tape_line (line_of input) ≡ true → bad_frame input (behind line_feed input) ≡ true
    → (take r.bytes out' ≡ bytes "refused=20\nplace=0\n") × (take r.noted notes' ≡ []) =
    λ e f. let b = so by-20 (unframed_refused input e f) refl in (b.0 ∙ lines_of_20, b.1) in
    record {
      unnamed = λ n. let b = so by-13 (unnamed_refused input (not_named input n)) refl in (b.0 ∙ lines_of_13, b.1);
      long = λ s l. two (named input s) (long_frame input l);
      unframed = λ s n. two (named input s) (other_frame input s n);
    }

-- An input that is put together as described.
module _ (name label index out : List ℕ) (n : is_name name ≡ true) (few : length (input_text name label index) ≤ 524288) where
  abbrev input : List ℕ
  input = input_text name label index

  abbrev v : Verdict
  v = tape_verdict name label index

  parts_few : (length label ≤ 524288) × (length index ≤ 524288)
  parts_few =
      let a = length-append (line tape_key name) (number_line label_key (length label) ++ (label ++ (number_line index_key (length index) ++ index))) in
      let b = length-append (number_line label_key (length label)) (label ++ (number_line index_key (length index) ++ index)) in
      let c = length-append label (number_line index_key (length index) ++ index) in
      let d = length-append (number_line index_key (length index)) index in
      (omega (arith, a, b, c, few), omega (arith, a, b, c, d, few))

  abbrev checks : List Verdict
  checks =
      refuse_if (not (is_name name)) BadName
      ∷ refuse_if (not (are_good_texts label index)) BadText
      ∷ refuse_if (some in_several (index_files (tree_of index))) ManyExtents
      ∷ refuse_if (are_far (ranges_in label index)) FarFile
      ∷ refuse_if (some_overlap (tape_table label index)) Overlap
      ∷ []

  verdict_is_here : tape_input_verdict input ≡ v
  unfolding tape_input_verdict tape_verdict
  verdict_is_here =
      let t = input_taken_apart name label index n (omega (arith, parts_few.0)) (omega (arith, parts_few.1)) in
      rw (t.first, t.framed, le-ltb most_tape_input (length input) few, t.same_name, t.same_label, t.same_index) (first_alone checks)

  joined_is : first_of (v ∷ row_verdict (ltfs_sheet name label index) out ∷ []) ≡ ltfs_verdict name label index out
  unfolding tape_verdict ltfs_verdict
  joined_is = first_of_joined checks (row_verdict (ltfs_sheet name label index) out ∷ [])

  abbrev w : Verdict
  w = ltfs_verdict name label index out

  by_table : TapeAnswers name label index out (ltfs_report w name label index) (ltfs_row w name label index out)
  by_table = demand1_tape name label index out (ltfs_report w name label index) (ltfs_row w name label index out) refl refl

  module _ (printed noted : List ℕ) (is : printed ≡ answer_text input) (notes : noted ≡ report_text input) (wide : sheet_row ≤ length out) where
    refused_so_here : refuses v ≡ true → TapePrinted name label index out printed noted
    unfolding ltfs_report report_text
    refused_so_here e =
        let same : w ≡ v = sym joined_is ∙ sym (first_refuses v (row_verdict (ltfs_sheet name label index) out ∷ []) e) in
        record {
          kind = v.refusal;
          place = v.place;
          first = rw e at (rw same at by_table.first);
          refused = λ r. is ∙ answer_refused input v verdict_is_here e ∙ lines_are v;
          asked = λ a. absurd (true≢false (sym e ∙ ap is_refusal a));
          silent = λ r. notes ∙ rw (verdict_is_here, e);
          left_out = λ a. absurd (true≢false (sym e ∙ ap is_refusal a));
        }

    asked_so : refuses v ≡ false → TapePrinted name label index out printed noted
    unfolding ltfs_report row_verdict answer_text report_text left_out_text
    asked_so e =
        let fits = sheet_within name label index e in
        let row : row_verdict (ltfs_sheet name label index) out ≡ accepted = rw (le-ltb (length out) (length (ltfs_sheet name label index)) (omega (arith, fits))) in
        let same : w ≡ accepted = sym joined_is ∙ first_passes v (row_verdict (ltfs_sheet name label index) out ∷ []) e ∙ rw row in
        let t = input_taken_apart name label index n (omega (arith, parts_few.0)) (omega (arith, parts_few.1)) in
        let sheet : answer_text input ≡ ltfs_sheet name label index = rw (verdict_is_here, e, t.same_name, t.same_label, t.same_index) in
        let report : report_text input ≡ left_out_lines (how_many is_empty_file (index_files (tree_of index))) (how_many (lies_elsewhere (data_partition_of (tree_of label))) (index_files (tree_of index))) = rw (verdict_is_here, e, t.same_label, t.same_index) in
        record {
          kind = Accepted;
          place = 0;
          first = rw same at by_table.first;
          refused = λ r. absurd (r refl);
          asked = λ a. is ∙ sheet;
          silent = λ r. absurd (r refl);
          left_out = λ a. notes ∙ report;
        }

pub tape_by_its_table : TapeByItsTable
tape_by_its_table name label index out notes r out' notes' n few h wide room =
    let whole = tape_is_whole (input_text name label index) out notes r out' notes' h wide room in
    ⊎_elim (refused_so_here name label index out n few (take r.bytes out') (take r.noted notes') whole.text whole.report wide)
    (asked_so name label index out n few (take r.bytes out') (take r.noted notes') whole.text whole.report wide)
    (true_or_false (refuses (tape_verdict name label index)))
