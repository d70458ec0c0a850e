-- An input taken apart and its answer put together: where the texts stand, what the checks say, and the two rows that are left.
use Prim.Native.Nat.{ℕ, zero, suc, ◌+◌, ◌-◌, ◌≤◌, ◌<◌}
use Rattle.std.specs.Prelude.{Option, Some, None}
use mathlib.Core.Path.{◌≡◌, refl, ap, sym, ◌∙◌, subst}
use mathlib.Core.Bool.{Bool, true, false, not, and-false, or-true}
use mathlib.Core.List.{List, [], ◌∷◌, ◌++◌}
use native.Mathlib.Omega.{arith}
use lib.ListN.{length, take, drop, length-drop}
use lib.Seq.{take_all, take_at, drop-drop}
use lib.Dec.{ltb}
use borrow.Author.Tests.{le-leb, lt-leb, lt-ltb, le-ltb}
use Rattle.refusals.specs.declared.Refusal.TheVariants.{BadName, BadText}
use Rattle.refusals.specs.declared.Verdict.{Verdict}
use Rattle.refusals.specs.Refusals.{is_refusal, refuse_if, first_of}
use Rattle.refusals.proofs.Verdicts.{refuses, first_alone, all_accept}
use Rattle.text_bytes.specs.Text.{line_feed, behind, is_empty}
use Rattle.text_lines.specs.declared.NumberLine.{NumberLine}
use Rattle.text_lines.specs.Lines.{line_of, is_number_line, number_behind}
use Rattle.text_lines.specs.Found.{Passed, NumberLineFound}
use Rattle.text_pages.specs.Printing.{number_line, Wrote, Put}
use Rattle.text_pages.proofs.Pages.{wrote_on, wrote_page}
use Rattle.sheet_reader.specs.declared.NameLine.{NameLine}
use Rattle.sheet_reader.specs.Lines.{is_tape_line}
use Rattle.sheet_reader.specs.Sheet.{longest_sheet}
use Rattle.sheet_reader.specs.Found.{NamePart, NameLineFound}
use Rattle.sheet_writer.specs.declared.Written.{Written}
use Rattle.sheet_writer.specs.Writing.{row_verdict, written_answer, written_row, Handed}
use Rattle.sheet_writer.specs.RefusalLines.{refusal_text, RefusalWritten}
use Rattle.answer_ltfs.specs.declared.Report.{Report}
use Rattle.answer_ltfs.specs.declared.Told.{Told}
use Rattle.answer_ltfs.specs.declared.input.Counted.{Counted}
use Rattle.answer_ltfs.specs.declared.input.Texts.{Texts}
use Rattle.answer_ltfs.specs.TapeTable.{ltfs_sheet, ltfs_verdict, tape_verdict, refused_report, ltfs_report, ltfs_row}
use Rattle.answer_ltfs.specs.Input.{most_tape_input, label_key, index_key, empty_key, other_key, is_counted, counted_text, after_counted, framed_label, framed_index, is_framed, bad_frame, input_name, input_label, input_index, tape_input_verdict, answer_text, left_out_text, report_text, rows_short, BothHanded}
use Rattle.answer_ltfs.specs.Private.Input.{CountedAt, CountedFound, TextsAt, TextsFound, input_report, Drafted}
use Rattle.answer_ltfs.proofs.Promise.{tape-checks, sheet_within, row_suffices}

-- A line with a key and a number, and so many bytes behind it.
module _ (key input : List ℕ) (at : ℕ) (r : Option NumberLine) (found : NumberLineFound (is_number_line key) (number_behind key) input at r) where
  pub uncounted : r ≡ None → is_counted key (drop at input) ≡ false
  unfolding is_counted
  uncounted e =
      let bad : is_number_line key (line_of (drop at input)) ≡ false = subst (λ (x : Option NumberLine). NumberLineFound (is_number_line key) (number_behind key) input at x) e found in
      rw bad

  module _ (read : NumberLine) (e : r ≡ Some read) where
    abbrev number : ℕ
    number = read.number

    abbrev next : ℕ
    next = read.next

    line_read : Passed (is_number_line key) input at next × (number ≡ number_behind key (line_of (drop at input)))
    line_read = subst (λ (x : Option NumberLine). NumberLineFound (is_number_line key) (number_behind key) input at x) e found

    pub next_within : next ≤ length input
    next_within = line_read.0.within

    left_is : length (behind line_feed (drop at input)) ≡ length input - next
    left_is = sym (ap length line_read.0.rest) ∙ length-drop next input

    pub too_few : length input - next < number → is_counted key (drop at input) ≡ false
    unfolding is_counted
    too_few l = rw (left_is, ← line_read.1, lt-leb number (length input - next) l, and-false (is_number_line key (line_of (drop at input))))

    pub counted_there : number ≤ length input - next → CountedAt key input at next (next + number)
    unfolding is_counted counted_text after_counted
    counted_there l =
        let size : next + number - next ≡ number = omega arith in
        let w = next_within in
        record {
          good = rw (left_is, ← line_read.1, le-leb number (length input - next) l, line_read.0.good);
          ordered = omega arith;
          within = omega arith;
          text = rw (size, line_read.0.rest, line_read.1);
          rest = sym (drop-drop number next input) ∙ rw (line_read.0.rest, line_read.1);
        }

-- Whether anything stands behind a position.
some_left : (n : ℕ) (l : List ℕ) → n < length l → is_empty (drop n l) ≡ false
some_left n [] h = absurd (omega arith)
some_left zero (x ∷ l) h = refl
some_left (suc n) (x ∷ l) h = some_left n l (omega arith)

none_left : (n : ℕ) (l : List ℕ) → length l ≤ n → is_empty (drop n l) ≡ true
none_left zero [] h = refl
none_left (suc n) [] h = refl
none_left zero (x ∷ l) h = absurd (omega arith)
none_left (suc n) (x ∷ l) h = none_left n l (omega arith)

-- The two texts behind the name's line.
module _ (input : List ℕ) (at : ℕ) where
  pub too_long : most_tape_input < length input → bad_frame input (drop at input) ≡ true
  too_long l = rw (lt-ltb most_tape_input (length input) l)

  unframed : is_framed (drop at input) ≡ false → bad_frame input (drop at input) ≡ true
  unframed e = rw e (or-true (ltb most_tape_input (length input)))

  module _ (r : Option Counted) (label : CountedFound label_key input at r) where
    pub no_label : r ≡ None → bad_frame input (drop at input) ≡ true
    unfolding is_framed
    no_label e =
        let bad : is_counted label_key (drop at input) ≡ false = subst (λ (x : Option Counted). CountedFound label_key input at x) e label in
        unframed (rw bad)

    module _ (one : Counted) (e : r ≡ Some one) (s : Option Counted) (index : CountedFound index_key input one.to s) where
      first : CountedAt label_key input at one.from one.to
      first = subst (λ (x : Option Counted). CountedFound label_key input at x) e label

      pub no_index : s ≡ None → bad_frame input (drop at input) ≡ true
      unfolding is_framed
      no_index f =
          let bad : is_counted index_key (drop one.to input) ≡ false = subst (λ (x : Option Counted). CountedFound index_key input one.to x) f index in
          unframed (rw (first.good, ← first.rest, bad))

      module _ (two : Counted) (f : s ≡ Some two) where
        second : CountedAt index_key input one.to two.from two.to
        second = subst (λ (x : Option Counted). CountedFound index_key input one.to x) f index

        pub text_behind : two.to < length input → bad_frame input (drop at input) ≡ true
        unfolding is_framed
        text_behind l = unframed (rw (first.good, ← first.rest, second.good, ← second.rest) (some_left two.to input l))

        pub texts_there : length input ≤ most_tape_input → length input ≤ two.to → TextsAt input at one.from one.to two.from
        unfolding is_framed
        texts_there most l =
            let w = second.within in
            let o = second.ordered in
            let framed : is_framed (drop at input) ≡ true = rw (first.good, ← first.rest, second.good, ← second.rest) (none_left two.to input l) in
            record {
              good = rw (le-ltb most_tape_input (length input) most, framed);
              ordered = first.ordered;
              within = first.within;
              start = omega arith;
              label = first.text;
              last = sym (take_all (two.to - two.from) (drop two.from input) (rw (length-drop two.from input) (omega arith))) ∙ second.text ∙ ap (counted_text index_key) first.rest;
            }

tape_alone : (name label index : List ℕ) → first_of (tape_verdict name label index ∷ []) ≡ tape_verdict name label index
unfolding tape_verdict
tape_alone name label index = first_alone (tape-checks name label index)

-- The first line, where it has a name, and the texts behind it.
module _ (input : List ℕ) (r : Option NameLine) (found : NameLineFound input r) (head : NameLine) (e : r ≡ Some head) where
  named : Passed is_tape_line input 0 head.next × NamePart input head.end
  named = subst (λ (x : Option NameLine). NameLineFound input x) e found

pub texts_found : (input : List ℕ) (next : ℕ) (s : Option Texts) → TextsFound input next s → (t : Texts) → s ≡ Some t → TextsAt input next t.from t.to t.index
texts_found input next s texts t f = subst (λ (x : Option Texts). TextsFound input next x) f texts

-- What an input is refused with, and what else decides.
module _ (input page : List ℕ) (r : Option NameLine) (found : NameLineFound input r) where
  pub no_name : r ≡ None → (v : Verdict) → v ≡ refuse_if true BadName → (answer : Report) → answer ≡ refused_report v → Drafted input page answer page
  unfolding tape_input_verdict ltfs_report written_row
  no_name e v v-is answer a =
      let bad : is_tape_line (line_of input) ≡ false = subst (λ (x : Option NameLine). NameLineFound input x) e found in
      record { report = a ∙ rw (v-is, bad); left = rw bad }

  module _ (head : NameLine) (e : r ≡ Some head) (s : Option Texts) (texts : TextsFound input head.next s) where
    abbrev line : Passed is_tape_line input 0 head.next × NamePart input head.end
    line = named input r found head e

    pub no_texts : s ≡ None → (v : Verdict) → v ≡ refuse_if true BadText → (answer : Report) → answer ≡ refused_report v → Drafted input page answer page
    unfolding tape_input_verdict ltfs_report written_row
    no_texts f v v-is answer a =
        let bad : bad_frame input (drop head.next input) ≡ true = subst (λ (x : Option Texts). TextsFound input head.next x) f texts in
        let here : bad_frame input (behind line_feed input) ≡ true = ap (bad_frame input) (sym line.0.rest) ∙ bad in
        record { report = a ∙ rw (v-is, line.0.good, here); left = rw (line.0.good, here) }

    module _ (t : Texts) (f : s ≡ Some t) where
      abbrev both : TextsAt input head.next t.from t.to t.index
      both = texts_found input head.next s texts t f

      verdict_is_here : longest_sheet ≤ length page → tape_input_verdict input ≡ ltfs_verdict (input_name input) (input_label input) (input_index input) page
      unfolding tape_input_verdict
      verdict_is_here fits =
          let here : bad_frame input (behind line_feed input) ≡ false = ap (bad_frame input) (sym line.0.rest) ∙ both.good in
          rw (line.0.good, here)
          (tape_alone (input_name input) (input_label input) (input_index input) ∙ sym (row_suffices (input_name input) (input_label input) (input_index input) page fits))

      pub drafted : longest_sheet ≤ length page → (name label list : List ℕ) → name ≡ take (head.end - 5) (drop 5 input) → label ≡ take (t.to - t.from) (drop t.from input) → list ≡ take (length input - t.index) (drop t.index input)
          → (answer : Report) → answer ≡ ltfs_report (ltfs_verdict name label list page) name label list → (page' : List ℕ) → page' ≡ ltfs_row (ltfs_verdict name label list page) name label list page → Drafted input page answer page'
      unfolding ltfs_row
      drafted fits name label list n l i answer a page' p =
          let n-is : name ≡ input_name input = n ∙ line.1.name in
          let l-is : label ≡ input_label input = l ∙ both.label ∙ ap framed_label line.0.rest in
          let all : take (length input - t.index) (drop t.index input) ≡ drop t.index input = take_all (length input - t.index) (drop t.index input) (rw (length-drop t.index input) (omega arith)) in
          let i-is : list ≡ input_index input = i ∙ all ∙ both.last ∙ ap framed_index line.0.rest in
          record {
            report = rw (verdict_is_here fits, ← n-is, ← l-is, ← i-is) a;
            left = rw (verdict_is_here fits, ← n-is, ← l-is, ← i-is) p;
          }

-- A text in the first bytes of a row.
row_put : (text row row' : List ℕ) (next : ℕ) → length text ≤ length row → Put row 0 text (length text) row' next → row' ≡ text ++ drop (length text) row
row_put text row row' next fits p =
    let w = p.room (omega arith) in
    let e : next ≡ length text = w.after ∙ omega arith in
    wrote_page w ∙ rw e

module _ (text report out notes : List ℕ) where
  abbrev none : Told
  none = record { bytes = 0; noted = 0 }

  pub out_short : length out < length text → BothHanded text report out notes none out notes
  out_short l =
      let short : rows_short text report out notes ≡ true = rw (lt-ltb (length out) (length text) l) in
      record { told = rw short; sheet = rw short; listed = rw short }

  pub notes_short : length notes < length report → BothHanded text report out notes none out notes
  notes_short l =
      let short : rows_short text report out notes ≡ true = rw (lt-ltb (length notes) (length report) l) (or-true (ltb (length out) (length text))) in
      record { told = rw short; sheet = rw short; listed = rw short }

  pub both_put : length text ≤ length out → length report ≤ length notes → (out' notes' : List ℕ) (a b : ℕ) → Put out 0 text (length text) out' a → Put notes 0 report (length report) notes' b
      → BothHanded text report out notes (record { bytes = length text; noted = length report }) out' notes'
  both_put l m out' notes' a b p q =
      let fits : rows_short text report out notes ≡ false = rw (le-ltb (length out) (length text) l, le-ltb (length notes) (length report) m) in
      record { told = rw fits; sheet = row_put text out out' a l p ∙ rw fits; listed = row_put report notes notes' b m q ∙ rw fits }

-- How many files were left out, on a page.
pub left_out : (empty other : ℕ) (page : List ℕ) → 54 ≤ length page → (page' : List ℕ) (at : ℕ) (page'' : List ℕ) (last : ℕ)
    → Put page 0 (number_line empty_key empty) 27 page' at → Put page' at (number_line other_key other) 27 page'' last → Wrote page 0 (left_out_text empty other) 54 page'' last
unfolding left_out_text
left_out empty other page r page' at page'' last p q = wrote_on (p.room (omega arith)) (omega arith) q

-- The answer, by the report of the draft: f is whether it refuses.
told_one : (text out notes : List ℕ) (b : Bool) → ltb (length out) (length text) ≡ b → (w : Written) (out' : List ℕ) → Handed (row_verdict text out) text out w out'
    → BothHanded text [] out notes (record { bytes = w.bytes; noted = 0 }) out' notes
unfolding row_verdict written_answer written_row
told_one text out notes true e w out' h =
    let a = rw e at h.answer in
    let o = rw e at h.left in
    let short : rows_short text [] out notes ≡ true = rw e in
    record { told = ap (λ (x : Written). record { bytes = x.bytes; noted = 0 }) a ∙ (rw short); sheet = o ∙ (rw short); listed = rw short }
told_one text out notes false e w out' h =
    let a = rw e at h.answer in
    let o = rw e at h.left in
    let fits : rows_short text [] out notes ≡ false = rw (e, le-ltb (length notes) 0 (omega arith)) in
    record { told = ap (λ (x : Written). record { bytes = x.bytes; noted = 0 }) a ∙ (rw fits); sheet = o ∙ (rw fits); listed = rw fits }

module _ (input page page' : List ℕ) (report : Report) (d : Drafted input page report page') (f : Bool) (f-is : f ≡ is_refusal report.refusal) where
  abbrev verdict : Verdict
  verdict = tape_input_verdict input

  same_refusal : (b : Bool) → refuses verdict ≡ b → is_refusal (input_report input).refusal ≡ b
  unfolding ltfs_report
  same_refusal true e = rw e e
  same_refusal false e = rw e

  refusal_is : f ≡ refuses verdict
  refusal_is = f-is ∙ ap (λ (x : Report). is_refusal x.refusal) d.report ∙ same_refusal (refuses verdict) refl

  verdict_same_here : refuses verdict ≡ true → record { refusal = report.refusal; place = report.place } ≡ verdict
  unfolding ltfs_report
  verdict_same_here e = rw (d.report, e)

  pub answer_refused : f ≡ true → (out notes : List ℕ) (w : Written) (out' : List ℕ) → RefusalWritten (record { refusal = report.refusal; place = report.place }) out w out'
      → BothHanded (answer_text input) (report_text input) out notes (record { bytes = w.bytes; noted = 0 }) out' notes
  unfolding answer_text report_text
  answer_refused e out notes w out' h =
      let r : refuses verdict ≡ true = sym refusal_is ∙ e in
      let says : RefusalWritten verdict out w out' = subst (λ (v : Verdict). RefusalWritten v out w out') (verdict_same_here r) h in
      rw r (told_one (refusal_text verdict) out notes (ltb (length out) (length (refusal_text verdict))) refl w out' says)

  module _ (e : f ≡ false) where
    passed : refuses verdict ≡ false
    passed = sym refusal_is ∙ e

    abbrev sheet : List ℕ
    sheet = ltfs_sheet (input_name input) (input_label input) (input_index input)

    sheet_long_here : report.bytes ≡ length sheet
    unfolding ltfs_report
    sheet_long_here = rw (d.report, passed)

    page_is_here : page' ≡ sheet ++ drop (length sheet) page
    unfolding written_row
    page_is_here = d.left ∙ rw passed

    sheet_front : take report.bytes page' ≡ sheet
    sheet_front = rw (sheet_long_here, page_is_here) (take_at sheet (drop (length sheet) page) (length sheet) refl)

    pub sheet_fits : report.bytes ≤ longest_sheet
    unfolding tape_input_verdict
    sheet_fits =
        let all = all_accept (refuse_if (not (is_tape_line (line_of input))) BadName ∷ refuse_if (bad_frame input (behind line_feed input)) BadText ∷ tape_verdict (input_name input) (input_label input) (input_index input) ∷ []) passed in
        rw sheet_long_here (sheet_within (input_name input) (input_label input) (input_index input) all.1.1.0)

    pub sheet_part : report.bytes ≡ length (take report.bytes page')
    sheet_part = sheet_long_here ∙ sym (ap length sheet_front)

    pub answer_handed : (out notes list list' : List ℕ) (n : ℕ) → Wrote list 0 (left_out_text report.empty report.other) 54 list' n → (r : Told) (out' notes' : List ℕ)
        → BothHanded (take report.bytes page') (take n list') out notes r out' notes' → BothHanded (answer_text input) (report_text input) out notes r out' notes'
    unfolding answer_text report_text ltfs_report
    answer_handed out notes list list' n w r out' notes' h =
        let text : take report.bytes page' ≡ answer_text input = sheet_front ∙ rw passed in
        let lines : take n list' ≡ report_text input = w.bytes ∙ rw (d.report, passed) in
        rw (text, lines) at h
