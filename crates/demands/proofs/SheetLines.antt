-- The numbers that the reader takes out of a text are those that stand on its lines.
use Prim.Native.Nat.{ℕ, zero, suc, ◌+◌, ◌≤◌, ◌<◌}
use mathlib.Core.Path.{◌≡◌, refl, sym, ap, ◌∙◌, subst}
use mathlib.Core.Bool.{Bool, true, false}
use mathlib.Core.Logic.{inl, inr, ⊎_elim}
use mathlib.Core.List.{List, [], ◌∷◌, ◌++◌}
use native.Mathlib.Omega.{arith}
use native.Mathlib.Decide.{dec_lt}
use lib.Dec.{ltb}
use lib.ListN.{length, get_or, take, drop, get_or-append}
use lib.Seq.{take-append_seam, drop-append_seam, get_or-append_seam}
use borrow.Author.Tests.{lt-ltb, le-ltb}
use Rattle.refusals.proofs.Verdicts.{refuses}
use Rattle.runs.specs.Run.{Run}
use Rattle.runs.proofs.Search.{true_or_false}
use Rattle.text_bytes.specs.Text.{line_feed, comma, has, before, behind, value_of, decimal}
use Rattle.text_bytes.proofs.Split.{before_here, behind_here}
use Rattle.text_lines.specs.Lines.{after_lines, line_after, line_of, value_text, number_behind, first_in, second_in, middle_in, third_in, each_of}
use Rattle.text_lines.proofs.Filling.{length_each}
use Rattle.sheet_reader.specs.declared.Reading.{Reading}
use Rattle.sheet_reader.specs.Lines.{tape_key, head_key, turn_key, files_key, file_key, wants_key, want_key, turn_with}
use Rattle.sheet_reader.specs.Sheet.{longest_sheet, first_bad_line, sheet_files, sheet_wants, sheet_head, sheet_turn_with, file_text, want_text, sheet_name, sheet_run_with, sheet_run}
use Rattle.sheet_reader.specs.Reading.{sheet_verdict, read_row, RunRows, rows_verdict, SheetRead, read_name}
use Rattle.sheet_reader.proofs.Good.{no_bad_line}
use Rattle.sheet_writer.proofs.Reread.{key_value}
use Rattle.demands.specs.Sheets.{run_read}
use Rattle.demands.specs.Lines.{Stands, Name, Number, NumberOrNothing, Pair, Triple, LineIsBad}
use Rattle.demands.specs.SheetLines.{two_numbers, three_numbers, PriceText, OnItsLines, BehindRead, ReadHoldsItsLines, NoBadLine, SheetHoldsItsLines, CountsAreSaid, NameIsRead}
use Rattle.demands.proofs.Tests.{Tells}
use Rattle.demands.proofs.Canonical.{number_text}
use Rattle.demands.proofs.Lines.{line_read, name_flat, nothing_flat, number_flat, pair_flat, triple_flat, number_some, tells_tape, tells_turn, tells_number, tells_count, tells_pair_line, tells_triple_line}
use Rattle.demands.proofs.FirstLine.{after_both, no_bad, no_line, none_found, line_found, wants_behind, want_behind}
use Rattle.demands.proofs.Sheets.{sheet_passes, read_passes}

-- A value of numbers is their text.
pub pair_text_lem : (text : List ℕ) → Pair text → text ≡ two_numbers (value_of (before comma text)) (value_of (behind comma text))
pair_text_lem text p =
    let none = number_flat comma refl p.first p.left in
    let a : decimal (value_of (before comma text)) ≡ p.first = ap (λ t. decimal (value_of (before comma t))) p.is ∙ ap (λ t. decimal (value_of t)) (before_here comma p.first p.others none) ∙ number_text p.first p.left in
    let b : decimal (value_of (behind comma text)) ≡ p.others = ap (λ t. decimal (value_of (behind comma t))) p.is ∙ ap (λ t. decimal (value_of t)) (behind_here comma p.first p.others none) ∙ number_text p.others p.right in
    p.is ∙ sym (ap (λ t. t ++ (comma ∷ decimal (value_of (behind comma text)))) a ∙ ap (λ t. p.first ++ (comma ∷ t)) b)

triple_text_lem : (text : List ℕ) → Triple text → text ≡ three_numbers (value_of (before comma text)) (value_of (before comma (behind comma text))) (value_of (behind comma (behind comma text)))
triple_text_lem text p =
    let none = number_flat comma refl p.first p.left in
    let rest : behind comma text ≡ p.others = ap (behind comma) p.is ∙ behind_here comma p.first p.others none in
    let a : decimal (value_of (before comma text)) ≡ p.first = ap (λ t. decimal (value_of (before comma t))) p.is ∙ ap (λ t. decimal (value_of t)) (before_here comma p.first p.others none) ∙ number_text p.first p.left in
    let b : p.others ≡ two_numbers (value_of (before comma (behind comma text))) (value_of (behind comma (behind comma text))) =
    pair_text_lem p.others p.right ∙ ap (λ t. two_numbers (value_of (before comma t)) (value_of (behind comma t))) (sym rest) in
    p.is ∙ sym (ap (λ t. t ++ (comma ∷ p.others)) a) ∙ ap (λ t. decimal (value_of (before comma text)) ++ (comma ∷ t)) b

-- A line that stands as described says the numbers that are read on it.
module _ (key : List ℕ) (plain : has line_feed key ≡ false) (sheet : List ℕ) (i : ℕ) where
  pub value_read : (Kind : List ℕ → Type 0) (s : Stands key Kind sheet i) → has line_feed s.value ≡ false → value_text key (line_after i sheet) ≡ s.value
  value_read Kind s flat = ap (λ l. value_text key l) (line_read key s.value s.rest (after_lines i sheet) plain flat s.is) ∙ key_value key s.value

  pub number_says : (s : Stands key Number sheet i) → Stands key (λ text. text ≡ decimal (number_behind key (line_after i sheet))) sheet i
  number_says s =
      record {
        value = s.value;
        rest = s.rest;
        is = s.is;
        kind = sym (ap (λ t. decimal (value_of t)) (value_read Number s (number_flat line_feed refl s.value s.kind)) ∙ number_text s.value s.kind);
      }

  pub pair_says : (s : Stands key Pair sheet i) → Stands key (λ text. text ≡ two_numbers (first_in key (line_after i sheet)) (second_in key (line_after i sheet))) sheet i
  pair_says s =
      record {
        value = s.value;
        rest = s.rest;
        is = s.is;
        kind = pair_text_lem s.value s.kind ∙ ap (λ t. two_numbers (value_of (before comma t)) (value_of (behind comma t))) (sym (value_read Pair s (pair_flat s.value s.kind)));
      }

  triple_says : (s : Stands key Triple sheet i)
      → Stands key (λ text. text ≡ three_numbers (first_in key (line_after i sheet)) (middle_in key (line_after i sheet)) (third_in key (line_after i sheet))) sheet i
  triple_says s =
      record {
        value = s.value;
        rest = s.rest;
        is = s.is;
        kind = triple_text_lem s.value s.kind
            ∙ ap (λ t. three_numbers (value_of (before comma t)) (value_of (before comma (behind comma t))) (value_of (behind comma (behind comma t)))) (sym (value_read Triple s (triple_flat s.value s.kind)));
      }

-- What is read on each of so many lines.
pub each_value : (value : ℕ → ℕ) (n i : ℕ) → i < n → get_or (each_of value n) i 0 ≡ value i
unfolding each_of
each_value value zero i l = absurd (omega arith)
each_value value (suc n) i l = go (each_value value n i) (dec_lt i n)
  where
    go : (i < n → get_or (each_of value n) i 0 ≡ value i) → Dec (i < n) → get_or (each_of value n ++ (value n ∷ [])) i 0 ≡ value i
    go rest (yes m) = get_or-append (each_of value n) (value n ∷ []) 0 i (rw (length_each value n) m) ∙ rest m
    go rest (no m) =
        let last : length (each_of value n) ≡ i = omega (arith, length_each value n) in
        let same : n ≡ i = omega arith in
        ap (λ k. get_or (each_of value n ++ (value n ∷ [])) k 0) (sym last) ∙ get_or-append_seam (each_of value n) (value n) [] 0 ∙ ap value same

-- What passes a test stands, where no line that does not is met.
pub stands_there : {b : Bool} {P : Type 0} → Tells b P → ((P → ⊥) → ⊥) → P
stands_there {b} t n = ⊎_elim (λ (e : b ≡ true). t.when_true e) (λ (e : b ≡ false). absurd (n (t.when_false e))) (true_or_false b)

-- The counts, of any sheet.
pub counts_are_said : CountsAreSaid
unfolding sheet_files sheet_wants has
counts_are_said sheet =
    record {
      files = λ line. ap value_of (value_read files_key refl sheet 4 Number line (number_flat line_feed refl line.value line.kind));
      wants = λ line.
          ap (λ t. number_behind wants_key (line_of t)) (wants_behind sheet)
          ∙ ap value_of (value_read wants_key refl sheet (5 + sheet_files sheet) Number line (number_flat line_feed refl line.value line.kind));
    }

-- A sheet without a bad line.
module _ (sheet : List ℕ) (none : NoBadLine sheet) where
  abbrev F : ℕ
  F = sheet_files sheet

  abbrev W : ℕ
  W = sheet_wants sheet

  abbrev held : Run
  held = sheet_run_with 12000 sheet

  clean : (i : ℕ) → LineIsBad sheet i → ⊥
  clean = no_bad sheet (none_found sheet none)

  many_files : length held.starts ≡ F
  many_files = length_each (λ i. first_in file_key (line_after i (file_text sheet))) F

  many_wants_here : length held.numbers ≡ W
  many_wants_here = length_each (λ i. first_in want_key (line_after i (want_text sheet))) W

  file_there_here : (i : ℕ) → after_lines i (file_text sheet) ≡ after_lines (5 + i) sheet
  unfolding file_text
  file_there_here i = after_both i 5 (5 + i) sheet refl

  want_there : (i : ℕ) → after_lines i (want_text sheet) ≡ after_lines (6 + F + i) sheet
  want_there i = ap (after_lines i) (want_behind sheet) ∙ after_both i (6 + F) (6 + F + i) sheet refl

  abbrev FileText : ℕ → ℕ → ℕ → ℕ → Type 0
  FileText i a b c = Stands file_key (λ text. text ≡ three_numbers a b c) sheet (5 + i)

  file_stands : (i : ℕ) → i < F → FileText i (get_or held.starts i 0) (get_or held.lengths i 0) (get_or held.aggregates i 0)
  unfolding has
  file_stands i l =
      let s = stands_there (tells_triple_line sheet (5 + i) file_key (omega arith) refl) (λ n. clean (5 + i) (LineIsBad.file (omega arith) (omega arith) n)) in
      let a : get_or held.starts i 0 ≡ first_in file_key (line_after (5 + i) sheet) = each_value (λ k. first_in file_key (line_after k (file_text sheet))) F i l ∙ ap (λ t. first_in file_key (line_of t)) (file_there_here i) in
      let b : get_or held.lengths i 0 ≡ middle_in file_key (line_after (5 + i) sheet) = each_value (λ k. middle_in file_key (line_after k (file_text sheet))) F i l ∙ ap (λ t. middle_in file_key (line_of t)) (file_there_here i) in
      let c : get_or held.aggregates i 0 ≡ third_in file_key (line_after (5 + i) sheet) = each_value (λ k. third_in file_key (line_after k (file_text sheet))) F i l ∙ ap (λ t. third_in file_key (line_of t)) (file_there_here i) in
      subst (λ x. FileText i x (get_or held.lengths i 0) (get_or held.aggregates i 0)) (sym a)
      (subst (λ y. FileText i (first_in file_key (line_after (5 + i) sheet)) y (get_or held.aggregates i 0)) (sym b)
      (subst (FileText i (first_in file_key (line_after (5 + i) sheet)) (middle_in file_key (line_after (5 + i) sheet))) (sym c) (triple_says file_key refl sheet (5 + i) s)))

  want_stands : (i : ℕ) → i < W → Stands want_key (λ text. text ≡ two_numbers (get_or held.numbers i 0) (get_or held.counts i 0)) sheet (6 + F + i)
  unfolding has
  want_stands i l =
      let s = stands_there (tells_pair_line sheet (6 + F + i) want_key (omega arith) refl) (λ n. clean (6 + F + i) (LineIsBad.want (omega arith) (omega arith) n)) in
      let a : get_or held.numbers i 0 ≡ first_in want_key (line_after (6 + F + i) sheet) = each_value (λ k. first_in want_key (line_after k (want_text sheet))) W i l ∙ ap (λ t. first_in want_key (line_of t)) (want_there i) in
      let b : get_or held.counts i 0 ≡ second_in want_key (line_after (6 + F + i) sheet) = each_value (λ k. second_in want_key (line_after k (want_text sheet))) W i l ∙ ap (λ t. second_in want_key (line_of t)) (want_there i) in
      subst (λ x. Stands want_key (λ text. text ≡ two_numbers x (get_or held.counts i 0)) sheet (6 + F + i)) (sym a)
      (subst (λ y. Stands want_key (λ text. text ≡ two_numbers (first_in want_key (line_after (6 + F + i) sheet)) y) sheet (6 + F + i)) (sym b) (pair_says want_key refl sheet (6 + F + i) s))

  -- The lines above the files, and the count of the wants.
  tape_stands : Stands tape_key (λ text. Name text × (text ≡ sheet_name sheet)) sheet 0
  unfolding sheet_name has
  tape_stands =
      let s = stands_there (tells_tape sheet 0) (λ n. clean 0 (LineIsBad.tape refl n)) in
      record { value = s.value; rest = s.rest; is = s.is; kind = (s.kind, sym (value_read tape_key refl sheet 0 Name s (name_flat s.value s.kind))) }

  turn_stands : Stands turn_key (PriceText (sheet_turn_with 12000 sheet)) sheet 2
  unfolding sheet_turn_with turn_with has
  turn_stands =
      let s = stands_there (tells_turn sheet 2) (λ n. clean 2 (LineIsBad.turn refl n)) in
      let is = value_read turn_key refl sheet 2 NumberOrNothing s (nothing_flat s.value s.kind) in
      record {
        value = s.value;
        rest = s.rest;
        is = s.is;
        kind = ⊎_elim
            (λ (e : s.value ≡ []). inl (e, rw (is, e)))
            (λ (n : Number s.value). inr (rw (is, number_some s.value n) (sym (number_text s.value n))))
            s.kind;
      }

  files_stands : Stands files_key (λ text. text ≡ decimal F) sheet 4
  unfolding sheet_files has
  files_stands =
      let s = stands_there (tells_count sheet 4 files_key (omega arith) refl 256) (λ n. clean 4 (LineIsBad.files refl n)) in
      number_says files_key refl sheet 4 (record { value = s.value; rest = s.rest; is = s.is; kind = s.kind.0 })

  wants_stands : Stands wants_key (λ text. text ≡ decimal W) sheet (5 + F)
  unfolding sheet_wants has
  wants_stands =
      let s = stands_there (tells_count sheet (5 + F) wants_key (omega arith) refl 64) (λ n. clean (5 + F) (LineIsBad.wants refl n)) in
      subst (λ n. Stands wants_key (λ text. text ≡ decimal n) sheet (5 + F)) (ap (λ t. number_behind wants_key (line_of t)) (sym (wants_behind sheet)))
      (number_says wants_key refl sheet (5 + F) (record { value = s.value; rest = s.rest; is = s.is; kind = s.kind.0 }))

  pub on_its_lines : OnItsLines sheet (sheet_name sheet) held
  unfolding sheet_head has
  on_its_lines =
      record {
        tape = tape_stands;
        head = number_says head_key refl sheet 1 (stands_there (tells_number sheet 1 head_key (omega arith) refl) (λ n. clean 1 (LineIsBad.head refl n)));
        turn = turn_stands;
        files = rw many_files files_stands;
        file = λ i l. file_stands i (omega (arith, l, many_files));
        wants = rw (many_files, many_wants_here) wants_stands;
        want = λ i l. rw many_files (want_stands i (omega (arith, l, many_wants_here)));
        lengths = length_each (λ i. middle_in file_key (line_after i (file_text sheet))) F ∙ sym many_files;
        aggregates = length_each (λ i. third_in file_key (line_after i (file_text sheet))) F ∙ sym many_files;
        counts = length_each (λ i. second_in want_key (line_after i (want_text sheet))) W ∙ sym many_wants_here;
      }

pub sheet_holds_its_lines : SheetHoldsItsLines
unfolding sheet_run
sheet_holds_its_lines sheet none = on_its_lines sheet none

-- The name that is handed out.
good_sheet : (sheet : List ℕ) → length sheet ≤ 16384 → NoBadLine sheet → refuses (sheet_verdict sheet) ≡ false
unfolding sheet_verdict
good_sheet sheet short none = rw (le-ltb longest_sheet (length sheet) short, none_found sheet none)

long_refused : (sheet : List ℕ) → 16384 < length sheet → refuses (sheet_verdict sheet) ≡ true
unfolding sheet_verdict
long_refused sheet long = rw (lt-ltb longest_sheet (length sheet) long)

line_refused : (sheet : List ℕ) (n : ℕ) → first_bad_line sheet ≡ suc n → refuses (sheet_verdict sheet) ≡ true
unfolding sheet_verdict
line_refused sheet n e = go (ltb longest_sheet (length sheet)) refl
  where
    go : (b : Bool) → ltb longest_sheet (length sheet) ≡ b → refuses (sheet_verdict sheet) ≡ true
    go true t = rw t
    go false f = rw (f, e)

pub name_is_read : NameIsRead
unfolding read_name
name_is_read sheet =
    record {
      read = λ short none. rw (good_sheet sheet short none) (tape_stands sheet none);
      long = λ over. rw (long_refused sheet over);
      bad = λ place f. rw (line_refused sheet f.index (line_found sheet place f ∙ f.at));
    }

-- A row with values in its first entries.
module _ (values row out : List ℕ) (n : ℕ) (many : length values ≡ n) (is : out ≡ values ++ drop (length values) row) where
  front_is_here : take n out ≡ values
  front_is_here = rw (sym many, is) (take-append_seam values (drop (length values) row))

  later_is_here : drop n out ≡ drop n row
  later_is_here = rw (sym many, is) (drop-append_seam values (drop (length values) row))

module _ (sheet : List ℕ) (before : RunRows) (answer : Reading) (after : RunRows) (read : SheetRead sheet before answer after) (passes : refuses (rows_verdict sheet before) ≡ false) where
  abbrev run : Run
  run = sheet_run_with 12000 sheet

  filled : (values row out : List ℕ) → out ≡ read_row (rows_verdict sheet before) values row → out ≡ values ++ drop (length values) row
  unfolding read_row
  filled values row out e = e ∙ rw passes

  files_are : answer.files ≡ sheet_files sheet
  files_are = ap (λ (x : Reading). x.files) read.answer ∙ rw passes

  wants_are : answer.wants ≡ sheet_wants sheet
  wants_are = ap (λ (x : Reading). x.wants) read.answer ∙ rw passes

  of_files : (value : List ℕ → ℕ) → length (each_of (λ i. value (line_after i (file_text sheet))) (sheet_files sheet)) ≡ answer.files
  of_files value = length_each (λ i. value (line_after i (file_text sheet))) (sheet_files sheet) ∙ sym files_are

  of_wants : (value : List ℕ → ℕ) → length (each_of (λ i. value (line_after i (want_text sheet))) (sheet_wants sheet)) ≡ answer.wants
  of_wants value = length_each (λ i. value (line_after i (want_text sheet))) (sheet_wants sheet) ∙ sym wants_are

  starts_filled : after.starts ≡ run.starts ++ drop (length run.starts) before.starts
  starts_filled = filled run.starts before.starts after.starts read.starts

  lengths_filled : after.lengths ≡ run.lengths ++ drop (length run.lengths) before.lengths
  lengths_filled = filled run.lengths before.lengths after.lengths read.lengths

  aggregates_filled : after.aggregates ≡ run.aggregates ++ drop (length run.aggregates) before.aggregates
  aggregates_filled = filled run.aggregates before.aggregates after.aggregates read.aggregates

  numbers_filled : after.numbers ≡ run.numbers ++ drop (length run.numbers) before.numbers
  numbers_filled = filled run.numbers before.numbers after.numbers read.numbers

  counts_filled : after.counts ≡ run.counts ++ drop (length run.counts) before.counts
  counts_filled = filled run.counts before.counts after.counts read.counts

  run_is : run_read answer after ≡ run
  run_is =
      rw (
        front_is_here run.starts before.starts after.starts answer.files (of_files (first_in file_key)) starts_filled,
        front_is_here run.lengths before.lengths after.lengths answer.files (of_files (middle_in file_key)) lengths_filled,
        front_is_here run.aggregates before.aggregates after.aggregates answer.files (of_files (third_in file_key)) aggregates_filled,
        front_is_here run.numbers before.numbers after.numbers answer.wants (of_wants (first_in want_key)) numbers_filled,
        front_is_here run.counts before.counts after.counts answer.wants (of_wants (second_in want_key)) counts_filled,
        read.answer,
        passes,
      )

  behind_read : BehindRead answer before after
  behind_read =
      record {
        files = sym (of_files (first_in file_key)) ∙ ap length (sym (front_is_here run.starts before.starts after.starts answer.files (of_files (first_in file_key)) starts_filled));
        wants = sym (of_wants (first_in want_key)) ∙ ap length (sym (front_is_here run.numbers before.numbers after.numbers answer.wants (of_wants (first_in want_key)) numbers_filled));
        starts = later_is_here run.starts before.starts after.starts answer.files (of_files (first_in file_key)) starts_filled;
        lengths = later_is_here run.lengths before.lengths after.lengths answer.files (of_files (middle_in file_key)) lengths_filled;
        aggregates = later_is_here run.aggregates before.aggregates after.aggregates answer.files (of_files (third_in file_key)) aggregates_filled;
        numbers = later_is_here run.numbers before.numbers after.numbers answer.wants (of_wants (first_in want_key)) numbers_filled;
        counts = later_is_here run.counts before.counts after.counts answer.wants (of_wants (second_in want_key)) counts_filled;
      }

  none_bad_here : NoBadLine sheet
  none_bad_here = no_line sheet (no_bad_line sheet (sheet_passes sheet before passes))

  name_is : read_name sheet ≡ sheet_name sheet
  unfolding read_name
  name_is = rw (sheet_passes sheet before passes)

  holds : OnItsLines sheet (read_name sheet) (run_read answer after)
  holds = subst (λ name. OnItsLines sheet name (run_read answer after)) (sym name_is) (subst (OnItsLines sheet (sheet_name sheet)) (sym run_is) (on_its_lines sheet none_bad_here))

pub read_holds_its_lines : ReadHoldsItsLines
read_holds_its_lines sheet before answer after read accepts =
    let passes = read_passes sheet before answer after read accepts in
    (holds sheet before answer after read passes, behind_read sheet before answer after read passes)
