-- The worked cases of mending: how many lines of a kind come is found by looking at as many and one more; the rest computes.
use Prim.Native.Nat.{ℕ, ◌≤◌}
use mathlib.Core.Path.{◌≡◌, refl, ap, ◌∙◌}
use mathlib.Core.Bool.{Bool, true, false, not, cond}
use mathlib.Core.List.{List, [], ◌∷◌, ◌++◌}
use native.Mathlib.Omega.{arith}
use lib.ListN.{length}
use borrow.Author.Tests.{not-false}
use Rattle.refusals.specs.declared.Refusal.TheVariants.{Accepted}
use Rattle.refusals.specs.Refusals.{accepted, is_refusal, first_where}
use Rattle.runs.specs.Lists.{any_below}
use Rattle.runs.proofs.Search.{first_zero}
use Rattle.text_bytes.specs.Text.{bytes, has, before, behind, starts_with, all_of, value_from, is_number, is_name, decimal_in, decimal}
use Rattle.text_lines.specs.Lines.{line_of, after_lines, line_after, is_number_line, is_pair, is_pair_line, is_triple, is_triple_line, first_bad_of, each_of, lines_before}
use Rattle.sheet_reader.specs.Lines.{file_key, want_key, is_tape_line, is_turn_line, is_rule_line, turn_with, names_sweep}
use Rattle.sheet_reader.specs.Sheet.{longest_sheet, most_sheet_files, sheet_turn, sheet_turn_with, says_sweep, sheet_files, file_text}
use Rattle.sheet_reader.specs.Reading.{read_row}
use Rattle.text_pages.specs.Printing.{pair_lines}
use Rattle.sheet_loose.specs.Loose.{loose_files, loose_wants_text, loose_want_text, loose_wants, loose_end, wants_said, price_left_out, first_bad_loose_top, first_bad_loose_below, first_bad_loose, wanted_files, wanted_counts}
use Rattle.sheet_loose.specs.Reading.{loose_verdict, want_rows_verdict, loose_parts}
use Rattle.answer_mend.specs.declared.Mended.{Mended}
use Rattle.answer_mend.specs.Wants.{sum_below, enter, remaining, reads_in_all, reads_of_want, reads_each, same_above, higher_above, fate_of}
use Rattle.answer_mend.specs.Mending.{sheet_remaining, sheet_reads, mended_text, fate_lines, changes_text, mend_verdict, refused_mending}
use Rattle.promises.specs.Mends.{WasMended}
use Rattle.promises.specs.Mender.{disordered, in_order, listed, MendsADisorderedSheet, RefusedCases}
use Rattle.promises.specs.CallersRead.{ReadsTheDisorderedSheet}
use Rattle.promises.proofs.Again.{come_so_many}
use Rattle.promises.proofs.Taken.{empty_price_lem}
use Rattle.promises.proofs.Mends.{mended_rows}

come_computed : (test : List ℕ → Bool) (most n : ℕ) (text : List ℕ) → n ≤ most → first_bad_of test n text ≡ 0 → test (line_after n text) ≡ false → lines_before most (first_bad_of test most text) ≡ n
unfolding first_bad_of
come_computed test most n text few good bad =
    come_so_many test most n text few (λ i l. not-false (test (line_after i text)) (first_zero (λ j. not (test (line_after j text))) n good i l)) (λ l. bad)

-- A sheet that is accepted, with rows as long as the two texts.
was_mended : (sheet text changes : List ℕ) → mended_text sheet ≡ text → mend_verdict sheet text changes ≡ accepted → WasMended sheet text
was_mended sheet text changes is passes =
    record {
      out = text;
      notes = changes;
      answer = answer;
      out' = read_row (mend_verdict sheet text changes) (mended_text sheet) text;
      notes' = read_row (mend_verdict sheet text changes) (changes_text sheet) changes;
      contract = record { answer = refl; sheet = refl; listed = refl };
      accepted = yes;
      text_is = (mended_rows sheet text changes answer _ _ (record { answer = refl; sheet = refl; listed = refl }) yes).text ∙ is;
    }
  where
    answer : Mended
    answer =
        cond (is_refusal (mend_verdict sheet text changes).refusal) (refused_mending (mend_verdict sheet text changes))
        (record { refusal = Accepted; place = 0; bytes = length (mended_text sheet); noted = length (changes_text sheet) })

    yes : answer.refusal ≡ Accepted
    yes = rw passes

abbrev wants_of : List ℕ
wants_of = bytes "want=2,1\nwant=1,0\nwant=1,2\nwant=2,3\n"

files_two : loose_files disordered ≡ 2
unfolding loose_files file_text after_lines line_of first_bad_of first_where is_triple_line is_triple is_pair is_number all_of value_from has before behind starts_with
files_two = come_computed (is_triple_line file_key) most_sheet_files 2 (file_text disordered) (omega arith) refl refl

tail_text : loose_wants_text disordered ≡ bytes "wants=9\n" ++ wants_of
unfolding loose_wants_text file_text after_lines behind
tail_text = rw files_two

body_text : loose_want_text disordered ≡ wants_of
unfolding loose_want_text after_lines behind
body_text = rw tail_text

wants_four : loose_wants disordered ≡ 4
unfolding loose_wants after_lines line_of first_bad_of first_where is_pair_line is_pair is_number all_of value_from has before behind starts_with
wants_four =
    ap (λ t. lines_before longest_sheet (first_bad_of (is_pair_line want_key) longest_sheet t)) body_text
    ∙ come_computed (is_pair_line want_key) longest_sheet 4 wants_of (omega arith) refl refl

named : wanted_files disordered ≡ 2 ∷ 1 ∷ 1 ∷ 2 ∷ []
unfolding wanted_files each_of line_of after_lines has before behind value_from
named = rw (wants_four, body_text)

counted : wanted_counts disordered ≡ 1 ∷ 0 ∷ 2 ∷ 3 ∷ []
unfolding wanted_counts each_of line_of after_lines has before behind value_from
counted = rw (wants_four, body_text)

remain : sheet_remaining disordered ≡ 1 ∷ 2 ∷ []
unfolding sheet_remaining remaining enter
remain = rw (named, counted)

reads : sheet_reads disordered ≡ 2 ∷ 4 ∷ []
unfolding sheet_reads reads_each reads_of_want sum_below
reads = rw (remain, named, counted)

price : sheet_turn disordered ≡ 12000
unfolding sheet_turn_with turn_with line_of after_lines has before behind
price = refl

digits : (decimal 1 ≡ bytes "1") × (decimal 2 ≡ bytes "2") × (decimal 4 ≡ bytes "4")
unfolding decimal_in
digits = (refl, refl, refl)

mended : mended_text disordered ≡ in_order
unfolding mended_text file_text after_lines behind pair_lines
mended = rw (price, files_two, remain, reads, empty_price_lem, digits.0, digits.1, digits.2)

fates : fate_lines 8 (2 ∷ 1 ∷ 1 ∷ 2 ∷ []) (1 ∷ 0 ∷ 2 ∷ 3 ∷ []) 4 ≡ bytes "change=10,dropped\nchange=11,moved\nchange=12,added\n"
unfolding fate_lines fate_of same_above higher_above any_below decimal_in
fates = refl

said : (sheet_files disordered ≡ 3) × (wants_said disordered ≡ 9)
unfolding sheet_files wants_said line_of after_lines has before behind value_from
said = (refl, rw tail_text)

empty : (price_left_out disordered ≡ true) × (says_sweep disordered ≡ true)
unfolding price_left_out says_sweep names_sweep starts_with line_of after_lines has before behind
empty = (refl, refl)

changes : changes_text disordered ≡ listed
unfolding changes_text decimal_in
changes = rw (empty.0, empty.1, said.0, said.1, files_two, remain, named, counted, fates)

described : first_bad_loose disordered ≡ 0
unfolding first_bad_loose first_bad_loose_top first_bad_loose_below loose_end is_tape_line is_name is_turn_line is_rule_line is_number_line is_number all_of value_from starts_with line_of after_lines has before behind
described = rw (tail_text, wants_four, body_text)

taken : mend_verdict disordered in_order listed ≡ accepted
unfolding mend_verdict loose_verdict reads_in_all sum_below
taken = rw (described, remain, counted, mended, changes)

pub mends_a_disordered_sheet : MendsADisorderedSheet
mends_a_disordered_sheet = (was_mended disordered in_order listed mended taken, changes)

-- Its parts, as they are read.
loose_taken : loose_verdict disordered ≡ accepted
unfolding loose_verdict
loose_taken = rw described

pub reads_the_disordered_sheet : ReadsTheDisorderedSheet
unfolding want_rows_verdict loose_parts read_row file_text after_lines behind
reads_the_disordered_sheet p wanted' counts' h = (
  h.answer ∙ rw (loose_taken, wants_four, files_two, said.0, said.1, price, empty.0, empty.1, tail_text, body_text),
  h.files ∙ rw (loose_taken, wants_four, named),
  h.reads ∙ rw (loose_taken, wants_four, counted),
)

-- 11, and 5.
abbrev second : List ℕ
second = bytes "tape=T1\nhead=+9\n"

second_bad : first_bad_loose second ≡ 2
unfolding first_bad_loose first_bad_loose_top is_tape_line is_name is_number_line is_number all_of value_from starts_with line_of after_lines has before behind
second_bad = refl

abbrev many : List ℕ
many = bytes "tape=T1\nhead=900\nturn=\nrule=least\nfiles=0\nwants=1\nwant=1,1000\nwant=1,25\n"

no_files : loose_files many ≡ 0
unfolding loose_files file_text after_lines line_of first_bad_of first_where is_triple_line has before behind starts_with
no_files = come_computed (is_triple_line file_key) most_sheet_files 0 (file_text many) (omega arith) refl refl

many_tail : loose_wants_text many ≡ bytes "wants=1\nwant=1,1000\nwant=1,25\n"
unfolding loose_wants_text file_text after_lines behind
many_tail = rw no_files

many_body : loose_want_text many ≡ bytes "want=1,1000\nwant=1,25\n"
unfolding loose_want_text after_lines behind
many_body = rw many_tail

many_wants : loose_wants many ≡ 2
unfolding loose_wants after_lines line_of first_bad_of first_where is_pair_line is_pair is_number all_of value_from has before behind starts_with
many_wants =
    ap (λ t. lines_before longest_sheet (first_bad_of (is_pair_line want_key) longest_sheet t)) many_body
    ∙ come_computed (is_pair_line want_key) longest_sheet 2 (bytes "want=1,1000\nwant=1,25\n") (omega arith) refl refl

many_described : first_bad_loose many ≡ 0
unfolding first_bad_loose first_bad_loose_top first_bad_loose_below loose_end is_tape_line is_name is_turn_line is_rule_line is_number_line is_number all_of value_from starts_with line_of after_lines has before behind
many_described = rw (many_tail, many_wants, many_body)

many_named : wanted_files many ≡ 1 ∷ 1 ∷ []
unfolding wanted_files each_of line_of after_lines has before behind value_from
many_named = rw (many_wants, many_body)

many_counted : wanted_counts many ≡ 1000 ∷ 25 ∷ []
unfolding wanted_counts each_of line_of after_lines has before behind value_from
many_counted = rw (many_wants, many_body)

many_remain : sheet_remaining many ≡ 1 ∷ []
unfolding sheet_remaining remaining enter
many_remain = rw (many_named, many_counted)

pub refused_cases : RefusedCases
unfolding mend_verdict loose_verdict reads_in_all sum_below
refused_cases out notes = (rw second_bad, rw (many_described, many_remain, many_counted))
