-- An input of two texts is cut where its first line says, and answered as its two texts are.
use Prim.Native.Nat.{ℕ, ◌+◌, ◌-◌, ◌^◌, ◌≤◌, ◌<◌}
use mathlib.Core.Path.{◌≡◌, refl, ap, sym, ◌∙◌, subst}
use mathlib.Core.Bool.{Bool, true, false, not, ◌&&◌, true≢false}
use mathlib.Core.Logic.{◌↔◌, ⊎_elim}
use mathlib.Core.List.{List, [], ◌∷◌, ◌++◌, append_assoc}
use native.Mathlib.Omega.{arith}
use lib.ListN.{length, take, drop, length-append}
use lib.Seq.{take_at, drop_at, take_all}
use lib.Dec.{leb, ltb}
use borrow.Author.Tests.{le-leb, lt-leb, lt-ltb, ltb-true}
use Rattle.refusals.specs.declared.Refusal.TheVariants.{LongSheet}
use Rattle.refusals.specs.declared.Verdict.{Verdict}
use Rattle.refusals.proofs.Verdicts.{refuses}
use Rattle.runs.specs.Run.{Run}
use Rattle.runs.proofs.Search.{true_or_false}
use Rattle.text_bytes.specs.Text.{bytes, line_feed, is_empty, leading_zero, is_digit, all_of, has, before, behind, is_number, value_of, decimal, decimal_in}
use Rattle.text_bytes.proofs.Bytes.{and_true_both}
use Rattle.text_bytes.proofs.Decimals.{decimal_without, decimal_number, decimal_value}
use Rattle.text_bytes.proofs.Split.{has_here, before_here, behind_here, split_at}
use Rattle.text_lines.specs.Lines.{line_of}
use Rattle.std.specs.Prelude.{Some, None}
use Rattle.text_inputs.specs.Inputs.{framed, framed_behind, part_in}
use Rattle.text_inputs.proofs.Parts.{part_there, whole_sheet, cut_sheet, no_sheet}
use Rattle.text_pages.proofs.Pages.{decimal_short}
use Rattle.sheet_reader.specs.Sheet.{longest_sheet, sheet_run, sheet_name}
use Rattle.sheet_reader.specs.Reading.{sheet_verdict}
use Rattle.sheet_writer.specs.RefusalLines.{refusal_text}
use Rattle.answer_plan.specs.Recall.{verdict_by}
use Rattle.answer_check.specs.RunRules.{head_anywhere}
use Rattle.answer_check.specs.Pricing.{RowHolds, pricing_verdict, price_text, SheetPriced}
use Rattle.answer_any.proofs.Planned.{room_kept}
use Rattle.answer_check.specs.Checking.{CheckGiven, verdict_on, room_checked, SheetChecked}
use Rattle.answer_check.specs.Inputs.{most_input, framed_input, bad_input, AnsweredIn, room_in, InputChecked}
use Rattle.demands.proofs.Lines.{nothing_no_number}
use Rattle.promises.specs.InputTexts.{Counts, InputIsItsTexts, NoTwoTexts, Prints, OtherInputsRefused, CutInputsRefused}
use Rattle.demands.proofs.Canonical.{number_text}
use Rattle.promises.proofs.Checks.{put_whole}

-- An input that begins with a number.
module _ (input : List ℕ) (count : ℕ) (rest : List ℕ) (c : Counts input count rest) where
  abbrev from : ℕ
  from = length (decimal count) + 1

  first_line_here : line_of input ≡ decimal count
  unfolding line_of
  first_line_here = rw (c.is, has_here line_feed (decimal count) rest) (before_here line_feed (decimal count) rest (decimal_without line_feed count refl))

  behind_it : behind line_feed input ≡ rest
  behind_it = ap (behind line_feed) c.is ∙ behind_here line_feed (decimal count) rest (decimal_without line_feed count refl)

  in_all : length input ≡ from + length rest
  in_all = ap length c.is ∙ length-append (decimal count) (line_feed ∷ rest) ∙ omega arith

  framed_there : (cut : Bool) → framed input cut ≡ framed_behind from count (length rest) cut
  unfolding framed
  framed_there cut =
      let at : length input - length rest ≡ from = omega (arith, in_all) in
      rw (first_line_here, behind_it, decimal_number count c.small, decimal_value count, at)

  front_and_rest : input ≡ (decimal count ++ (line_feed ∷ [])) ++ rest
  front_and_rest = c.is ∙ sym (append_assoc (decimal count) (line_feed ∷ []) rest)

  behind_front_here : drop from input ≡ rest
  behind_front_here = ap (drop from) front_and_rest ∙ drop_at (decimal count ++ (line_feed ∷ [])) rest from (length-append (decimal count) (line_feed ∷ []))

  -- The bytes behind its first line, all of them.
  all_behind : part_in input from (from + length rest) ≡ rest
  all_behind =
      let many : from + length rest - from ≡ length rest = omega arith in
      sym (part_there input from (from + length rest) (omega arith) (omega (arith, in_all))) ∙ ap (λ k. take k (drop from input)) many ∙ ap (take (length rest)) behind_front_here ∙ take_all (length rest) rest (omega arith)

-- An input that is put together from two texts.
module _ (input sheet text : List ℕ) (c : Counts input (length sheet) (sheet ++ text)) where
  abbrev start : ℕ
  start = length (decimal (length sheet)) + 1

  abbrev end : ℕ
  end = start + length sheet

  whole : length input ≡ end + length text
  whole = in_all input (length sheet) (sheet ++ text) c ∙ omega (arith, length-append sheet text)

  sheet_part_here : part_in input start end ≡ sheet
  sheet_part_here =
      let many : end - start ≡ length sheet = omega arith in
      sym (part_there input start end (omega arith) (omega (arith, whole)))
      ∙ ap (λ k. take k (drop start input)) many
      ∙ ap (take (length sheet)) (behind_front_here input (length sheet) (sheet ++ text) c)
      ∙ take_at sheet text (length sheet) refl

  abbrev front : List ℕ
  front = decimal (length sheet) ++ (line_feed ∷ [])

  behind_sheet_here : drop end input ≡ text
  behind_sheet_here =
      let size : length (front ++ sheet) ≡ end = omega (arith, length-append front sheet, length-append (decimal (length sheet)) (line_feed ∷ [])) in
      ap (drop end) (front_and_rest input (length sheet) (sheet ++ text) c ∙ sym (append_assoc front sheet text)) ∙ drop_at (front ++ sheet) text end size

  text_part : part_in input end (length input) ≡ text
  text_part =
      sym (part_there input end (length input) (omega (arith, whole)) (omega arith))
      ∙ ap (take (length input - end)) behind_sheet_here
      ∙ take_all (length input - end) text (omega (arith, whole))

  framed_so : framed_input input ≡ Some (record { from = start; to = end })
  framed_so =
      let cut = leb most_input (length input) in
      framed_there input (length sheet) (sheet ++ text) c cut ∙ sym (whole_sheet start (length sheet) (length (sheet ++ text)) cut (omega (arith, length-append sheet text)))

  answered : (Answers : List ℕ → List ℕ → List ℕ → ℕ → List ℕ → Type 0) (row : List ℕ) (n : ℕ) (row' : List ℕ) → AnsweredIn Answers input (framed_input input) row n row' ↔ Answers sheet text row n row'
  answered Answers row n row' = (
    λ h. subst (λ x. Answers x text row n row') sheet_part_here
        (subst (λ x. Answers (part_in input start end) x row n row') text_part (subst (λ f. AnsweredIn Answers input f row n row') framed_so h)),
    λ h. subst (λ f. AnsweredIn Answers input f row n row') (sym framed_so)
        (subst (λ x. Answers (part_in input start end) x row n row') (sym text_part) (subst (λ x. Answers x text row n row') (sym sheet_part_here) h)),
  )

  -- The room that is left by the one is left by the other.
  room_there : (room : List ℕ) → room_in input (framed_input input) room ≡ room_checked sheet text room
  room_there room =
      ap (λ f. room_in input f room) framed_so ∙ ap (λ x. room_checked x (part_in input end (length input)) room) sheet_part_here ∙ ap (λ x. room_checked sheet x room) text_part

  checked : (row room : List ℕ) (n : ℕ) (row' room' : List ℕ) → InputChecked input row room n row' room' ↔ SheetChecked sheet text row room n row' room'
  checked row room n row' room' = (
    λ h. record { given = (answered (CheckGiven head_anywhere (length room)) row n row').0 h.given; cleared = h.cleared ∙ room_there room },
    λ h. record { given = (answered (CheckGiven head_anywhere (length room)) row n row').1 h.given; cleared = h.cleared ∙ sym (room_there room) },
  )

pub input_is_its_texts : InputIsItsTexts
input_is_its_texts input sheet text row room n row' room' c = (answered input sheet text c SheetPriced row n row', checked input sheet text c row room n row' room')

-- A first line that is a number makes the input begin with one.
below_word : (text : List ℕ) → is_number text ≡ true → value_of text < 2 ^ 64
unfolding is_number
below_word text e = ltb-true (value_of text) (2 ^ 64) (and_true_both (not (is_empty text) && not (leading_zero text) && all_of is_digit text) (ltb (value_of text) (2 ^ 64)) e).1

begins_counted : (input : List ℕ) → is_number (line_of input) ≡ true → Counts input (value_of (line_of input)) (behind line_feed input)
unfolding line_of
begins_counted input e = go (has line_feed input) refl
  where
    go : (b : Bool) → has line_feed input ≡ b → Counts input (value_of (line_of input)) (behind line_feed input)
    go true h =
        let line : line_of input ≡ before line_feed input = rw h in
        record { is = split_at line_feed input h ∙ ap (λ t. t ++ (line_feed ∷ behind line_feed input)) (sym line ∙ sym (number_text (line_of input) e)); small = below_word (line_of input) e }
    go false h = absurd (nothing_no_number (rw h at e))

framed_bad : (input : List ℕ) → NoTwoTexts input → framed_input input ≡ None
unfolding framed
framed_bad input (NoTwoTexts.no_count none) =
    ⊎_elim (λ (e : is_number (line_of input) ≡ true). absurd (none (value_of (line_of input)) (behind line_feed input) (begins_counted input e))) (λ (e : is_number (line_of input) ≡ false). rw e) (true_or_false (is_number (line_of input)))
framed_bad input (NoTwoTexts.too_few {count} {rest} c few all) =
    framed_there input count rest c (leb most_input (length input)) ∙ sym (no_sheet (length (decimal count) + 1) count (length rest) (leb most_input (length input)) few (lt-leb most_input (length input) all))

-- A row that holds a text prints it.
held_printed : (text said row : List ℕ) (n : ℕ) (row' : List ℕ) → RowHolds text row n row' → text ≡ said → length said ≤ length row → take n row' ≡ said
held_printed text said row n row' h e wide = put_whole text row n row' h.bytes h.left (subst (λ t. length t ≤ length row) (sym e) wide) ∙ e

lines_of_25 : refusal_text bad_input ≡ bytes "refused=25\nplace=1\n"
unfolding refusal_text decimal_in
lines_of_25 = refl

bad_printed : (Answers : List ℕ → List ℕ → List ℕ → ℕ → List ℕ → Type 0) (input : List ℕ) → NoTwoTexts input → Prints (AnsweredIn Answers input (framed_input input)) (bytes "refused=25\nplace=1\n")
bad_printed Answers input none row n row' h wide =
    let held : RowHolds (refusal_text bad_input) row n row' = subst (λ f. AnsweredIn Answers input f row n row') (framed_bad input none) h in
    held_printed (refusal_text bad_input) (bytes "refused=25\nplace=1\n") row n row' held lines_of_25 wide

pub other_inputs_refused : OtherInputsRefused
other_inputs_refused input room none = (
  bad_printed SheetPriced input none,
  (
    λ row n row' h wide. bad_printed (CheckGiven head_anywhere (length room)) input none row n row' h.1.given wide,
    λ row n row' room' h. h.cleared ∙ ap (λ f. room_in input f room) (framed_bad input none),
  ),
)

-- A run sheet that is too long.
abbrev too_long : Verdict
too_long = record { refusal = LongSheet; place = 0 }

long_refused : (checks : Run → List Verdict) (sheet : List ℕ) → 16384 < length sheet → verdict_by checks sheet ≡ too_long
unfolding verdict_by sheet_verdict
long_refused checks sheet l = rw (lt-ltb longest_sheet (length sheet) l)

lines_of_12 : refusal_text too_long ≡ bytes "refused=12\nplace=0\n"
unfolding refusal_text decimal_in
lines_of_12 = refl

priced_long : (sheet list : List ℕ) → 16384 < length sheet → Prints (SheetPriced sheet list) (bytes "refused=12\nplace=0\n")
unfolding price_text
priced_long sheet list l row n row' h wide =
    held_printed (price_text head_anywhere (pricing_verdict head_anywhere sheet list) (sheet_name sheet) (sheet_run sheet) list) (bytes "refused=12\nplace=0\n") row n row' h (rw (long_refused _ sheet l) lines_of_12) wide

checked_long : (words : ℕ) (sheet plan : List ℕ) → 16384 < length sheet → Prints (CheckGiven head_anywhere words sheet plan) (bytes "refused=12\nplace=0\n")
checked_long words sheet plan l row n row' h wide =
    let v = long_refused _ sheet l in
    held_printed h.text (bytes "refused=12\nplace=0\n") row n row' h.holds (h.answers.refused (ap refuses v) ∙ ap refusal_text v ∙ lines_of_12) wide

module _ (input : List ℕ) (count : ℕ) (rest : List ℕ) (c : Counts input count rest) (few : length rest < count) (all : 32791 ≤ length input) where
  cut_so : framed_input input ≡ Some (record { from = length (decimal count) + 1; to = length (decimal count) + 1 + length rest })
  cut_so = framed_there input count rest c (leb most_input (length input)) ∙ sym (cut_sheet (length (decimal count) + 1) count (length rest) (leb most_input (length input)) few (le-leb most_input (length input) all))

  long : 16384 < length rest
  long = omega (arith, all, in_all input count rest c, decimal_short count c.small)

  cut_printed : (Answers : List ℕ → List ℕ → List ℕ → ℕ → List ℕ → Type 0) → ((other : List ℕ) → Prints (Answers rest other) (bytes "refused=12\nplace=0\n")) → Prints (AnsweredIn Answers input (framed_input input)) (bytes "refused=12\nplace=0\n")
  cut_printed Answers says row n row' h wide =
      let other = part_in input (length (decimal count) + 1 + length rest) (length input) in
      says other row n row' (subst (λ x. Answers x other row n row') (all_behind input count rest c) (subst (λ f. AnsweredIn Answers input f row n row') cut_so h)) wide

  cut_room : (room : List ℕ) → room_in input (framed_input input) room ≡ room
  cut_room room =
      let start = length (decimal count) + 1 in
      let other = part_in input (start + length rest) (length input) in
      ap (λ f. room_in input f room) cut_so ∙ ap (λ x. room_checked x other room) (all_behind input count rest c)
      ∙ room_kept (verdict_on (length room) rest other) (sheet_run rest) room (ap refuses (long_refused _ rest long))

pub cut_inputs_refused : CutInputsRefused
cut_inputs_refused input room count rest c few all =
    let l = long input count rest c few all in (
      cut_printed input count rest c few all SheetPriced (λ other. priced_long rest other l),
      (
        λ row n row' h wide. cut_printed input count rest c few all (CheckGiven head_anywhere (length room)) (λ other. checked_long (length room) rest other l) row n row' h.1.given wide,
        λ row n row' room' h. h.cleared ∙ cut_room input count rest c few all room,
      ),
    )
