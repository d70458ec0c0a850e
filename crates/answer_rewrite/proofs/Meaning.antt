-- The rewritten sheet is cut and read: where the 0 stands, and that it means, to a reader of any kind, what the old sheet meant to one to whom an
-- empty price is 0.
use Prim.Native.Nat.{ℕ, ◌+◌, ◌≤◌, ◌<◌}
use Prim.Native.Char.{code}
use mathlib.Core.Path.{◌≡◌, refl, sym, ap, ◌∙◌}
use mathlib.Core.Bool.{Bool, true, false, true≢false}
use mathlib.Core.List.{List, [], ◌∷◌, ◌++◌, append_assoc}
use native.Mathlib.Omega.{arith}
use lib.ListN.{length, take, drop, length-append, length-drop}
use lib.Seq.{take_at, drop_at}
use lib.Dec.{eqb}
use borrow.Author.Tests.{eq-eqb, eqb-true}
use Rattle.text_bytes.specs.Text.{line_feed, has, behind, starts_with, is_text, is_number, all_of, value_from}
use Rattle.text_bytes.proofs.Bytes.{and_true_both, begun_long, not_empty}
use Rattle.text_bytes.proofs.Split.{has_here, before_here, behind_here, whole_key}
use Rattle.text_lines.specs.Lines.{line_of, after_lines, line_after, value_text}
use Rattle.sheet_reader.specs.Lines.{turn_key, is_turn_line, turn_with}
use Rattle.sheet_reader.specs.Sheet.{sheet_head, sheet_turn_with, says_sweep, sheet_files, file_text, wants_text, sheet_wants, want_text, end_text, first_bad_top, first_bad_below, first_bad_line, sheet_run_with, sheet_name}
use Rattle.sheet_reader.proofs.Good.{turn_begun, no_bad_line}
use Rattle.answer_rewrite.specs.Rewriting.{price_is_empty, bytes_before, rewritten}
use Rattle.answer_rewrite.specs.Private.{Readable}
use Rattle.answer_rewrite.proofs.Cut.{tape_split, head_split, turn_split, tape_flat, head_flat}

-- Sheets that differ in the third line only.
pub record SameBeside (s t : List ℕ) : Type 0 where
  pub tape : line_after 0 s ≡ line_after 0 t
  pub head : line_after 1 s ≡ line_after 1 t
  pub turn : is_turn_line (line_after 2 s) ≡ is_turn_line (line_after 2 t)
  pub rest : after_lines 3 s ≡ after_lines 3 t

module _ (s t : List ℕ) (same : SameBeside s t) where
  after₄ : after_lines 4 s ≡ after_lines 4 t
  unfolding after_lines
  after₄ = ap (behind line_feed) same.rest

  pub files_same : sheet_files s ≡ sheet_files t
  unfolding sheet_files
  files_same = rw after₄

  file_text_here : file_text s ≡ file_text t
  unfolding file_text after_lines
  file_text_here = ap (behind line_feed) after₄

  wants_text_here : wants_text s ≡ wants_text t
  unfolding wants_text
  wants_text_here = rw (files_same, file_text_here)

  pub wants_same : sheet_wants s ≡ sheet_wants t
  unfolding sheet_wants
  wants_same = rw wants_text_here

  want_text_here : want_text s ≡ want_text t
  unfolding want_text
  want_text_here = rw wants_text_here

  end_text_here : end_text s ≡ end_text t
  unfolding end_text
  end_text_here = rw (wants_same, want_text_here)

  -- The same line is the first that is not as described.
  pub lines_same : first_bad_line s ≡ first_bad_line t
  unfolding first_bad_line first_bad_top first_bad_below
  lines_same = rw (same.tape, same.head, same.turn, same.rest, after₄, files_same, file_text_here, wants_text_here, wants_same, want_text_here, end_text_here)

  pub rule_same : says_sweep s ≡ says_sweep t
  unfolding says_sweep
  rule_same = rw same.rest

  pub name_same : sheet_name s ≡ sheet_name t
  unfolding sheet_name
  name_same = rw same.tape

  pub run_same : (e f : ℕ) → turn_with e (line_after 2 s) ≡ turn_with f (line_after 2 t) → sheet_run_with e s ≡ sheet_run_with f t
  unfolding sheet_head sheet_turn_with
  run_same e f turn = rw (same.head, turn, files_same, file_text_here, wants_same, want_text_here)

-- Three lines and what follows them.
abbrev three_lines : List ℕ → List ℕ → List ℕ → List ℕ → List ℕ
three_lines a b c rest = a ++ (line_feed ∷ (b ++ (line_feed ∷ (c ++ (line_feed ∷ rest)))))

first_line_lem : (a rest : List ℕ) → has line_feed a ≡ false → line_of (a ++ (line_feed ∷ rest)) ≡ a
unfolding line_of
first_line_lem a rest flat = rw (has_here line_feed a rest, before_here line_feed a rest flat)

module _ (a b c rest : List ℕ) (flat-a : has line_feed a ≡ false) (flat-b : has line_feed b ≡ false) (flat-c : has line_feed c ≡ false) where
  after_first : after_lines 1 (three_lines a b c rest) ≡ b ++ (line_feed ∷ (c ++ (line_feed ∷ rest)))
  unfolding after_lines
  after_first = behind_here line_feed a (b ++ (line_feed ∷ (c ++ (line_feed ∷ rest)))) flat-a

  after_second : after_lines 2 (three_lines a b c rest) ≡ c ++ (line_feed ∷ rest)
  unfolding after_lines
  after_second = ap (behind line_feed) after_first ∙ behind_here line_feed b (c ++ (line_feed ∷ rest)) flat-b

  after_third : after_lines 3 (three_lines a b c rest) ≡ rest
  unfolding after_lines
  after_third = ap (behind line_feed) after_second ∙ behind_here line_feed c rest flat-c

  line_first : line_after 0 (three_lines a b c rest) ≡ a
  unfolding after_lines
  line_first = first_line_lem a (b ++ (line_feed ∷ (c ++ (line_feed ∷ rest)))) flat-a

  line_second : line_after 1 (three_lines a b c rest) ≡ b
  line_second = ap line_of after_first ∙ first_line_lem b (c ++ (line_feed ∷ rest)) flat-b

  line_third : line_after 2 (three_lines a b c rest) ≡ c
  line_third = ap line_of after_second ∙ first_line_lem c rest flat-c

-- `turn=` and `turn=0` are both as described; the one means the price of an empty `turn=`, the other 0.
abbrev zero_line : List ℕ
zero_line = turn_key ++ (code "0" ∷ [])

empty_good : is_turn_line turn_key ≡ true
unfolding is_turn_line starts_with
empty_good = refl

zero_good : is_turn_line zero_line ≡ true
unfolding is_turn_line starts_with is_number all_of value_from
zero_good = refl

empty_means : (e : ℕ) → turn_with e turn_key ≡ e
unfolding turn_with
empty_means e = refl

zero_means : (e : ℕ) → turn_with e zero_line ≡ 0
unfolding turn_with value_from
zero_means e = refl

zero_flat : has line_feed zero_line ≡ false
unfolding has
zero_flat = refl

-- A sheet without an empty price is left as it is.
once : (sheet : List ℕ) → price_is_empty sheet ≡ false → rewritten sheet ≡ sheet
unfolding rewritten
once sheet given = rw given

-- A readable sheet with an empty price, cut at it.
module _ (sheet : List ℕ) (good : Readable sheet) (empty : price_is_empty sheet ≡ true) where
  turn_line_here : line_after 2 sheet ≡ turn_key
  unfolding price_is_empty
  turn_line_here =
      let both = and_true_both (eqb (length turn_key) (length (line_after 2 sheet))) (starts_with turn_key (line_after 2 sheet)) empty in
      whole_key turn_key (line_after 2 sheet) (eqb-true (length turn_key) (length (line_after 2 sheet)) both.0) both.1

  -- The two lines before it.
  pub upper : List ℕ
  upper = line_after 0 sheet ++ (line_feed ∷ (line_after 1 sheet ++ (line_feed ∷ [])))

  upper_then : (x : List ℕ) → upper ++ x ≡ line_after 0 sheet ++ (line_feed ∷ (line_after 1 sheet ++ (line_feed ∷ x)))
  unfolding upper
  upper_then x =
      append_assoc (line_after 0 sheet) (line_feed ∷ (line_after 1 sheet ++ (line_feed ∷ []))) x
      ∙ ap (λ y. line_after 0 sheet ++ (line_feed ∷ y)) (append_assoc (line_after 1 sheet) (line_feed ∷ []) x)

  pub upper_rest : sheet ≡ upper ++ after_lines 2 sheet
  upper_rest = tape_split sheet good ∙ ap (λ y. line_after 0 sheet ++ (line_feed ∷ y)) (head_split sheet good) ∙ sym (upper_then (after_lines 2 sheet))

  pub rest_is : after_lines 2 sheet ≡ turn_key ++ (line_feed ∷ after_lines 3 sheet)
  rest_is = turn_split sheet good ∙ ap (λ y. y ++ (line_feed ∷ after_lines 3 sheet)) turn_line_here

  pub old_cut : sheet ≡ (upper ++ turn_key) ++ (line_feed ∷ after_lines 3 sheet)
  old_cut = upper_rest ∙ ap (λ y. upper ++ y) rest_is ∙ sym (append_assoc upper turn_key (line_feed ∷ after_lines 3 sheet))

  before_is : length (upper ++ turn_key) ≡ bytes_before sheet
  unfolding bytes_before
  before_is = omega (arith, length-append upper turn_key, ap length upper_rest, length-append upper (after_lines 2 sheet))

  pub new_cut : rewritten sheet ≡ (upper ++ turn_key) ++ (code "0" ∷ (line_feed ∷ after_lines 3 sheet))
  unfolding rewritten
  new_cut =
      let front : take (bytes_before sheet) sheet ≡ upper ++ turn_key
      = ap (take (bytes_before sheet)) old_cut ∙ take_at (upper ++ turn_key) (line_feed ∷ after_lines 3 sheet) (bytes_before sheet) before_is in
      let back : drop (bytes_before sheet) sheet ≡ line_feed ∷ after_lines 3 sheet
      = ap (drop (bytes_before sheet)) old_cut ∙ drop_at (upper ++ turn_key) (line_feed ∷ after_lines 3 sheet) (bytes_before sheet) before_is in
      rw (empty, front, back)

  -- Its lines.
  in_lines : rewritten sheet ≡ three_lines (line_after 0 sheet) (line_after 1 sheet) zero_line (after_lines 3 sheet)
  in_lines = new_cut ∙ append_assoc upper turn_key (code "0" ∷ (line_feed ∷ after_lines 3 sheet)) ∙ upper_then (zero_line ++ (line_feed ∷ after_lines 3 sheet))

  zero_line_here : line_after 2 (rewritten sheet) ≡ zero_line
  zero_line_here =
      ap (line_after 2) in_lines
      ∙ line_third (line_after 0 sheet) (line_after 1 sheet) zero_line (after_lines 3 sheet) (tape_flat sheet good) (head_flat sheet good) zero_flat

  same_beside : SameBeside (rewritten sheet) sheet
  same_beside =
      record {
        tape = ap (line_after 0) in_lines ∙ line_first (line_after 0 sheet) (line_after 1 sheet) zero_line (after_lines 3 sheet) (tape_flat sheet good) (head_flat sheet good) zero_flat;
        head = ap (line_after 1) in_lines ∙ line_second (line_after 0 sheet) (line_after 1 sheet) zero_line (after_lines 3 sheet) (tape_flat sheet good) (head_flat sheet good) zero_flat;
        turn = ap is_turn_line zero_line_here ∙ zero_good ∙ sym empty_good ∙ ap is_turn_line (sym turn_line_here);
        rest = ap (after_lines 3) in_lines ∙ after_third (line_after 0 sheet) (line_after 1 sheet) zero_line (after_lines 3 sheet) (tape_flat sheet good) (head_flat sheet good) zero_flat;
      }

  zero_stands : price_is_empty (rewritten sheet) ≡ false
  unfolding price_is_empty
  zero_stands = ap (is_text turn_key) zero_line_here

  no_more : rewritten (rewritten sheet) ≡ rewritten sheet
  no_more = once (rewritten sheet) zero_stands

-- What rewriting keeps of a readable sheet.
pub record Keeps (sheet : List ℕ) : Type 0 where
  pub lines : first_bad_line (rewritten sheet) ≡ 0
  pub files : sheet_files (rewritten sheet) ≡ sheet_files sheet
  pub wants : sheet_wants (rewritten sheet) ≡ sheet_wants sheet
  pub run : (e : ℕ) → sheet_run_with e (rewritten sheet) ≡ sheet_run_with 0 sheet
  pub rule : says_sweep (rewritten sheet) ≡ says_sweep sheet
  pub name : sheet_name (rewritten sheet) ≡ sheet_name sheet
  pub again : rewritten (rewritten sheet) ≡ rewritten sheet

-- A price that is written is no other for any reader.
module _ (sheet : List ℕ) (good : Readable sheet) (given : price_is_empty sheet ≡ false) where
  pub unchanged : rewritten sheet ≡ sheet
  unchanged = once sheet given

  value_stands : 5 < length (line_after 2 sheet)
  unfolding price_is_empty
  value_stands =
      let begun = turn_begun sheet good in
      let other : length (line_after 2 sheet) ≡ 5 → ⊥ = λ e. true≢false (sym (rw (eq-eqb 5 (length (line_after 2 sheet)) (sym e), begun)) ∙ given) in
      omega (arith, other, begun_long turn_key (line_after 2 sheet) begun)

  price_stands : (e : ℕ) → turn_with e (line_after 2 sheet) ≡ turn_with 0 (line_after 2 sheet)
  unfolding turn_with
  price_stands e = rw (not_empty (value_text turn_key (line_after 2 sheet)) (omega (arith, value_stands, length-drop 5 (line_after 2 sheet))))

pub keeps : (sheet : List ℕ) → Readable sheet → Keeps sheet
keeps sheet good = go (price_is_empty sheet) refl
  where
    go : (b : Bool) → price_is_empty sheet ≡ b → Keeps sheet
    go true e =
        let same = same_beside sheet good e in
        record {
          lines = lines_same (rewritten sheet) sheet same ∙ no_bad_line sheet good;
          files = files_same (rewritten sheet) sheet same;
          wants = wants_same (rewritten sheet) sheet same;
          run = λ x. run_same (rewritten sheet) sheet same x 0 (ap (turn_with x) (zero_line_here sheet good e) ∙ zero_means x ∙ sym (empty_means 0) ∙ ap (turn_with 0) (sym (turn_line_here sheet good e)));
          rule = rule_same (rewritten sheet) sheet same;
          name = name_same (rewritten sheet) sheet same;
          again = no_more sheet good e;
        }
    go false e =
        let is = unchanged sheet good e in
        record {
          lines = ap first_bad_line is ∙ no_bad_line sheet good;
          files = ap sheet_files is;
          wants = ap sheet_wants is;
          run = λ x. ap (sheet_run_with x) is ∙ run_same sheet sheet (record { tape = refl; head = refl; turn = refl; rest = refl }) x 0 (price_stands sheet good e x);
          rule = ap says_sweep is;
          name = ap sheet_name is;
          again = ap rewritten is;
        }

-- The result is longer by a byte at most.
pub little_longer : (sheet : List ℕ) → Readable sheet → length (rewritten sheet) ≤ length sheet + 1
little_longer sheet good = go (price_is_empty sheet) refl
  where
    go : (b : Bool) → price_is_empty sheet ≡ b → length (rewritten sheet) ≤ length sheet + 1
    go true e =
        let front = upper sheet good e ++ turn_key in
        let back = line_feed ∷ after_lines 3 sheet in
        omega (arith, ap length (new_cut sheet good e) ∙ length-append front (code "0" ∷ back), ap length (old_cut sheet good e) ∙ length-append front back)
    go false e = omega (arith, ap length (unchanged sheet good e))
