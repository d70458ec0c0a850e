-- Row 11: each test of a line tells whether the line stands as described.
use Prim.Native.Nat.{ℕ, suc, ◌^◌, ◌<◌}
use mathlib.Core.Path.{◌≡◌, refl, sym, ap, ◌∙◌}
use mathlib.Core.Bool.{Bool, true, false, not, ◌&&◌, ◌||◌, true≢false}
use mathlib.Core.Logic.{inl, inr, ⊎_elim}
use mathlib.Core.List.{List, [], ◌∷◌, ◌++◌, append_assoc}
use native.Mathlib.Omega.{arith}
use lib.ListN.{length}
use lib.Dec.{leb, ltb, eqb}
use borrow.Author.Tests.{eqb-true, eq-eqb}
use Rattle.runs.proofs.Search.{or_false_both}
use Rattle.text_bytes.specs.Text.{line_feed, comma, is_empty, has, before, behind, starts_with, is_text, all_of, is_digit, between, is_name_byte, is_number, is_name, value_of, leading_zero}
use Rattle.text_bytes.proofs.Bytes.{and_true_both, short_text}
use Rattle.text_bytes.proofs.Decimals.{has_append, has_none}
use Rattle.text_bytes.proofs.Split.{before_here, behind_here, split_at, key_split, whole_key}
use Rattle.text_lines.specs.Lines.{line_of, after_lines, line_after, value_text, is_number_line, is_pair, is_pair_line, is_triple, is_triple_line}
use Rattle.sheet_reader.specs.Lines.{is_tape_line, is_count_line, is_turn_line, is_rule_line, names_sweep, tape_key, turn_key, rule_key, sweep_text, least_text}
use Rattle.sheet_writer.proofs.Reread.{line_first, key_begins, key_value}
use Rattle.demands.specs.Lines.{Stands, Name, Number, NumberOrNothing, RuleName, UpTo, NumberAnd, Pair, Triple, Ruled}
use Rattle.demands.proofs.Tests.{Tells, tells_true, tells_holds, tells_at_most, tells_either, tells_both}

-- A byte that a text has not has nothing behind it.
module _ (c : ℕ) where
  pub behind_none : (text : List ℕ) → has c text ≡ false → behind c text ≡ []
  unfolding has behind
  behind_none [] e = refl
  behind_none (b ∷ text) e = let both = or_false_both (eqb b c) (has c text) e in rw both.0 (behind_none text both.1)

begins_itself : (key : List ℕ) → starts_with key key ≡ true
unfolding starts_with
begins_itself [] = refl
begins_itself (k ∷ key) = rw (eq-eqb k k refl) (begins_itself key)

-- The kinds of values, and that none holds an LF.
tells_text : (wanted text : List ℕ) → Tells (is_text wanted text) (text ≡ wanted)
tells_text wanted text =
    record {
      when_true = λ e. let both = and_true_both (eqb (length wanted) (length text)) (starts_with wanted text) e in whole_key wanted text (eqb-true _ _ both.0) both.1;
      when_false = λ e is. true≢false (sym (rw (is, eq-eqb (length wanted) (length wanted) refl) (begins_itself wanted)) ∙ e);
    }

tells_empty : (text : List ℕ) → Tells (is_empty text) (text ≡ [])
tells_empty [] = record { when_true = λ e. refl; when_false = λ e. absurd (true≢false e) }
tells_empty (b ∷ text) = record { when_true = λ e. absurd (true≢false (sym e)); when_false = λ e h. let l : suc (length text) ≡ 0 = ap length h in omega arith }

digits_of : (text : List ℕ) → Number text → all_of is_digit text ≡ true
unfolding is_number
digits_of text e =
    let begun = not (is_empty text) && not (leading_zero text) in
    (and_true_both begun (all_of is_digit text) (and_true_both (begun && all_of is_digit text) (ltb (value_of text) (2 ^ 64)) e).0).1

pub nothing_no_number : Number [] → ⊥
unfolding is_number
nothing_no_number e = true≢false (sym e)

pub number_some : (text : List ℕ) → Number text → is_empty text ≡ false
number_some [] n = absurd (nothing_no_number n)
number_some (b ∷ text) n = refl

pub number_flat : (c : ℕ) → is_digit c ≡ false → (text : List ℕ) → Number text → has c text ≡ false
number_flat c n text e = has_none is_digit c n text (digits_of text e)

pub name_flat : (text : List ℕ) → Name text → has line_feed text ≡ false
unfolding is_name
name_flat text e = has_none is_name_byte line_feed refl text (and_true_both (between 1 16 (length text)) (all_of is_name_byte text) e).1

pub nothing_flat : (text : List ℕ) → NumberOrNothing text → has line_feed text ≡ false
unfolding has
nothing_flat text (inl e) = rw e
nothing_flat text (inr n) = number_flat line_feed refl text n

rule_flat : (text : List ℕ) → RuleName text → has line_feed text ≡ false
unfolding has
rule_flat text (inl e) = rw e
rule_flat text (inr e) = rw e

-- A number, a comma and a value of a kind that is never empty: before the comma, and behind it.
module _ (Kind : List ℕ → Type 0) (test : List ℕ → Bool) (tells : (v : List ℕ) → Tells (test v) (Kind v)) (flat : (v : List ℕ) → Kind v → has line_feed v ≡ false) (some : test [] ≡ false) where
  number_and_flat : (text : List ℕ) → NumberAnd Kind text → has line_feed text ≡ false
  unfolding has
  number_and_flat text p =
      rw (p.is, has_append line_feed p.first (comma ∷ p.others), number_flat line_feed refl p.first p.left, flat p.others p.right)

  tells_number_and : (text : List ℕ) → Tells (is_number (before comma text) && test (behind comma text)) (NumberAnd Kind text)
  tells_number_and text = record { when_true = λ e. go (has comma text) refl (and_true_both _ _ e); when_false = λ e p. true≢false (sym (both p) ∙ e) }
    where
      go : (b : Bool) → has comma text ≡ b → (is_number (before comma text) ≡ true) × (test (behind comma text) ≡ true) → NumberAnd Kind text
      go true h n = record { first = before comma text; others = behind comma text; is = split_at comma text h; left = n.0; right = (tells (behind comma text)).when_true n.1 }
      go false h n = absurd (true≢false (sym (rw (behind_none comma text h) at n.1) ∙ some))

      both : NumberAnd Kind text → (is_number (before comma text) && test (behind comma text)) ≡ true
      both p =
          let none = number_flat comma refl p.first p.left in
          rw (p.is, before_here comma p.first p.others none, behind_here comma p.first p.others none, p.left)
          (tells_holds (test p.others) (tells p.others) p.right)

tells_pair : (text : List ℕ) → Tells (is_pair text) (Pair text)
unfolding is_pair is_number
tells_pair = tells_number_and Number is_number (λ v. tells_true (is_number v)) (number_flat line_feed refl) refl

pub pair_flat : (text : List ℕ) → Pair text → has line_feed text ≡ false
unfolding is_number
pair_flat = number_and_flat Number is_number (λ v. tells_true (is_number v)) (number_flat line_feed refl) refl

tells_triple : (text : List ℕ) → Tells (is_triple text) (Triple text)
unfolding is_triple is_pair is_number before
tells_triple = tells_number_and Pair is_pair tells_pair pair_flat refl

pub triple_flat : (text : List ℕ) → Triple text → has line_feed text ≡ false
unfolding is_pair is_number before
triple_flat = number_and_flat Pair is_pair tells_pair pair_flat refl

-- A text that begins with a key, a value and an LF: its first line.
pub line_read : (key value rest text : List ℕ) → has line_feed key ≡ false → has line_feed value ≡ false → text ≡ key ++ value ++ (line_feed ∷ rest) → line_of text ≡ key ++ value
line_read key value rest text plain f is = ap line_of (is ∙ sym (append_assoc (key ++ value) (line_feed ∷ []) rest)) ∙ line_first key value rest plain f

-- A line of a key and a value, behind so many lines.
module _ (key : List ℕ) (long : 0 < length key) (plain : has line_feed key ≡ false) (Kind : List ℕ → Type 0) (test : List ℕ → Bool) (tells : (v : List ℕ) → Tells (test v) (Kind v))
    (flat : (v : List ℕ) → Kind v → has line_feed v ≡ false) (sheet : List ℕ) (i : ℕ) where
  text : List ℕ
  text = after_lines i sheet

  no_line : has line_feed text ≡ false → starts_with key (line_of text) ≡ false
  unfolding line_of
  no_line h = rw h (sym (short_text key [] long))

  line_is_here : has line_feed text ≡ true → starts_with key (line_of text) ≡ true → text ≡ key ++ value_text key (line_of text) ++ (line_feed ∷ behind line_feed text)
  unfolding line_of
  line_is_here h e =
      let front : line_of text ≡ before line_feed text = rw h in
      split_at line_feed text h ∙ ap (λ t. t ++ (line_feed ∷ behind line_feed text)) (sym front ∙ key_split key (line_of text) e)

  pub tells_stands : Tells (starts_with key (line_after i sheet) && test (value_text key (line_after i sheet))) (Stands key Kind sheet i)
  unfolding text
  tells_stands = record { when_true = λ e. go (has line_feed text) refl (and_true_both _ _ e); when_false = λ e s. true≢false (sym (reads s) ∙ e) }
    where
      go : (b : Bool) → has line_feed text ≡ b → (starts_with key (line_of text) ≡ true) × (test (value_text key (line_of text)) ≡ true) → Stands key Kind sheet i
      go true h both =
          record { value = value_text key (line_of text); rest = behind line_feed text; is = line_is_here h both.0; kind = (tells (value_text key (line_of text))).when_true both.1 }
      go false h both = absurd (true≢false (sym both.0 ∙ no_line h))

      reads : Stands key Kind sheet i → (starts_with key (line_of text) && test (value_text key (line_of text))) ≡ true
      reads s =
          rw (line_read key s.value s.rest text plain (flat s.value s.kind) s.is, key_begins key s.value, key_value key s.value)
          (tells_holds (test s.value) (tells s.value) s.kind)

-- Two tests and a third, as one and two.
and_regrouped : (a b c : Bool) → ((a && b) && c) ≡ (a && (b && c))
and_regrouped true b c = refl
and_regrouped false b c = refl

-- Each line reader's test.
module _ (sheet : List ℕ) (i : ℕ) where
  pub tells_tape : Tells (is_tape_line (line_after i sheet)) (Stands tape_key Name sheet i)
  unfolding is_tape_line has
  tells_tape = tells_stands tape_key (omega arith) refl Name is_name (λ v. tells_true (is_name v)) name_flat sheet i

  pub tells_turn : Tells (is_turn_line (line_after i sheet)) (Stands turn_key NumberOrNothing sheet i)
  unfolding is_turn_line has
  tells_turn =
      tells_stands turn_key (omega arith) refl NumberOrNothing (λ v. is_empty v || is_number v)
      (λ v. tells_either (is_empty v) (is_number v) (tells_empty v) (tells_true (is_number v))) nothing_flat sheet i

  pub tells_rule : Tells (is_rule_line (line_after i sheet)) (Stands rule_key RuleName sheet i)
  unfolding is_rule_line has
  tells_rule =
      tells_stands rule_key (omega arith) refl RuleName (λ v. is_text sweep_text v || is_text least_text v)
      (λ v. tells_either (is_text sweep_text v) (is_text least_text v) (tells_text sweep_text v) (tells_text least_text v)) rule_flat sheet i

  module _ (key : List ℕ) (long : 0 < length key) (plain : has line_feed key ≡ false) where
    pub tells_number : Tells (is_number_line key (line_after i sheet)) (Stands key Number sheet i)
    unfolding is_number_line
    tells_number = tells_stands key long plain Number is_number (λ v. tells_true (is_number v)) (number_flat line_feed refl) sheet i

    pub tells_count : (most : ℕ) → Tells (is_count_line key most (line_after i sheet)) (Stands key (UpTo most) sheet i)
    unfolding is_count_line is_number_line
    tells_count most =
        let line = line_after i sheet in
        rw (and_regrouped (starts_with key line) (is_number (value_text key line)) (leb (value_of (value_text key line)) most))
        (tells_stands key long plain (UpTo most) (λ v. is_number v && leb (value_of v) most)
        (λ v. tells_both (is_number v) (leb (value_of v) most) (tells_true (is_number v)) (tells_at_most (value_of v) most))
        (λ v h. number_flat line_feed refl v h.0) sheet i)

    pub tells_pair_line : Tells (is_pair_line key (line_after i sheet)) (Stands key Pair sheet i)
    unfolding is_pair_line
    tells_pair_line = tells_stands key long plain Pair is_pair tells_pair pair_flat sheet i

    pub tells_triple_line : Tells (is_triple_line key (line_after i sheet)) (Stands key Triple sheet i)
    unfolding is_triple_line
    tells_triple_line = tells_stands key long plain Triple is_triple tells_triple triple_flat sheet i

  pub tells_end : Tells (is_empty (after_lines i sheet)) (after_lines i sheet ≡ [])
  tells_end = tells_empty (after_lines i sheet)

-- The fourth line names the retired rule; and where it is a rule's line and does not, it names the least.
module _ (sheet : List ℕ) where
  pub tells_sweep : Tells (names_sweep (line_after 3 sheet)) (Ruled sweep_text sheet)
  unfolding names_sweep has
  tells_sweep =
      tells_stands rule_key (omega arith) refl (λ text. text ≡ sweep_text) (is_text sweep_text) (tells_text sweep_text)
      (λ text e. rule_flat text (inl e)) sheet 3

  pub names_least : is_rule_line (line_after 3 sheet) ≡ true → names_sweep (line_after 3 sheet) ≡ false → Ruled least_text sheet
  names_least line other =
      let s = (tells_rule sheet 3).when_true line in
      ⊎_elim (λ e. absurd (tells_sweep.when_false other (record { value = s.value; rest = s.rest; is = s.is; kind = e })))
      (λ e. record { value = s.value; rest = s.rest; is = s.is; kind = e }) s.kind
