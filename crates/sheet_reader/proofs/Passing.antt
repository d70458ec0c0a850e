-- The sheet's own lines: what the reader of each has found, from what stands behind its key.
use Prim.Native.Nat.{ℕ, ◌+◌, ◌-◌, ◌≤◌, ◌<◌}
use mathlib.Core.Path.{◌≡◌, refl, ap, sym, ◌∙◌, subst}
use mathlib.Core.Bool.{Bool, true, false, ◌&&◌, and-false, or-true, true≢false}
use mathlib.Core.List.{List}
use native.Mathlib.Omega.{arith}
use lib.ListN.{length, take, drop, length-drop}
use lib.Seq.{length-take-le}
use borrow.Author.Tests.{le-leb, lt-leb}
use Rattle.sheet_reader.specs.declared.NameLine.{NameLine}
use Rattle.sheet_reader.specs.declared.RuleLine.{RuleLine}
use Rattle.text_bytes.specs.Text.{line_feed, has, starts_with, is_text, is_name, is_number}
use Rattle.text_bytes.specs.Found.{NumberIs}
use Rattle.std.specs.Prelude.{Option, Some, None}
use Rattle.text_lines.specs.Lines.{line_of, value_text, is_number_line, number_behind}
use Rattle.text_lines.specs.Found.{ValueAt, Passed}
use Rattle.text_lines.proofs.Determined.{place_determined}
use Rattle.text_lines.proofs.Passing.{unkeyed_line, line_passed, some_text, no_text, no_number, number_is}
use Rattle.sheet_reader.specs.Lines.{tape_key, turn_key, rule_key, least_text, sweep_text, is_tape_line, is_count_line, is_turn_line, turn_with, empty_turn, turn_in, is_rule_line, names_sweep}
use Rattle.sheet_reader.specs.Found.{NamePart, NameLineFound, RuleLineFound}

-- `turn=` with a number, or with nothing.
module _ (sheet : List ℕ) (at from end : ℕ) (v : ValueAt turn_key sheet at from end) where
  pub turn_line_empty : from ≡ end → Passed is_turn_line sheet at (end + 1) × (empty_turn ≡ turn_in (line_of (drop at sheet)))
  unfolding is_turn_line turn_with
  turn_line_empty d = let none = no_text turn_key sheet at from end v d in (line_passed turn_key sheet at from end v is_turn_line (rw (v.begun, none)), rw none)

  module _ (some : from ≡ end → ⊥) where
    pub turn_line_bad : is_number (take (end - from) (drop from sheet)) ≡ false → is_turn_line (line_of (drop at sheet)) ≡ false
    unfolding is_turn_line
    turn_line_bad none = rw (no_number turn_key sheet at from end v none, some_text turn_key sheet at from end v some, and-false)

    pub turn_line_good : (n : ℕ) → NumberIs (take (end - from) (drop from sheet)) n → Passed is_turn_line sheet at (end + 1) × (n ≡ turn_in (line_of (drop at sheet)))
    unfolding is_turn_line turn_with
    turn_line_good n read =
        let is = number_is turn_key sheet at from end v n read in
        let text = some_text turn_key sheet at from end v some in
        (line_passed turn_key sheet at from end v is_turn_line (rw (v.begun, text, is.good)), rw text is.value)

-- `rule=` with one of the two rules: s and l say whether it is the retired one or the least rule.
module _ (sheet : List ℕ) (at from end : ℕ) (v : ValueAt rule_key sheet at from end)
    (s : Bool) (sweeps : s ≡ is_text sweep_text (take (end - from) (drop from sheet))) where
  rule_begun : starts_with rule_key (line_of (drop at sheet)) ≡ true
  rule_begun = v.begun

  sweep_is : is_text sweep_text (value_text rule_key (line_of (drop at sheet))) ≡ s
  sweep_is = ap (is_text sweep_text) (sym v.value) ∙ sym sweeps

  sweep_named : s ≡ names_sweep (line_of (drop at sheet))
  unfolding names_sweep
  sweep_named = sym (rw rule_begun sweep_is)

  pub rule_line_sweep : s ≡ true → Passed is_rule_line sheet at (end + 1) × (s ≡ names_sweep (line_of (drop at sheet)))
  unfolding is_rule_line
  rule_line_sweep f = (line_passed rule_key sheet at from end v is_rule_line (rw (sweep_is ∙ f, rule_begun)), sweep_named)

  module _ (l : Bool) (leasts : l ≡ is_text least_text (take (end - from) (drop from sheet))) where
    least_is_here : is_text least_text (value_text rule_key (line_of (drop at sheet))) ≡ l
    least_is_here = ap (is_text least_text) (sym v.value) ∙ sym leasts

    pub rule_line_least : l ≡ true → Passed is_rule_line sheet at (end + 1) × (s ≡ names_sweep (line_of (drop at sheet)))
    unfolding is_rule_line
    rule_line_least g = (line_passed rule_key sheet at from end v is_rule_line (rw (least_is_here ∙ g, rule_begun, or-true)), sweep_named)

    pub rule_line_bad : s ≡ false → l ≡ false → is_rule_line (line_of (drop at sheet)) ≡ false
    unfolding is_rule_line
    rule_line_bad f g = rw (sweep_is ∙ f, least_is_here ∙ g, and-false)

-- A line without its key is not as described.
pub unkeyed_turn : (text : List ℕ) → (has line_feed text && starts_with turn_key (line_of text)) ≡ false → is_turn_line (line_of text) ≡ false
unfolding is_turn_line
unkeyed_turn text none = rw (unkeyed_line turn_key text none (omega arith))

pub unkeyed_rule : (text : List ℕ) → (has line_feed text && starts_with rule_key (line_of text)) ≡ false → is_rule_line (line_of text) ≡ false
unfolding is_rule_line
unkeyed_rule text none = rw (unkeyed_line rule_key text none (omega arith))

-- A number of lines to follow.
module _ (key : List ℕ) (most : ℕ) (sheet : List ℕ) (at : ℕ) where
  pub count_line_bad : is_number_line key (line_of (drop at sheet)) ≡ false → is_count_line key most (line_of (drop at sheet)) ≡ false
  unfolding is_count_line
  count_line_bad none = rw none

  module _ (n next : ℕ) (p : Passed (is_number_line key) sheet at next × (n ≡ number_behind key (line_of (drop at sheet)))) where
    pub count_line_good : n ≤ most → Passed (is_count_line key most) sheet at next × (n ≡ number_behind key (line_of (drop at sheet)))
    unfolding is_count_line
    count_line_good l = (record { good = rw (p.0.good, ← p.1, le-leb n most l); within = p.0.within; rest = p.0.rest }, p.1)

    pub count_line_over : most < n → is_count_line key most (line_of (drop at sheet)) ≡ false
    unfolding is_count_line
    count_line_over l = rw (← p.1, lt-leb n most l, and-false)

-- The first line and its name.
module _ (sheet : List ℕ) where
  pub tape_line_unkeyed : (has line_feed sheet && starts_with tape_key (line_of sheet)) ≡ false → is_tape_line (line_of sheet) ≡ false
  unfolding is_tape_line
  tape_line_unkeyed none = rw (unkeyed_line tape_key sheet none (omega arith))

  module _ (from end : ℕ) (v : ValueAt tape_key sheet 0 from end) (t : Bool) (named : t ≡ is_name (take (end - from) (drop from sheet))) where
    name_is : is_name (value_text tape_key (line_of sheet)) ≡ t
    name_is = ap is_name (sym v.value) ∙ sym named

    pub tape_line_bad : t ≡ false → is_tape_line (line_of sheet) ≡ false
    unfolding is_tape_line
    tape_line_bad f = rw (name_is, f, and-false)

    pub tape_line_good : t ≡ true → Passed is_tape_line sheet 0 (end + 1) × NamePart sheet end
    unfolding is_tape_line
    tape_line_good f =
        let five : from ≡ length tape_key = v.start ∙ omega arith in
        let order = v.ordered in
        let within = v.within in (
          record { good = rw (name_is ∙ f, v.begun); within = omega arith; rest = v.rest },
          record { ordered = omega arith; within = omega arith; name = subst (λ n. take (end - n) (drop n sheet) ≡ value_text tape_key (line_of sheet)) five v.value },
        )

-- The answers for the first line and for the rule's are determined.
name_size_lem : (sheet : List ℕ) (end : ℕ) → NamePart sheet end → length (take (end - length tape_key) (drop (length tape_key) sheet)) ≡ end - length tape_key
name_size_lem sheet end p = length-take-le (end - length tape_key) (drop (length tape_key) sheet) (rw (length-drop (length tape_key) sheet) (omega (arith, p.within)))

name_same : (sheet : List ℕ) (end last : ℕ) → NamePart sheet end → NamePart sheet last → end ≡ last
name_same sheet end last p q =
    omega (arith, p.ordered, q.ordered, sym (name_size_lem sheet end p) ∙ ap length (p.name ∙ sym q.name) ∙ name_size_lem sheet last q)

next_same : (test : List ℕ → Bool) (sheet : List ℕ) (at m n : ℕ) → Passed test sheet at m → Passed test sheet at n → m ≡ n
next_same test sheet at m n p q = place_determined sheet m n p.within q.within (p.rest ∙ sym q.rest)

pub name_line_determined : (sheet : List ℕ) (r s : Option NameLine) → NameLineFound sheet r → NameLineFound sheet s → r ≡ s
name_line_determined sheet (Some l) (Some m) p q =
    let end : l.end ≡ m.end = name_same sheet l.end m.end p.1 q.1 in
    let next : l.next ≡ m.next = next_same is_tape_line sheet 0 l.next m.next p.0 q.0 in
    rw (end, next)
name_line_determined sheet (Some l) None p q = absurd (true≢false (sym p.0.good ∙ q))
name_line_determined sheet None (Some m) p q = absurd (true≢false (sym q.0.good ∙ p))
name_line_determined sheet None None p q = refl

pub rule_line_determined : (sheet : List ℕ) (at : ℕ) (r s : Option RuleLine) → RuleLineFound sheet at r → RuleLineFound sheet at s → r ≡ s
rule_line_determined sheet at (Some l) (Some m) p q =
    let sweep : l.sweep ≡ m.sweep = p.1 ∙ sym q.1 in
    let next : l.next ≡ m.next = next_same is_rule_line sheet at l.next m.next p.0 q.0 in
    rw (sweep, next)
rule_line_determined sheet at (Some l) None p q = absurd (true≢false (sym p.0.good ∙ q))
rule_line_determined sheet at None (Some m) p q = absurd (true≢false (sym q.0.good ∙ p))
rule_line_determined sheet at None None p q = refl
