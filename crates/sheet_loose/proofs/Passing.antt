-- Single lines of a loose sheet: what their readers answered, where the next one starts, and lines of one kind as many as come.
use Prim.Native.Nat.{ℕ, zero, suc, ◌+◌, ◌-◌, ◌*◌, ◌≤◌, ◌<◌}
use mathlib.Core.Path.{◌≡◌, refl, ap, sym, ◌∙◌}
use mathlib.Core.Bool.{Bool, true, false, not}
use mathlib.Core.List.{List, [], ◌∷◌}
use native.Mathlib.Omega.{arith}
use lib.ListN.{length, drop, length-append, length-drop}
use lib.Dec.{eqb}
use borrow.Author.Tests.{eq-eqb, ne_eqb, eqb-true, eqb-false, not-false}
use Rattle.refusals.specs.Refusals.{first_where}
use Rattle.runs.proofs.Search.{first_before, first_all, first_zero}
use Rattle.text_bytes.specs.Text.{line_feed, behind, is_empty, starts_with}
use Rattle.text_bytes.proofs.Bytes.{and_true_both, begun_long}
use Rattle.text_lines.specs.Lines.{line_of, after_lines, line_after, value_text, is_pair, is_pair_line, first_bad_of, lines_before}
use Rattle.text_lines.specs.Found.{Passed, LinesPassed, LineBad}
use Rattle.sheet_reader.specs.Lines.{turn_key, want_key, is_turn_line}
use Rattle.sheet_reader.proofs.Good.{line_split}
use Rattle.sheet_loose.specs.Private.{BlockFound}

-- A line that begins with a key and what stands behind it.
pub line_long : (k : ℕ) (key text : List ℕ) → starts_with (k ∷ key) (line_of text) ≡ true
    → (length text ≡ length (line_of text) + 1 + length (behind line_feed text)) × (suc (length key) ≤ length (line_of text))
line_long k key text begun =
    let split = ap length (line_split k key text begun) ∙ length-append (line_of text) (line_feed ∷ behind line_feed text) in
    (omega arith, begun_long (k ∷ key) (line_of text) begun)

pub passed_long : (k : ℕ) (key : List ℕ) (test : List ℕ → Bool) (sheet : List ℕ) (at next : ℕ) → at ≤ length sheet → Passed test sheet at next
    → starts_with (k ∷ key) (line_of (drop at sheet)) ≡ true → next ≡ at + length (line_of (drop at sheet)) + 1
passed_long k key test sheet at next within p begun =
    let long = (line_long k key (drop at sheet) begun).0 in
    omega (arith, length-drop at sheet, ap length p.rest, length-drop next sheet, p.within)

-- Nothing stands behind a key when the line is as long as the key.
empty_long : (text : List ℕ) → is_empty text ≡ eqb (length text) 0
empty_long [] = refl
empty_long (b ∷ text) = sym (ne_eqb (suc (length text)) 0 (λ e. omega (arith, e)))

eqb_same : (a b c d : ℕ) → (a ≡ b → c ≡ d) → (c ≡ d → a ≡ b) → eqb a b ≡ eqb c d
eqb_same a b c d forth back = go (eqb a b) refl
  where
    go : (t : Bool) → eqb a b ≡ t → eqb a b ≡ eqb c d
    go true e = e ∙ sym (eq-eqb c d (forth (eqb-true a b e)))
    go false e = e ∙ sym (ne_eqb c d (λ f. eqb-false a b e (back f)))

turn_begun : (line : List ℕ) → is_turn_line line ≡ true → starts_with turn_key line ≡ true
unfolding is_turn_line
turn_begun line good = (and_true_both (starts_with turn_key line) _ good).0

module _ (sheet : List ℕ) (at next : ℕ) (within : at ≤ length sheet) (p : Passed is_turn_line sheet at next) where
  abbrev turnLine : List ℕ
  turnLine = line_of (drop at sheet)

  turn_ends : next ≡ at + length turnLine + 1
  turn_ends = passed_long 116 (drop 1 turn_key) is_turn_line sheet at next within p (turn_begun turnLine p.good)

  pub turn_after : at ≤ next
  turn_after = omega (arith, turn_ends)

  pub price_empty : eqb (next - at) 6 ≡ is_empty (value_text turn_key turnLine)
  price_empty =
      let long = begun_long turn_key turnLine (turn_begun turnLine p.good) in
      let size = length-drop (length turn_key) turnLine in
      eqb_same (next - at) 6 (length (value_text turn_key turnLine)) 0 (λ e. omega (arith, turn_ends, e)) (λ e. omega (arith, turn_ends, e))
      ∙ sym (empty_long (value_text turn_key turnLine))

-- Lines of one kind, as many as come.
before_line : (most line : ℕ) → 0 < line → line - 1 ≡ lines_before most line
before_line most zero l = absurd (omega arith)
before_line most (suc line) l = omega arith

module _ (test : List ℕ → Bool) (most : ℕ) (sheet : List ℕ) (at : ℕ) where
  pub block_full : (next : ℕ) → LinesPassed test sheet at most next → BlockFound test most sheet at (record { count = most; next = next })
  block_full next p =
      record { many = rw p.none; few = omega arith; none = p.none; next = record { within = p.within; rest = p.rest } }

  module _ (line : ℕ) (b : LineBad test sheet at most line) where
    pub block_part : (next : ℕ) → LinesPassed test sheet at (line - 1) next → BlockFound test most sheet at (record { count = line - 1; next = next })
    block_part next p =
        record {
          many = before_line most line b.some ∙ ap (lines_before most) (sym b.first);
          few = omega (arith, b.most);
          none = p.none;
          next = record { within = p.within; rest = p.rest };
        }

    pub block_never : (other : ℕ) → LineBad test sheet at (line - 1) other → ⊥
    unfolding first_bad_of
    block_never other p =
        let bad : ℕ → Bool = λ i. not (test (line_after i (drop at sheet))) in
        let found : first_where bad most ≡ suc (line - 1) = b.first ∙ omega (arith, b.some) in
        let none : first_where bad (line - 1) ≡ 0 = first_all bad (line - 1) (first_before bad most (line - 1) found) in
        omega (arith, none, p.first, p.some)

-- A want line takes six bytes at least, so that so many lines take six times as many.
want_begun : (line : List ℕ) → is_pair_line want_key line ≡ true → starts_with want_key line ≡ true
unfolding is_pair_line
want_begun line good = (and_true_both (starts_with want_key line) (is_pair (value_text want_key line)) good).0

pub wants_long : (text : List ℕ) (n : ℕ) → first_bad_of (is_pair_line want_key) n text ≡ 0 → n * 6 + length (after_lines n text) ≤ length text
unfolding first_bad_of after_lines
wants_long text n none = go n (omega arith)
  where
    bad : ℕ → Bool
    bad i = not (is_pair_line want_key (line_after i text))

    step : (i : ℕ) → i < n → length (behind line_feed (after_lines i text)) + 6 ≤ length (after_lines i text)
    step i l =
        let good : is_pair_line want_key (line_after i text) ≡ true = not-false (is_pair_line want_key (line_after i text)) (first_zero bad n none i l) in
        let long = line_long 119 (drop 1 want_key) (after_lines i text) (want_begun (line_after i text) good) in
        omega arith

    go : (i : ℕ) → i ≤ n → i * 6 + length (after_lines i text) ≤ length text
    go zero l = omega arith
    go (suc i) l = omega (arith, go i (omega arith), step i (omega arith))
