-- The lines of a loose sheet in turn: what each reader's answer says of the first line that is not as described.
use Prim.Native.Nat.{ℕ, zero, suc, ◌+◌, ◌-◌, ◌≤◌, ◌<◌}
use mathlib.Core.Path.{◌≡◌, refl, ap, sym, ◌∙◌}
use mathlib.Core.Bool.{Bool, true, false}
use mathlib.Core.List.{List, [], ◌∷◌}
use native.Mathlib.Omega.{arith}
use lib.ListN.{length, drop, drop_of_length-le}
use lib.Seq.{drop-cons}
use lib.Dec.{eqb}
use Rattle.text_bytes.specs.Text.{line_feed, behind, is_empty}
use Rattle.text_lines.specs.Lines.{line_of, after_lines, line_after, is_number_line, number_behind, is_pair_line, is_triple_line}
use Rattle.text_lines.specs.Found.{Passed}
use Rattle.sheet_reader.specs.Lines.{head_key, files_key, file_key, wants_key, want_key, is_tape_line, is_turn_line, turn_in, is_rule_line, names_sweep}
use Rattle.sheet_reader.specs.Sheet.{longest_sheet, most_sheet_files, sheet_turn_with, says_sweep, sheet_files, file_text, first_some}
use Rattle.sheet_loose.specs.declared.Block.{Block}
use Rattle.sheet_loose.specs.Loose.{loose_files, loose_wants_text, loose_want_text, loose_wants, loose_end, wants_said, price_left_out, first_bad_loose_top, first_bad_loose_below}
use Rattle.sheet_loose.specs.Private.{Stands, TopIs, TopBad, BlockFound, WantsAt, BelowIs, BelowBad}
use Rattle.sheet_loose.proofs.Passing.{price_empty, turn_after}

-- So many lines passed, and one more.
module _ (sheet : List ℕ) (lines at : ℕ) (here : Stands sheet (after_lines lines sheet) at) (test : List ℕ → Bool) where
  one_more : (next : ℕ) → Passed test sheet at next → Stands sheet (after_lines (suc lines) sheet) next
  unfolding after_lines
  one_more next p = record { within = p.within; rest = p.rest ∙ ap (behind line_feed) here.rest }

  passes : (next : ℕ) → Passed test sheet at next → test (line_after lines sheet) ≡ true
  passes next p = rw (← here.rest) p.good

  fails : test (line_of (drop at sheet)) ≡ false → test (line_after lines sheet) ≡ false
  fails e = rw (← here.rest) e

-- The first five lines.
pub tape_bad : (sheet : List ℕ) → is_tape_line (line_of sheet) ≡ false → TopBad sheet 1
unfolding first_bad_loose_top after_lines
tape_bad sheet bad = record { first = rw bad; some = omega arith }

module _ (sheet : List ℕ) (a₁ : ℕ) (p₁ : Passed is_tape_line sheet 0 a₁) where
  test₁ : is_tape_line (line_after 0 sheet) ≡ true
  unfolding after_lines
  test₁ = p₁.good

  at_head : Stands sheet (after_lines 1 sheet) a₁
  unfolding after_lines
  at_head = record { within = p₁.within; rest = p₁.rest }

  pub head_bad : is_number_line head_key (line_of (drop a₁ sheet)) ≡ false → TopBad sheet 2
  unfolding first_bad_loose_top
  head_bad bad = record { first = rw (test₁, fails sheet 1 a₁ at_head (is_number_line head_key) bad); some = omega arith }

  module _ (a₂ : ℕ) (p₂ : Passed (is_number_line head_key) sheet a₁ a₂) where
    test₂ : is_number_line head_key (line_after 1 sheet) ≡ true
    test₂ = passes sheet 1 a₁ at_head (is_number_line head_key) a₂ p₂

    at_turn : Stands sheet (after_lines 2 sheet) a₂
    at_turn = one_more sheet 1 a₁ at_head (is_number_line head_key) a₂ p₂

    pub turn_bad : is_turn_line (line_of (drop a₂ sheet)) ≡ false → TopBad sheet 3
    unfolding first_bad_loose_top
    turn_bad bad = record { first = rw (test₁, test₂, fails sheet 2 a₂ at_turn is_turn_line bad); some = omega arith }

    module _ (turn a₃ : ℕ) (p₃ : Passed is_turn_line sheet a₂ a₃ × (turn ≡ turn_in (line_of (drop a₂ sheet)))) where
      test₃ : is_turn_line (line_after 2 sheet) ≡ true
      test₃ = passes sheet 2 a₂ at_turn is_turn_line a₃ p₃.0

      at_rule_here : Stands sheet (after_lines 3 sheet) a₃
      at_rule_here = one_more sheet 2 a₂ at_turn is_turn_line a₃ p₃.0

      pub rule_after : a₂ ≤ a₃
      rule_after = turn_after sheet a₂ a₃ p₂.within p₃.0

      pub rule_bad : is_rule_line (line_of (drop a₃ sheet)) ≡ false → TopBad sheet 4
      unfolding first_bad_loose_top
      rule_bad bad = record { first = rw (test₁, test₂, test₃, fails sheet 3 a₃ at_rule_here is_rule_line bad); some = omega arith }

      module _ (sweep : Bool) (a₄ : ℕ) (p₄ : Passed is_rule_line sheet a₃ a₄ × (sweep ≡ names_sweep (line_of (drop a₃ sheet)))) where
        test₄ : is_rule_line (line_after 3 sheet) ≡ true
        test₄ = passes sheet 3 a₃ at_rule_here is_rule_line a₄ p₄.0

        at_files_here : Stands sheet (after_lines 4 sheet) a₄
        at_files_here = one_more sheet 3 a₃ at_rule_here is_rule_line a₄ p₄.0

        pub files_bad : is_number_line files_key (line_of (drop a₄ sheet)) ≡ false → TopBad sheet 5
        unfolding first_bad_loose_top
        files_bad bad = record { first = rw (test₁, test₂, test₃, test₄, fails sheet 4 a₄ at_files_here (is_number_line files_key) bad); some = omega arith }

        pub top_good : (said next : ℕ) → Passed (is_number_line files_key) sheet a₄ next × (said ≡ number_behind files_key (line_of (drop a₄ sheet)))
            → TopIs sheet (record { third = a₂; turn = turn; empty = eqb (a₃ - a₂) 6; sweep = sweep; said = said; next = next })
        unfolding first_bad_loose_top sheet_turn_with says_sweep sheet_files file_text price_left_out
        top_good said next p₅ =
            let test₅ = passes sheet 4 a₄ at_files_here (is_number_line files_key) next p₅.0 in
            record {
              none = rw (test₁, test₂, test₃, test₄, test₅);
              start = at_turn;
              turn = p₃.1 ∙ ap (λ t. turn_in (line_of t)) at_turn.rest;
              empty = rw (← at_turn.rest) (price_empty sheet a₂ a₃ p₂.within p₃.0);
              sweep = p₄.1 ∙ ap (λ t. names_sweep (line_of t)) at_rule_here.rest;
              said = p₅.1 ∙ ap (λ t. number_behind files_key (line_of t)) at_files_here.rest;
              next = one_more sheet 4 a₄ at_files_here (is_number_line files_key) next p₅.0;
            }

-- The first number of a row that is not 0.
first_some_lem : (n : ℕ) (ns : List ℕ) → 0 < n → first_some (n ∷ ns) ≡ n
first_some_lem zero ns l = absurd (omega arith)
first_some_lem (suc n) ns l = refl

-- The file lines.
pub wants_at_lem : (sheet : List ℕ) (at : ℕ) (b : Block) → Stands sheet (file_text sheet) at → BlockFound (is_triple_line file_key) most_sheet_files sheet at b → WantsAt sheet b.next b.count
unfolding loose_files loose_wants_text
wants_at_lem sheet at b here f =
    let many : b.count ≡ loose_files sheet = rw (← here.rest) f.many in
    record {
      count = many;
      few = f.few;
      here = record { within = f.next.within; rest = f.next.rest ∙ rw (many, here.rest) };
    }

-- The `wants` line and the lines below it.
module _ (sheet : List ℕ) (at files : ℕ) (p : WantsAt sheet at files) where
  pub wants_bad : is_number_line wants_key (line_of (drop at sheet)) ≡ false → BelowBad sheet (files + 6)
  unfolding first_bad_loose_below
  wants_bad bad =
      let line : is_number_line wants_key (line_of (loose_wants_text sheet)) ≡ false = rw (← p.here.rest) bad in
      let l : 0 < files + 6 = omega arith in
      record { first = rw (line, ← p.count, first_some_lem (files + 6)); some = l }

  module _ (said next : ℕ) (q : Passed (is_number_line wants_key) sheet at next × (said ≡ number_behind wants_key (line_of (drop at sheet)))) where
    wants_test : is_number_line wants_key (line_of (loose_wants_text sheet)) ≡ true
    wants_test = rw (← p.here.rest) q.0.good

    want_here : Stands sheet (loose_want_text sheet) next
    unfolding loose_want_text after_lines
    want_here = record { within = q.0.within; rest = q.0.rest ∙ ap (behind line_feed) p.here.rest }

    module _ (b : Block) (f : BlockFound (is_pair_line want_key) longest_sheet sheet next b) where
      wants_many_here : b.count ≡ loose_wants sheet
      unfolding loose_wants
      wants_many_here = rw (← want_here.rest) f.many

      end_is : loose_end sheet ≡ drop b.next sheet
      unfolding loose_end
      end_is = sym (f.next.rest ∙ rw (wants_many_here, want_here.rest))

      pub text_behind : b.next < length sheet → BelowBad sheet (files + b.count + 7)
      unfolding first_bad_loose_below
      text_behind l =
          let more : is_empty (loose_end sheet) ≡ false = rw (end_is, drop-cons sheet b.next 0 l) in
          let s : 0 < files + b.count + 7 = omega arith in
          record { first = rw (wants_test, more, ← p.count, ← wants_many_here) (first_some_lem (files + b.count + 7) [] s); some = s }

      pub below_good : length sheet ≤ b.next → BelowIs sheet said next b.count
      unfolding first_bad_loose_below wants_said
      below_good l =
          let none : is_empty (loose_end sheet) ≡ true = rw (end_is, drop_of_length-le sheet l) in
          record {
            none = rw (wants_test, none);
            says = q.1 ∙ ap (λ t. number_behind wants_key (line_of t)) p.here.rest;
            many = wants_many_here;
            here = want_here;
            good = f.none;
          }
