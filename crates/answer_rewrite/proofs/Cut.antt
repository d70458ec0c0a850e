-- Where the price of a readable sheet stands, and how the sheet is cut there.
use Prim.Native.Nat.{ℕ, zero, suc, ◌+◌, ◌-◌, ◌≤◌, ◌<◌}
use Prim.Native.Char.{code}
use mathlib.Core.Path.{◌≡◌, refl, sym, ap, ◌∙◌, subst}
use mathlib.Core.Bool.{Bool, true, false, ◌||◌, true≢false}
use mathlib.Core.List.{List, [], ◌∷◌, ◌++◌}
use native.Mathlib.Omega.{arith}
use native.Mathlib.Decide.{dec_lt}
use Rattle.std.specs.Prelude.{Option, Some, None}
use Rattle.std.specs.Bool.{then_some}
use lib.ListN.{length, get_or, take, drop, length-append, length-drop, get_or-append}
use lib.Seq.{drop-drop, get_or-drop, get_or_at, take_all}
use lib.Dec.{eqb}
use borrow.Author.Tests.{eq-eqb, ne_eqb, eqb-true, eqb-false}
use Rattle.text_bytes.specs.Text.{bytes, line_feed, has, behind}
use Rattle.text_bytes.specs.Found.{FoundIn, FirstAt}
use Rattle.text_bytes.proofs.Bytes.{begun_long}
use Rattle.text_bytes.proofs.Split.{has_here}
use Rattle.text_lines.specs.Lines.{after_lines, line_after}
use Rattle.sheet_reader.specs.Lines.{turn_key}
use Rattle.sheet_reader.proofs.Good.{tape_begun, head_begun, turn_begun, line_split, line_flat}
use Rattle.answer_rewrite.specs.Rewriting.{price_is_empty, bytes_before, zero_at, rewritten}
use Rattle.answer_rewrite.specs.Private.{Readable, LineAt, PriceFound}

-- A byte that a text has not stands at none of its places.
none_at : (c : ℕ) (text : List ℕ) (i : ℕ) → has c text ≡ false → i < length text → get_or text i 0 ≡ c → ⊥
unfolding has
none_at c [] i e l is = omega arith
none_at c (b ∷ text) zero e l is = true≢false (sym (rw (eq-eqb b c is)) ∙ e)
none_at c (b ∷ text) (suc i) e l is = none_at c text i (rest (eqb b c) e) (omega arith) is
  where
    rest : (t : Bool) → (t || has c text) ≡ false → has c text ≡ false
    rest true h = absurd (true≢false h)
    rest false h = h

-- The lines of a readable sheet, one behind the other.
module _ (sheet : List ℕ) (good : Readable sheet) where
  pub tape_split : sheet ≡ line_after 0 sheet ++ (line_feed ∷ after_lines 1 sheet)
  unfolding after_lines
  tape_split = line_split (code "t") (bytes "ape=") sheet (tape_begun sheet good)

  pub head_split : after_lines 1 sheet ≡ line_after 1 sheet ++ (line_feed ∷ after_lines 2 sheet)
  unfolding after_lines
  head_split = line_split (code "h") (bytes "ead=") (after_lines 1 sheet) (head_begun sheet good)

  pub turn_split : after_lines 2 sheet ≡ line_after 2 sheet ++ (line_feed ∷ after_lines 3 sheet)
  unfolding after_lines
  turn_split = line_split (code "t") (bytes "urn=") (after_lines 2 sheet) (turn_begun sheet good)

  tape_ends : has line_feed sheet ≡ true
  tape_ends = ap (has line_feed) tape_split ∙ has_here line_feed (line_after 0 sheet) (after_lines 1 sheet)

  head_ends : has line_feed (behind line_feed sheet) ≡ true
  unfolding after_lines
  head_ends = ap (has line_feed) head_split ∙ has_here line_feed (line_after 1 sheet) (after_lines 2 sheet)

  pub tape_flat : has line_feed (line_after 0 sheet) ≡ false
  unfolding after_lines
  tape_flat = line_flat (code "t") (bytes "ape=") sheet (tape_begun sheet good)

  pub head_flat : has line_feed (line_after 1 sheet) ≡ false
  head_flat = line_flat (code "h") (bytes "ead=") (after_lines 1 sheet) (head_begun sheet good)

  pub turn_flat : has line_feed (line_after 2 sheet) ≡ false
  turn_flat = line_flat (code "t") (bytes "urn=") (after_lines 2 sheet) (turn_begun sheet good)

  turn_long : 5 ≤ length (line_after 2 sheet)
  turn_long = begun_long turn_key (line_after 2 sheet) (turn_begun sheet good)

  -- Two searches for LF find where the third line starts.
  module _ (r : Option ℕ) (found : FoundIn line_feed sheet r) where
    pub first_found : r ≡ None → ⊥
    first_found e = true≢false (sym tape_ends ∙ subst (λ x. FoundIn line_feed sheet x) e found)

    module _ (i : ℕ) (e : r ≡ Some i) where
      first_at : FirstAt line_feed sheet i
      first_at = subst (λ x. FoundIn line_feed sheet x) e found

      pub first_within : i + 1 ≤ length sheet
      first_within = omega (arith, first_at.within)

      first_rest : drop (i + 1) sheet ≡ behind line_feed sheet
      first_rest = sym first_at.back

      part_is : take (length sheet - (i + 1)) (drop (i + 1) sheet) ≡ drop (i + 1) sheet
      part_is = take_all (length sheet - (i + 1)) (drop (i + 1) sheet) (omega (arith, length-drop (i + 1) sheet))

      module _ (q : Option ℕ) (searched : FoundIn line_feed (take (length sheet - (i + 1)) (drop (i + 1) sheet)) q) where
        again : FoundIn line_feed (drop (i + 1) sheet) q
        again = subst (λ t. FoundIn line_feed t q) part_is searched

        pub second_found : q ≡ None → ⊥
        second_found f = true≢false (sym head_ends ∙ ap (has line_feed) (sym first_rest) ∙ subst (λ x. FoundIn line_feed (drop (i + 1) sheet) x) f again)

        module _ (j : ℕ) (f : q ≡ Some j) where
          second_at : FirstAt line_feed (drop (i + 1) sheet) j
          second_at = subst (λ x. FoundIn line_feed (drop (i + 1) sheet) x) f again

          pub second_within : i + 1 + j + 1 ≤ length sheet
          second_within = omega (arith, second_at.within, length-drop (i + 1) sheet)

          pub third_at : LineAt sheet (i + 1 + j + 1)
          unfolding after_lines
          third_at =
              let joined : i + 1 + j + 1 ≡ i + 1 + (j + 1) = omega arith in
              record {
                within = second_within;
                rest =
                    ap (λ n. drop n sheet) joined
                    ∙ sym (drop-drop (j + 1) (i + 1) sheet)
                    ∙ sym second_at.back
                    ∙ ap (behind line_feed) first_rest;
              }

  -- What stands behind the key of the third line.
  module _ (at : ℕ) (line : LineAt sheet at) where
    rest_long : length (after_lines 2 sheet) ≡ length (line_after 2 sheet) + suc (length (after_lines 3 sheet))
    rest_long = ap length turn_split ∙ length-append (line_after 2 sheet) (line_feed ∷ after_lines 3 sheet)

    at_long : length sheet - at ≡ length (after_lines 2 sheet)
    at_long = sym (length-drop at sheet) ∙ ap length line.rest

    pub price_within : at + 5 < length sheet
    price_within = omega (arith, at_long, rest_long, turn_long, line.within)

    bytes_before_here : bytes_before sheet ≡ at + 5
    unfolding bytes_before
    bytes_before_here = omega (arith, at_long, line.within)

    price_byte : get_or sheet (at + 5) 0 ≡ get_or (line_after 2 sheet ++ (line_feed ∷ after_lines 3 sheet)) 5 0
    price_byte = sym (get_or-drop at sheet 5 0) ∙ ap (λ t. get_or t 5 0) (line.rest ∙ turn_split)

    -- An LF there says that the key is the whole line.
    line_whole_here : get_or sheet (at + 5) 0 ≡ line_feed → length (line_after 2 sheet) ≡ 5
    line_whole_here e =
        elim (dec_lt 5 (length (line_after 2 sheet))) [
          | yes l ↦ absurd (none_at line_feed (line_after 2 sheet) 5 turn_flat l (sym (get_or-append (line_after 2 sheet) (line_feed ∷ after_lines 3 sheet) 0 5 l) ∙ sym price_byte ∙ e))
          | no n ↦ omega (arith, turn_long)
        ]

    line_more : (get_or sheet (at + 5) 0 ≡ line_feed → ⊥) → 5 < length (line_after 2 sheet)
    line_more n =
        elim (dec_lt 5 (length (line_after 2 sheet))) [
          | yes l ↦ l
          | no m ↦ absurd (n (price_byte ∙ get_or_at (line_after 2 sheet) line_feed (after_lines 3 sheet) 0 5 (omega (arith, turn_long))))
        ]

    price_empty : get_or sheet (at + 5) 0 ≡ line_feed → PriceFound sheet (Some (at + 5))
    unfolding rewritten price_is_empty
    price_empty e =
        let whole : eqb 5 (length (line_after 2 sheet)) ≡ true = eq-eqb 5 (length (line_after 2 sheet)) (sym (line_whole_here e)) in
        let is : rewritten sheet ≡ zero_at (at + 5) sheet = rw (whole, turn_begun sheet good, bytes_before_here) in
        record { within = omega (arith, price_within); result = sym is }

    price_given : (get_or sheet (at + 5) 0 ≡ line_feed → ⊥) → PriceFound sheet None
    unfolding rewritten price_is_empty
    price_given n =
        let more : eqb 5 (length (line_after 2 sheet)) ≡ false = ne_eqb 5 (length (line_after 2 sheet)) (λ e. omega (arith, e, line_more n)) in
        let is : rewritten sheet ≡ sheet = rw more in
        record { within = tt; result = sym is }

    pub price_found : PriceFound sheet (then_some (eqb (get_or sheet (at + 5) 0) line_feed) (at + 5))
    price_found = go (eqb (get_or sheet (at + 5) 0) line_feed) refl
      where
        go : (b : Bool) → eqb (get_or sheet (at + 5) 0) line_feed ≡ b → PriceFound sheet (then_some b (at + 5))
        go true e = price_empty (eqb-true (get_or sheet (at + 5) 0) line_feed e)
        go false e = price_given (eqb-false (get_or sheet (at + 5) 0) line_feed e)
