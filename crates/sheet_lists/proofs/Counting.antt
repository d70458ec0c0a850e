-- Lines counted byte by byte, and a row that is left where a text is cut.
use Prim.Native.Nat.{ℕ, suc, ◌+◌, ◌-◌, ◌≤◌, ◌<◌, min}
use mathlib.Core.Path.{◌≡◌, refl, sym, ap, ◌∙◌}
use mathlib.Core.Bool.{Bool, true, false}
use mathlib.Core.List.{List, [], ◌∷◌}
use native.Mathlib.Omega.{arith}
use native.Mathlib.Decide.{dec_lt}
use native.Mathlib.Numerals.{add-one}
use lib.ListN.{length, take, drop, get_or, length-drop, drop_of_length-le}
use lib.Seq.{drop-cons, take-length}
use lib.Dec.{ltb}
use borrow.Author.Tests.{eq-eqb, ne_eqb, lt-ltb, le-ltb, ltb-false}
use Rattle.text_bytes.specs.Text.{line_feed}
use Rattle.sheet_lists.specs.Form.{lines_in, lines_up_to}

-- So many bytes looked at: the lines met, and what is left.
pub record Counted (text : List ℕ) (lines i : ℕ) : Type 0 where
  pub within : i ≤ length text
  pub few : lines ≤ i
  pub whole : lines + lines_in (drop i text) ≡ lines_in text

drop_none : (text : List ℕ) → drop 0 text ≡ text
drop_none [] = refl
drop_none (b ∷ text) = refl

pub counted_none : (text : List ℕ) → Counted text 0 0
counted_none text = record { within = omega arith; few = omega arith; whole = omega (arith, ap lines_in (drop_none text)) }

module _ (text : List ℕ) (lines i : ℕ) (p : Counted text lines i) where
  split : i < length text → drop i text ≡ get_or text i 0 ∷ drop (i + 1) text
  split l = rw add-one (drop-cons text i 0 l)

  pub counted_feed : i < length text → get_or text i 0 ≡ line_feed → Counted text (lines + 1) (i + 1)
  unfolding lines_in
  counted_feed l e =
      let here : lines_in (drop i text) ≡ suc (lines_in (drop (i + 1) text)) = ap lines_in (split l) ∙ rw (eq-eqb (get_or text i 0) line_feed e) in
      record { within = omega arith; few = omega (arith, p.few); whole = omega (arith, p.whole, here) }

  pub counted_other : i < length text → (get_or text i 0 ≡ line_feed → ⊥) → Counted text lines (i + 1)
  unfolding lines_in
  counted_other l n =
      let here : lines_in (drop i text) ≡ lines_in (drop (i + 1) text) = ap lines_in (split l) ∙ rw (ne_eqb (get_or text i 0) line_feed n) in
      record { within = omega arith; few = omega (arith, p.few); whole = omega (arith, p.whole, here) }

  pub counted_all : length text ≤ i → lines ≡ lines_in text
  unfolding lines_in
  counted_all l =
      let none : lines_in (drop i text) ≡ 0 = ap lines_in (drop_of_length-le text l) in
      omega (arith, p.whole, none)

-- A text from a position on, as a part.
pub part_rest : (text : List ℕ) (at : ℕ) → take (length text - at) (drop at text) ≡ drop at text
part_rest text at = ap (λ n. take n (drop at text)) (sym (length-drop at text)) ∙ take-length (drop at text)

-- The limit.
pub up_to_least : (most : ℕ) (text : List ℕ) (n : ℕ) → n ≡ lines_in text → min n most ≡ lines_up_to most text
unfolding lines_up_to
up_to_least most text n e = elim (dec_lt most n) [ yes h ↦ rw (← e, lt-ltb most n h) (omega arith) | no h ↦ rw (← e, le-ltb most n (omega arith)) (omega arith) ]

pub up_to_few : (most : ℕ) (text : List ℕ) → lines_up_to most text ≤ most
unfolding lines_up_to
up_to_few most text = go (ltb most (lines_in text)) refl
  where
    go : (b : Bool) → ltb most (lines_in text) ≡ b → lines_up_to most text ≤ most
    go true e = rw e (omega arith)
    go false e = rw e (omega (arith, ltb-false most (lines_in text) e))

pub up_to_is : (most : ℕ) (text : List ℕ) (n : ℕ) → n ≡ lines_up_to most text → n ≤ most
up_to_is most text n e = omega (arith, up_to_few most text)

pub part_up_to : (most : ℕ) (text : List ℕ) (at n : ℕ) → n ≡ lines_up_to most (take (length text - at) (drop at text)) → n ≡ lines_up_to most (drop at text)
part_up_to most text at n e = e ∙ ap (lines_up_to most) (part_rest text at)
