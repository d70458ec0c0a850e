-- The lines of a verdict on a page.
use Rattle.std.specs.Cmp.Lexicographic.{pointwise}
use Rattle.std.proofs.lemmas.Bool.Decides.{same_from_decides, Decides-eqb}
use Rattle.std.proofs.lemmas.Slice.Eq.{IsBytesEq, compares_Decides, slice_eq-Decides}
use lib.Dec.{eqb, eqb-suc-zero, eqb-zero-suc, eqb-suc-suc}
use Prim.Native.Nat.{ℕ, ◌+◌, ◌-◌, ◌≤◌}
use mathlib.Core.Path.{◌≡◌, refl, sym, ◌∙◌, subst}
use mathlib.Core.Bool.{Bool, true, false, true≢false, ◌&&◌}
use mathlib.Core.List.{List, [], ◌∷◌, ◌++◌}
use native.Mathlib.Omega.{arith}
use lib.ListN.{length, take, drop, length-take, length-drop}
use Rattle.text_bytes.specs.Text.{line_feed, has, starts_with, is_text}
use Rattle.text_lines.specs.declared.Keyed.{Keyed}
use Rattle.text_lines.specs.Lines.{line_of}
use Rattle.text_lines.specs.Found.{ValueAt, ValueFound}
use Rattle.std.specs.Prelude.{Option, Some, None}
use Rattle.text_pages.specs.Printing.{line, number_line, Wrote, Put}
use Rattle.text_pages.proofs.Pages.{wrote_within, wrote_both, wrote_long}
use Rattle.answer_check.specs.declared.Difference.{Difference}
use Rattle.answer_check.specs.Checking.{formed_yes, walk_yes, walk_no, least_yes, least_no, found_key, expected_key, first_difference, walk_line, difference_lines}
use Rattle.answer_check.specs.Private.{least_line_by, verdict_by, difference_most, PageIs}

-- A line of a text, found behind no key.
module _ (text : List ℕ) (start : ℕ) (r : Option Keyed) (found : ValueFound [] text start r) where
  pub line_none : r ≡ None → [] ≡ line_of (drop start text)
  unfolding line_of starts_with
  line_none e =
      let bad : (has line_feed (drop start text) && true) ≡ false = subst (ValueFound [] text start) e found in
      go (has line_feed (drop start text)) refl bad
    where
      go : (b : Bool) → has line_feed (drop start text) ≡ b → (b && true) ≡ false → [] ≡ line_of (drop start text)
      go true e bad = absurd (true≢false bad)
      go false e bad = rw e

  module _ (value : Keyed) (e : r ≡ Some value) where
    at_value : ValueAt [] text start value.from value.end
    at_value = subst (ValueFound [] text start) e found

    pub line_ordered : value.from ≤ value.end
    line_ordered = at_value.ordered

    pub line_inside : value.end ≤ length text
    line_inside = omega (arith, at_value.within)

    pub line_some : take (value.end - value.from) (drop value.from text) ≡ line_of (drop start text)
    line_some = at_value.value ∙ no_key (line_of (drop start text))
      where
        no_key : (xs : List ℕ) → drop 0 xs ≡ xs
        no_key [] = refl
        no_key (x ∷ xs) = refl

    pub line_short : length (take (value.end - value.from) (drop value.from text)) ≤ length text
    line_short = simp (length-take, length-drop) (omega (arith, line_inside, line_ordered))

-- That line behind a key, on a page with room for the whole text.
pub line_put : (page : List ℕ) (at : ℕ) (key text short whole page' : List ℕ) (next : ℕ) → short ≡ whole → length short ≤ length text → at + (length key + length text + 1) ≤ length page
    → Put page at (line key short) (length key + length short + 1) page' next → Wrote page at (line key whole) (length key + length text + 1) page' next
line_put page at key text short whole page' next e l r p =
    let w = p.room (omega arith) in
    rw (← e) (wrote_within w (length key + length text + 1) (omega arith))

-- One text or another, on a page with room for either.
pub kind_put : (page : List ℕ) (at : ℕ) (text whole : List ℕ) (few most : ℕ) (page' : List ℕ) (next : ℕ) → whole ≡ text → few ≤ most → at + most ≤ length page
    → Put page at text few page' next → Wrote page at whole most page' next
kind_put page at text whole few most page' next e l r p = rw e (wrote_within (p.room (omega arith)) most l)

-- Which line it is.
pub walk_is : (plan expected : List ℕ) (b : Bool) → b ≡ is_text expected plan → b ≡ true → walk_line plan expected ≡ walk_yes
unfolding walk_line
walk_is plan expected b is e = rw (sym is ∙ e)

pub walk_not : (plan expected : List ℕ) (b : Bool) → b ≡ is_text expected plan → b ≡ false → (d : Difference) → d ≡ first_difference plan expected → walk_line plan expected ≡ number_line walk_no d.line
unfolding walk_line
walk_not plan expected b is e d d-is = rw (sym is ∙ e, d-is)

pub no_difference : (plan expected : List ℕ) (b : Bool) → b ≡ is_text expected plan → b ≡ true → difference_lines plan expected ≡ []
unfolding difference_lines
no_difference plan expected b is e = rw (sym is ∙ e)

pub difference_is : (plan expected : List ℕ) (b : Bool) → b ≡ is_text expected plan → b ≡ false → (d : Difference) → d ≡ first_difference plan expected
    → difference_lines plan expected ≡ line found_key (line_of (drop d.start plan)) ++ line expected_key (line_of (drop d.start expected))
unfolding difference_lines
difference_is plan expected b is e d d-is = rw (sym is ∙ e, d-is)

pub least_is : (b : Bool) (by : ℕ) → b ≡ true → least_line_by b by ≡ least_yes
least_is b by e = rw e

-- Two texts one behind the other are a third.
pub both_put : (page : List ℕ) (at : ℕ) (a : List ℕ) (m : ℕ) (page₁ : List ℕ) (next : ℕ) (b : List ℕ) (n : ℕ) (page₂ : List ℕ) (last : ℕ) (whole : List ℕ) → whole ≡ a ++ b
    → Wrote page at a m page₁ next → Wrote page₁ next b n page₂ last → Wrote page at whole (m + n) page₂ last
both_put page at a m page₁ next b n page₂ last whole e w v = rw e (wrote_both w v)

-- The whole verdict.
pub verdict_put : (plan expected : List ℕ) (least : Bool) (by : ℕ) (page₀ : List ℕ) (page₁ : List ℕ) (at₁ : ℕ) (page₂ : List ℕ) (at₂ : ℕ) (page₃ : List ℕ) (at₃ : ℕ) (page₄ : List ℕ) (at₄ : ℕ)
    → 70 + difference_most plan expected ≤ length page₀ → Put page₀ 0 formed_yes (length formed_yes) page₁ at₁ → Wrote page₁ at₁ (walk_line plan expected) 29 page₂ at₂ → Wrote page₂ at₂ (least_line_by least by) 30 page₃ at₃
    → Wrote page₃ at₃ (difference_lines plan expected) (difference_most plan expected) page₄ at₄ → Wrote page₀ 0 (verdict_by plan expected least by) (70 + difference_most plan expected) page₄ at₄
verdict_put plan expected least by page₀ page₁ at₁ page₂ at₂ page₃ at₃ page₄ at₄ r p w v u =
    wrote_within (wrote_both (wrote_both (wrote_both (p.room (omega arith)) w) v) u) (70 + difference_most plan expected) (omega arith)

-- Room that is left behind a text.
pub room_left_lem : (page : List ℕ) (at : ℕ) (text : List ℕ) (most : ℕ) (page' : List ℕ) (next : ℕ) (more : ℕ) → at + (most + more) ≤ length page → Wrote page at text most page' next → next + more ≤ length page'
room_left_lem page at text most page' next more r w = omega (arith, w.within, wrote_long w (omega arith))

-- A text that was put on a page, by value.
pub page_put : (page text : List ℕ) (most : ℕ) (page' : List ℕ) (n : ℕ) → most ≤ length page → Wrote page 0 text most page' n → PageIs text page' n
page_put page text most page' n l w = record { within = omega (arith, w.within, wrote_long w (omega arith)); says = w.bytes }

-- Whether two rows are the same, and two others.
swapped : (a b d : Bool) → (a && (b && d)) ≡ (b && (a && d))
swapped true b d = refl
swapped false true d = refl
swapped false false d = refl

compared : IsBytesEq is_text
unfolding starts_with
compared =
    record {
      empty = refl;
      shorter = λ y ys. rw (eqb-zero-suc (length ys));
      longer = λ x xs. rw (eqb-suc-zero (length xs));
      heads = λ x y xs ys. rw (eqb-suc-suc (length xs) (length ys)) (swapped (eqb (length xs) (length ys)) (eqb x y) (starts_with xs ys));
    }

pub row_same : (xs ys : List ℕ) (r : Bool) → r ≡ pointwise eqb xs ys → r ≡ is_text xs ys
row_same xs ys r e = same_from_decides r (is_text xs ys) (slice_eq-Decides Decides-eqb xs ys r e) (compares_Decides is_text compared xs ys)

pub rows_same : (b d b' d' : Bool) → b ≡ b' → d ≡ d' → b ≡ true → d ≡ (b' && d')
rows_same b d b' d' e f t = rw (← e, t, f)

pub rows_differ : (b b' d' : Bool) → b ≡ b' → b ≡ false → b ≡ (b' && d')
rows_differ b b' d' e f = rw (← e, f)
