-- An input of two texts is cut where its first line says: the laws of the cutting, and what the two parts are.
use Prim.Native.Nat.{ℕ, ◌+◌, ◌-◌, ◌≤◌, ◌<◌}
use mathlib.Core.Path.{◌≡◌, sym, ap, ◌∙◌}
use mathlib.Core.Bool.{Bool, true, false}
use mathlib.Core.List.{List, []}
use native.Mathlib.Omega.{arith}
use lib.ListN.{length, take, drop, length-drop}
use lib.Seq.{take_all}
use borrow.Author.Tests.{le-leb, lt-leb}
use Rattle.text_bytes.specs.Text.{line_feed, behind, starts_with, is_number}
use Rattle.text_lines.specs.Lines.{line_of, is_number_line, number_behind}
use Rattle.text_lines.specs.Found.{Passed}
use Rattle.text_inputs.specs.declared.Framed.{Framed}
use Rattle.std.specs.Prelude.{Option, Some, None}
use Rattle.text_inputs.specs.Inputs.{framed, framed_behind, part_in, part_place}

-- A text of so many bytes from a place on.
module _ (from bytes left : ℕ) (cut : Bool) where
  pub whole_sheet : bytes ≤ left → Some (record { from = from; to = from + bytes }) ≡ framed_behind from bytes left cut
  whole_sheet l = rw (le-leb bytes left l)

  pub cut_sheet : left < bytes → cut ≡ true → Some (record { from = from; to = from + left }) ≡ framed_behind from bytes left cut
  cut_sheet l e = rw (lt-leb bytes left l, e)

  pub no_sheet : left < bytes → cut ≡ false → None ≡ framed_behind from bytes left cut
  no_sheet l e = rw (lt-leb bytes left l, e)

-- What the first line of an input says.
module _ (input : List ℕ) where
  abbrev rest : List ℕ
  rest = behind line_feed input

  pub no_count : (cut : Bool) → is_number_line [] (line_of input) ≡ false → None ≡ framed input cut
  unfolding framed is_number_line starts_with
  no_count cut bad = let none : is_number (line_of input) ≡ false = bad in rw none

  module _ (number next : ℕ) (counted : Passed (is_number_line []) input 0 next × (number ≡ number_behind [] (line_of input))) where
    left_is : length input - next ≡ length rest
    left_is = sym (length-drop next input) ∙ ap length counted.0.rest

    pub count_framed : (cut : Bool) (left : ℕ) → left ≡ length input - next → (f : Option Framed) → f ≡ framed_behind next number left cut → f ≡ framed input cut
    unfolding framed is_number_line starts_with
    count_framed cut left l f is =
        let good : is_number (line_of input) ≡ true = counted.0.good in
        let from : next ≡ length input - length rest = omega (arith, left_is, counted.0.within) in
        is ∙ rw (good, ← from, ← left_is, l, counted.1)

-- The bytes between two places.
module _ (text : List ℕ) (from to : ℕ) where
  pub part_there : from ≤ to → to ≤ length text → take (to - from) (drop from text) ≡ part_in text from to
  part_there l m = rw (le-leb from to l, le-leb to (length text) m)

-- And where they lie.
module _ (bytes from to : ℕ) (place : ℕ × ℕ) where
  pub place_there : from ≤ to → to ≤ bytes → (place.0, from + place.1) ≡ part_place bytes from to place
  place_there l m = rw (le-leb from to l, le-leb to bytes m)

-- The first n bytes of a row that has fewer.
pub whole_row : (row : List ℕ) (n : ℕ) → length row < n → row ≡ take n row
whole_row row n l = sym (take_all n row (omega arith))
