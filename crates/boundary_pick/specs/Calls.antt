-- The run sheet of the files that a list asks for by path, and their names, for a program in C: the code, the rows that take the two texts, and the texts' lengths in the first two
-- words of a row. 8 comes last, for these three rows together.
use Rattle.std.specs.Prelude.{ℕ, ◌+◌, ◌*◌, min, ◌≡◌, Bool, cond, List, [], ◌∷◌, length, drop, eqb, ltb}
use Rattle.answer_pick.specs.declared.Picked.{Picked}
use Rattle.answer_pick.specs.Answer.{PickAnswered}

-- A place above this is told as this one: no list has so many lines.
abbrev pub place_most : ℕ
place_most = 72057594037927935

abbrev pub pick_code : Picked → ℕ
pick_code p = p.number + 256 * min p.place place_most

-- Without two words for the lengths no row is lent to the texts, so that 8 comes last.
abbrev pub is_short : List ℕ → Bool
is_short sizes = ltb (length sizes) 2

pub record PickCalled (unit : ℕ) (name label index list head turn out names sizes : List ℕ) (code : ℕ) (out' names' sizes' : List ℕ) : Type 0 where
  pub picked : Picked
  pub sheet : List ℕ
  pub named : List ℕ
  pub answered : PickAnswered unit name label index list head turn (cond (is_short sizes) [] out) (cond (is_short sizes) [] names) picked sheet named
  pub says : code ≡ pick_code picked
  pub out_is : out' ≡ cond (is_short sizes) out sheet
  pub names_are : names' ≡ cond (is_short sizes) names named
  pub sizes_are : sizes' ≡ cond (eqb picked.number 0) (picked.bytes ∷ picked.named ∷ drop 2 sizes) sizes
