-- The longest of some times, one turn after another; and a name in its sixteen bytes.
use Prim.Native.Nat.{ℕ, zero, suc, ◌+◌, ◌-◌, ◌≤◌, ◌<◌, min}
use mathlib.Core.Path.{◌≡◌, refl}
use mathlib.Core.List.{List, [], ◌∷◌}
use native.Mathlib.Omega.{arith}
use native.Mathlib.Numerals.{add-one, unary_clauses}
use native.Mathlib.Decide.{dec_lt}
use lib.ListN.{length, get_or, drop, replicate, drop_of_length-le}
use lib.Seq.{drop-cons}
use Rattle.answer_outcome.specs.declared.Longest.{Longest}
use Rattle.answer_outcome.specs.Outcomes.{longer, longest_from}

module _ (files times : List ℕ) (most : Longest) (i : ℕ) where
  pub longest_turn : i < length files → i < length times
      → longest_from most (drop i files) (drop i times) ≡ longest_from (longer most (get_or files i 0) (get_or times i 0)) (drop (i + 1) files) (drop (i + 1) times)
  unfolding longest_from
  longest_turn l m = rw (drop-cons files i 0 l, drop-cons times i 0 m, add-one i)

  none_timed_here : (rest : List ℕ) → longest_from most rest [] ≡ most
  unfolding longest_from
  none_timed_here [] = refl
  none_timed_here (file ∷ rest) = refl

  longest_short : length times ≤ i → longest_from most (drop i files) (drop i times) ≡ most
  longest_short h = rw (drop_of_length-le times h) (none_timed_here (drop i files))

  longest_done : length files ≤ i → longest_from most (drop i files) (drop i times) ≡ most
  unfolding longest_from
  longest_done h = rw (drop_of_length-le files h) refl

  pub longest_end : i ≡ min (length files) (length times) → longest_from most (drop i files) (drop i times) ≡ most
  longest_end e = elim (dec_lt i (length files)) [ yes h ↦ longest_short (omega arith) | no n ↦ longest_done (omega arith) ]

-- What is left of a row of zeros.
pub drop_zeros : (n m : ℕ) → drop {A = ℕ} n (replicate m 0) ≡ replicate (m - n) 0
drop_zeros zero m = simp unary_clauses
drop_zeros (suc n) zero = let none : 0 - suc n ≡ 0 = omega arith in rw none
drop_zeros (suc n) (suc m) = simp unary_clauses (drop_zeros n m)
