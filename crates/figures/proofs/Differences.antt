-- The difference of two sums as a signed word: nothing wraps.
use Prim.Native.Nat.{ℕ, zero, suc, ◌<◌, ◌^◌}
use mathlib.Core.Path.{◌≡◌, refl, ◌∙◌}
use mathlib.Core.List.{List}
use native.Mathlib.Omega.{arith}
use native.Mathlib.Decide.{dec_lt}
use lib.IntN.{ℤ, pos, ◌-ℤ◌}
use borrow.Author.Tests.{lt-ltb, le-ltb}
use mir.Syntax.{w64}
use mir.Val.{SFits, to_z, of_z}
use mir.ValLaws.{to_z_pos, to_z-of_z}
use Rattle.runs.specs.Run.{Run}
use Rattle.runs.specs.Lists.{Detour}
use Rattle.walk.specs.Price.{priced_answer}
use Rattle.figures.specs.Figures.{without, figure_of}

difference_fits : (a b : ℕ) → a < 2 ^ 58 → b < 2 ^ 58 → SFits w64 (pos a -ℤ pos b)
difference_fits a zero l m = record { sfits = omega arith }
difference_fits a (suc b) l m =
    elim (dec_lt a (suc b)) [
      | yes h ↦ rw (lt-ltb a (suc b) h) (record { sfits = omega arith })
      | no n ↦ rw (le-ltb a (suc b) (omega arith)) (record { sfits = omega arith })
    ]

module _ (a b : ℕ) (l : a < 2 ^ 58) (m : b < 2 ^ 58) where
  read_both : to_z w64 a -ℤ to_z w64 b ≡ pos a -ℤ pos b
  read_both = rw (to_z_pos w64 a (omega arith), to_z_pos w64 b (omega arith)) refl

  pub word_fits : SFits w64 (to_z w64 a -ℤ to_z w64 b)
  word_fits = rw read_both (difference_fits a b l m)

  pub difference_is : to_z w64 (of_z w64 (to_z w64 a -ℤ to_z w64 b)) ≡ pos a -ℤ pos b
  difference_is = to_z-of_z w64 (to_z w64 a -ℤ to_z w64 b) word_fits ∙ read_both

-- As it is stored.
pub stored_is : (a b : ℕ) → a < 2 ^ 58 → b < 2 ^ 58 → (n : ℤ) → n ≡ pos a -ℤ pos b → to_z w64 (of_z w64 n) ≡ pos a -ℤ pos b
stored_is a b l m n e = rw e (to_z-of_z w64 (pos a -ℤ pos b) (difference_fits a b l m))

pub figure_is : (r : Run) (list : List Detour) (i a b : ℕ) → a ≡ (priced_answer r (without i list)).sum → b ≡ (priced_answer r list).sum → pos a -ℤ pos b ≡ figure_of r list i
unfolding figure_of
figure_is r list i a b left right = rw (left, right) refl
