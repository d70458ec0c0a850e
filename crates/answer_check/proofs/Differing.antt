-- Two texts compared byte by byte: the first line in which they differ.
use Prim.Native.Nat.{ℕ, suc, ◌+◌, ◌≤◌, ◌<◌}
use mathlib.Core.Path.{◌≡◌, refl}
use mathlib.Core.List.{List, [], ◌∷◌}
use native.Mathlib.Omega.{arith}
use native.Mathlib.Numerals.{add-one}
use lib.ListN.{length, drop, get_or, drop_of_length-le}
use lib.Seq.{drop-cons}
use borrow.Author.Tests.{eq-eqb, ne_eqb}
use Rattle.text_bytes.specs.Text.{line_feed}
use Rattle.answer_check.specs.Checking.{differ_from, first_difference}

-- So many bytes are the same, and what is left decides.
pub record Differing (plan expected : List ℕ) (line start i : ℕ) : Type 0 where
  pub within : i ≤ length plan
  pub few : line ≤ i + 1
  pub same : differ_from line start i (drop i plan) (drop i expected) ≡ first_difference plan expected

drop_none : (text : List ℕ) → drop 0 text ≡ text
drop_none [] = refl
drop_none (b ∷ text) = refl

module _ (plan expected : List ℕ) (line start i : ℕ) (p : Differing plan expected line start i) where
  module _ (l : i < length plan) where
    split : drop i plan ≡ get_or plan i 0 ∷ drop (suc i) plan
    split = drop-cons plan i 0 l

    -- The expected text ends here.
    pub differs_short : length expected ≤ i → record { line = line; start = start } ≡ first_difference plan expected
    unfolding differ_from
    differs_short m = rw (split, drop_of_length-le expected m) at p.same

    module _ (m : i < length expected) where
      other : drop i expected ≡ get_or expected i 0 ∷ drop (suc i) expected
      other = drop-cons expected i 0 m

      -- A byte differs.
      pub differs_here : (get_or plan i 0 ≡ get_or expected i 0 → ⊥) → record { line = line; start = start } ≡ first_difference plan expected
      unfolding differ_from
      differs_here n = rw (split, other, ne_eqb (get_or plan i 0) (get_or expected i 0) n) at p.same

      module _ (e : get_or plan i 0 ≡ get_or expected i 0) where
        pub same_feed : get_or plan i 0 ≡ line_feed → Differing plan expected (line + 1) (i + 1) (i + 1)
        unfolding differ_from
        same_feed f =
            record {
              within = omega arith;
              few = omega (arith, p.few);
              same = rw (add-one line, add-one i) (rw (split, other, eq-eqb (get_or plan i 0) (get_or expected i 0) e, eq-eqb (get_or plan i 0) line_feed f) at p.same);
            }

        pub same_other : (get_or plan i 0 ≡ line_feed → ⊥) → Differing plan expected line start (i + 1)
        unfolding differ_from
        same_other n =
            record {
              within = omega arith;
              few = omega (arith, p.few);
              same = rw (add-one i) (rw (split, other, eq-eqb (get_or plan i 0) (get_or expected i 0) e, ne_eqb (get_or plan i 0) line_feed n) at p.same);
            }

  -- The text handed in ends.
  pub differs_end : length plan ≤ i → record { line = line; start = start } ≡ first_difference plan expected
  unfolding differ_from
  differs_end m = rw (drop_of_length-le plan m) at p.same
