-- A row that is being filled from the front with the entries of another list.
use Prim.Native.Nat.{ℕ, suc, ◌+◌, ◌≤◌, ◌<◌}
use mathlib.Core.Path.{◌≡◌, refl, sym, ap, ◌∙◌}
use mathlib.Core.List.{List, ◌++◌}
use native.Mathlib.Omega.{arith}
use native.Mathlib.Numerals.{add-one}
use lib.ListN.{length, get_or, take, drop, set, length-set}
use lib.Seq.{length-take-le, take_all, take-suc, drop-cons, append_snoc, set_at}

module _ {A : Type 0} (none : A) where
  pub record Filling (target row₀ row : List A) (i : ℕ) : Type 0 where
    pub fits : length target ≤ length row₀
    pub within : i ≤ length target
    pub same : length row ≡ length row₀
    pub is : row ≡ take i target ++ drop i row₀

  pub filling_start : (target row₀ : List A) → length target ≤ length row₀ → Filling target row₀ row₀ 0
  filling_start target row₀ fits = record { fits = fits; within = omega arith; same = refl; is = refl }

  module _ (target row₀ row : List A) (i : ℕ) (p : Filling target row₀ row i) where
    pub filling_more : i < length target → (n : A) → n ≡ get_or target i none → Filling target row₀ (set row i n) (i + 1)
    filling_more l n e =
        record {
          fits = p.fits;
          within = omega arith;
          same = length-set row i n ∙ p.same;
          is =
              ap (λ (r : List A). set r i n) (p.is ∙ ap (λ (r : List A). take i target ++ r) (drop-cons row₀ i none (omega (arith, p.fits))))
              ∙ set_at (take i target) (get_or row₀ i none) (drop (suc i) row₀) n i (length-take-le i target p.within)
              ∙ rw (add-one, take-suc target i none l, e) (sym (append_snoc (take i target) (get_or target i none) (drop (suc i) row₀)));
        }

    pub filling_all : length target ≤ i → row ≡ target ++ drop (length target) row₀
    filling_all h =
        let last : i ≡ length target = omega (arith, p.within) in
        p.is ∙ rw (take_all i target h, last) refl
