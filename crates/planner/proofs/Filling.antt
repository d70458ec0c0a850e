-- A row that is being filled from the front with the entries of another list.
use Prim.Native.Nat.{ℕ, zero, suc, ◌+◌, ◌≤◌, ◌<◌}
use mathlib.Core.Path.{◌≡◌, refl, sym, ap, ◌∙◌}
use mathlib.Core.List.{List, [], ◌∷◌, ◌++◌, map}
use native.Mathlib.Omega.{arith}
use native.Mathlib.Numerals.{add-one}
use lib.ListN.{length, get_or, take, drop, set, length-set}
use lib.Seq.{length-take-le, take-suc, drop-cons, append_snoc, set_at, get_or_at}

pub record Filling (target row₀ row : List ℕ) (i : ℕ) : Type 0 where
  pub fits : length target ≤ length row₀
  pub within : i ≤ length target
  pub same : length row ≡ length row₀
  pub is : row ≡ take i target ++ drop i row₀

pub filling_start : (target row₀ : List ℕ) → length target ≤ length row₀ → Filling target row₀ row₀ 0
filling_start target row₀ fits = record { fits = fits; within = omega arith; same = refl; is = refl }

module _ (target row₀ row : List ℕ) (i : ℕ) (p : Filling target row₀ row i) where
  size : length (take i target) ≡ i
  size = length-take-le i target p.within

  -- The entry at hand is as it was.
  pub filling_next : i < length row₀ → get_or row i 0 ≡ get_or row₀ i 0
  filling_next l = rw (p.is, drop-cons row₀ i 0 l) (get_or_at (take i target) (get_or row₀ i 0) (drop (suc i) row₀) 0 i size)

  pub filling_more : i < length target → (n : ℕ) → n ≡ get_or target i 0 → Filling target row₀ (set row i n) (i + 1)
  filling_more l n e =
      record {
        fits = p.fits;
        within = omega arith;
        same = length-set row i n ∙ p.same;
        is =
            ap (λ r. set r i n) (p.is ∙ ap (λ r. take i target ++ r) (drop-cons row₀ i 0 (omega (arith, p.fits))))
            ∙ set_at (take i target) (get_or row₀ i 0) (drop (suc i) row₀) n i size
            ∙ rw (add-one, take-suc target i 0 l, e) (sym (append_snoc (take i target) (get_or target i 0) (drop (suc i) row₀)));
      }

-- The entry of a row that was made of another.
pub map_at : (f : ℕ → ℕ) (row : List ℕ) (i : ℕ) → i < length row → get_or (map f row) i 0 ≡ f (get_or row i 0)
map_at f [] i l = absurd (omega arith)
map_at f (x ∷ row) zero l = refl
map_at f (x ∷ row) (suc i) l = map_at f row i (omega arith)
