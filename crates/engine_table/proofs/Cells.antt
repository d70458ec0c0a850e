-- Where the words of the table stand: rows do not meet, and what is written to one leaves the others.
use Prim.Native.Nat.{ℕ, ◌+◌, ◌*◌, ◌/◌, ◌%◌, ◌≤◌, ◌<◌}
use mathlib.Core.Path.{◌≡◌, refl, sym, ap, ◌∙◌}
use mathlib.Core.Logic.{◌⊎◌, inl, inr, ⊎_elim, by_cases}
use mathlib.Core.List.{List}
use native.Mathlib.Omega.{arith}
use native.Mathlib.Decide.{dec_lt}
use native.Mathlib.Nat.{mul-le-mul_right}
use lib.Arith.{digits_lt, digits_div, digits_mod}
use lib.ListN.{get_or}
use Rattle.runs.specs.Run.{Stop}
use Rattle.engine_table.specs.Private.{Kept, Apart, CellsHold, Beyond, row_at, table_size}

-- The rows stand in the order of a * k + b, and no two at one place.
same_row_lem : (k a b a' b' : ℕ) → b < k → b' < k → a * k + b ≡ a' * k + b' → (a ≡ a') × (b ≡ b')
same_row_lem k a b a' b' h h' e =
    (sym (digits_div a h) ∙ ap (λ n. n / k) e ∙ digits_div a' h', sym (digits_mod a h) ∙ ap (λ n. n % k) e ∙ digits_mod a' h')

pub rows_differ : (k a b a' b' : ℕ) → b < k → b' < k → (a ≡ a' → b ≡ b' → ⊥) → (a * k + b < a' * k + b') ⊎ (a' * k + b' < a * k + b)
rows_differ k a b a' b' h h' n =
    by_cases
    (dec_lt (a * k + b) (a' * k + b'))
    (λ l. inl l)
    (λ l. by_cases
    (dec_lt (a' * k + b') (a * k + b))
    (λ m. inr m)
    (λ m. let s = same_row_lem k a b a' b' h h' (omega arith) in absurd (n s.0 s.1)))

row_below : (p q m x n : ℕ) → p < q → x + n ≤ m → p * m + x + n ≤ q * m
row_below p q m x n l h = omega (arith, mul-le-mul_right m l)

-- A part of a row within the table.
pub row_inside : (k reads a b x n : ℕ) → a < k → b < k → x + n ≤ reads + 1 → row_at k reads a b + x + n ≤ table_size k reads
row_inside k reads a b x n h l s = row_below (a * k + b) (k * k) (reads + 1) x n (digits_lt h l) s

-- A part of one row and the front of another do not meet.
pub rows_apart : (k reads a b a' b' x n : ℕ) → b < k → b' < k → (a ≡ a' → b ≡ b' → ⊥) → x + n ≤ reads + 1 → Apart (row_at k reads a b + x) (row_at k reads a' b') n
rows_apart k reads a b a' b' x n h l d s =
    ⊎_elim
    (λ p. inl (row_below (a * k + b) (a' * k + b') (reads + 1) x n p s))
    (λ p. inr (omega (arith, row_below (a' * k + b') (a * k + b) (reads + 1) 0 n p (omega arith))))
    (rows_differ k a b a' b' h l d)

-- Writing within the rows from p up to p + q leaves the rows outside.
pub row_kept : (p q p' m n s : ℕ) (xs ys : List ℕ) → Kept (p * m) n xs ys → n ≤ q * m → s < m → (p' < p) ⊎ (p + q ≤ p') → get_or ys (p' * m + s) 0 ≡ get_or xs (p' * m + s) 0
row_kept p q p' m n s xs ys k h l o =
    ⊎_elim
    (λ b. k.below (p' * m + s) (digits_lt b l))
    (λ b. k.above (p' * m + s) (omega (arith, mul-le-mul_right m b)))
    o

module _ (stops : List Stop) (turn k reads : ℕ) (xs ys : List ℕ) where
  pub holds_kept : (a b n a' b' : ℕ) → Kept (row_at k reads a b) n xs ys → n ≤ reads + 1 → b < k → b' < k → (a' ≡ a → b' ≡ b → ⊥) → CellsHold stops turn k reads xs a' b' → CellsHold stops turn k reads ys a' b'
  holds_kept a b n a' b' w h l l' d v s r =
      row_kept (a * k + b) 1 (a' * k + b') (reads + 1) n s xs ys w (omega arith) (omega arith)
      (⊎_elim (λ p. inl p) (λ p. inr (omega arith)) (rows_differ k a' b' a b l' l d))
      ∙ v s r

-- What is written within the table leaves the words past it.
pub beyond_kept : (size at n : ℕ) (xs ys : List ℕ) → at + n ≤ size → Kept at n xs ys → Beyond size xs ys
beyond_kept size at n xs ys h k = record { same = k.same; later = λ i l. k.above i (omega arith) }

pub beyond_on : (size : ℕ) (xs ys zs : List ℕ) → Beyond size xs ys → Beyond size ys zs → Beyond size xs zs
beyond_on size xs ys zs h k = record { same = k.same ∙ h.same; later = λ i l. k.later i l ∙ h.later i l }

pub beyond_none : (size : ℕ) (xs : List ℕ) → Beyond size xs xs
beyond_none size xs = record { same = refl; later = λ i l. refl }
