-- Numbers that rise with the index, from 0 to n: they keep the order of the indices, and show it.
use Prim.Native.Nat.{ℕ, zero, suc, ◌≤◌, ◌<◌}
use native.Mathlib.Omega.{arith}
use native.Mathlib.Decide.{dec_le, dec_lt}
use mathlib.Core.Path.{◌≡◌}
use mathlib.Core.Logic.{by_cases}

abbrev pub Rises : (ℕ → ℕ) → ℕ → Type 0
Rises F n = (i j : ℕ) → i < j → j ≤ n → F i < F j

-- It is enough that they rise from each index to the next.
pub rises_by_steps : (F : ℕ → ℕ) (n : ℕ) → ((i : ℕ) → i < n → F i < F (suc i)) → Rises F n
rises_by_steps F n up i zero h l = absurd (omega arith)
rises_by_steps F n up i (suc j) h l =
    by_cases
    (dec_lt i j)
    (λ k. omega (arith, rises_by_steps F n up i j k (omega arith), up j l))
    (λ k. let e : i ≡ j = omega arith in rw e (up j l))

-- Numbers that do not fall from each index to the next.
pub rises_weakly : (F : ℕ → ℕ) (n : ℕ) → ((i : ℕ) → i < n → F i ≤ F (suc i)) → (i j : ℕ) → i ≤ j → j ≤ n → F i ≤ F j
rises_weakly F n up i zero h l = let e : i ≡ 0 = omega arith in rw e (omega arith)
rises_weakly F n up i (suc j) h l =
    by_cases
    (dec_le i j)
    (λ k. omega (arith, rises_weakly F n up i j k (omega arith), up j l))
    (λ k. let e : i ≡ suc j = omega arith in rw e (omega arith))

module _ (F : ℕ → ℕ) (n : ℕ) (rises : Rises F n) where
  pub rises_not_strictly : (i j : ℕ) → i ≤ j → j ≤ n → F i ≤ F j
  rises_not_strictly i j h l = by_cases (dec_lt i j) (λ k. omega (arith, rises i j k l)) (λ k. let e : i ≡ j = omega arith in rw e (omega arith))

  pub index_order : (i j : ℕ) → i ≤ n → F i < F j → i < j
  index_order i j l h = by_cases (dec_lt i j) (λ k. k) (λ k. absurd (omega (arith, rises_not_strictly j i (omega arith) l)))

  pub index_same : (i j : ℕ) → i ≤ n → j ≤ n → F i ≡ F j → i ≡ j
  index_same i j h l e =
      by_cases
      (dec_lt i j)
      (λ k. absurd (omega (arith, rises i j k l)))
      (λ k. by_cases (dec_lt j i) (λ m. absurd (omega (arith, rises j i m h))) (λ m. omega arith))
