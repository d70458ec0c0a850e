-- Bounds for words, from the places, the turn price and the reads: of a value, and of every sum formed on the way to one.
use Prim.Native.Nat.{ℕ, zero, suc, ◌+◌, ◌*◌, ◌≤◌}
use native.Mathlib.Omega.{arith}
use native.Mathlib.Decide.{dec_le}
use native.Mathlib.Nat.{mul-le-mul, mul-le-mul_left, le_refl}
use mathlib.Core.Path.{◌≡◌}
use mathlib.Core.Logic.{by_cases}
use Rattle.least.proofs.Sums.{W-suc, W-rises, win, win_step, win_within, win_most}
use Rattle.least.specs.Recurrence.{W, early, wait, value, candidate}
use Rattle.least.proofs.Value.{value_none, value_least_skip}

bound_step : (v e v' B w c w' : ℕ) → v ≤ e + v' → e ≤ 2 * B * c → v' ≤ 2 * B * w → w' ≡ w + c → v ≤ 2 * B * w'
bound_step v e v' B w c w' h i j k = rw k (omega arith)

choice_sum_lem : (w e v v' B U c p q N : ℕ) → w ≤ 2 * (U + B) * N → e ≤ 2 * B * c → v ≤ 2 * B * p → v' ≤ 2 * B * q → c + p + q ≤ N → w + e + v + v' ≤ 2 * (U + 2 * B) * N
choice_sum_lem w e v v' B U c p q N h₁ h₂ h₃ h₄ h₅ = omega (arith, mul-le-mul_left (2 * B) h₅)

module _ (L R C : ℕ → ℕ) (U : ℕ) where
  early_bound : (B a b : ℕ) → L b ≤ B → early L C a b ≤ 2 * B * C b
  early_bound B a b l = mul-le-mul (omega arith) (le_refl (C b))

  value_win : (B a b s : ℕ) → ((i : ℕ) → i ≤ b → L i ≤ B) → value L R C U a b s ≤ 2 * B * win C a b
  value_win B a zero s l = omega (arith, value_none L R C U a 0 s (omega arith))
  value_win B a (suc b) s l =
      by_cases
      (dec_le a b)
      (λ h. bound_step (value L R C U a (suc b) s) (early L C a (suc b)) (value L R C U a b (s + C (suc b))) B (win C a b) (C (suc b)) (win C a (suc b))
      (value_least_skip L R C U a b s h)
      (early_bound B a (suc b) (l (suc b) (le_refl (suc b))))
      (value_win B a b (s + C (suc b)) (λ i k. l i (omega arith)))
      (win_step C a b h))
      (λ n. omega (arith, value_none L R C U a (suc b) s (omega arith)))

  wait_bound : (B N c b s : ℕ) → R b ≤ B → W C c + s ≤ N → wait L R C U c b s ≤ 2 * (U + B) * N
  wait_bound B N c b s r n = mul-le-mul (omega arith) n

  -- What a choice comes to, and with it each part of that sum; N is no less than the reads up to suc b and those skipped.
  pub candidate_bound : (B N a b s k : ℕ) → ((i : ℕ) → i ≤ suc b → L i ≤ B) → R (suc b) ≤ B → W C (suc (suc b)) + s ≤ N → k ≤ suc b → candidate L R C U (value L R C U) a b s k ≤ 2 * (U + 2 * B) * N
  unfolding candidate
  candidate_bound B N a b s zero l r n g =
      omega (
        arith,
        choice_sum_lem 0 (early L C a (suc b)) (value L R C U a b (s + C (suc b))) 0 B U (C (suc b)) (win C a b) 0 N (omega arith)
            (early_bound B a (suc b) (l (suc b) (le_refl (suc b))))
            (value_win B a b (s + C (suc b)) (λ i h. l i (omega arith)))
            (omega arith)
            (omega (arith, W-suc C (suc b), win_most C a b)),
      )
  candidate_bound B N a b s (suc d) l r n g =
      choice_sum_lem (wait L R C U (suc d) (suc b) s) (early L C (suc d) (suc b)) (value L R C U (suc d) b (s + C (suc b))) (value L R C U a d s) B U (C (suc b)) (win C (suc d) b) (win C a d) N
      (wait_bound B N (suc d) (suc b) s r (omega (arith, W-rises C (suc d) (suc (suc b)) (omega arith))))
      (early_bound B (suc d) (suc b) (l (suc b) (le_refl (suc b))))
      (value_win B (suc d) b (s + C (suc b)) (λ i h. l i (omega arith)))
      (value_win B a d s (λ i h. l i (omega arith)))
      (omega (arith, W-suc C (suc b), win_within C (suc d) b g, win_most C a d))
