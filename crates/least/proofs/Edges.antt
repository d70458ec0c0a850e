-- What a window can cost at the least, and what each choice comes to, is the lower edge of lines in the reads skipped.
use Prim.Native.Nat.{ℕ, zero, suc, ◌+◌, ◌*◌, ◌≤◌, ◌<◌}
use native.Mathlib.Omega.{arith}
use native.Mathlib.Decide.{dec_le}
use native.Mathlib.Nat.{le_refl}
use mathlib.Core.Path.{◌≡◌, sym, ◌∙◌}
use mathlib.Core.Logic.{by_cases}
use Rattle.least.specs.Recurrence.{W, early, trip, wait, lowest, candidate, value}
use Rattle.least.specs.Slopes.{Supported}
use Rattle.least.proofs.Lines.{supported_line, supported_sum, supported_from, supported_same, supported_lowest}
use Rattle.least.proofs.Value.{value_none, value_step}

module _ (L R C : ℕ → ℕ) (U : ℕ) where
  -- The windows up to stop b.
  abbrev Edges : ℕ → Type 0
  Edges b = (a b' n : ℕ) → b' ≤ b → Supported (λ s. value L R C U a b' s) n

  later : (a b i n : ℕ) → ((m : ℕ) → Supported (λ s. value L R C U a b s) m) → Supported (λ s. value L R C U a b (s + i)) n
  later a b i n x =
      supported_same (λ s. value L R C U a b (i + s)) (λ s. value L R C U a b (s + i)) n
      (λ s l. let e : i + s ≡ s + i = omega arith in rw e)
      (supported_from (λ s. value L R C U a b s) i n (x (i + n)))

  more : (p n : ℕ) (f : ℕ → ℕ) → Supported f n → Supported (λ s. p + f s) n
  more p n f x = supported_same (λ s. p + 0 * s + f s) (λ s. p + f s) n (λ s l. omega arith) (supported_sum (λ s. p + 0 * s) f n (supported_line p 0 n) x)

  detour_sum_here : (t w e s x y : ℕ) → t * w + e + t * s + (x + y) ≡ t * (w + s) + e + x + y
  detour_sum_here t w e s x y = omega arith

  detour_edge : (t w e n : ℕ) (f g : ℕ → ℕ) → Supported f n → Supported g n → Supported (λ s. t * (w + s) + e + f s + g s) n
  detour_edge t w e n f g x y =
      supported_same (λ s. t * w + e + t * s + (f s + g s)) (λ s. t * (w + s) + e + f s + g s) n
      (λ s l. detour_sum_here t w e s (f s) (g s))
      (supported_sum (λ s. t * w + e + t * s) (λ s. f s + g s) n (supported_line (t * w + e) t n) (supported_sum f g n x y))

  candidate_edge : (a b k n : ℕ) → Edges b → k ≤ suc b → Supported (λ s. candidate L R C U (value L R C U) a b s k) n
  unfolding candidate
  candidate_edge a b zero n x h = more (early L C a (suc b)) n (λ s. value L R C U a b (s + C (suc b))) (later a b (C (suc b)) n (λ m. x a b m (le_refl b)))
  candidate_edge a b (suc d) n x h =
      detour_edge (trip L R U (suc d) (suc b)) (W C (suc d)) (early L C (suc d) (suc b)) n (λ s. value L R C U (suc d) b (s + C (suc b))) (λ s. value L R C U a d s)
      (later (suc d) b (C (suc b)) n (λ m. x (suc d) b m (le_refl b)))
      (x a d n (omega arith))

  none : (a b n : ℕ) → b ≤ a → Supported (λ s. value L R C U a b s) n
  none a b n h = supported_same (λ s. 0 + 0 * s) (λ s. value L R C U a b s) n (λ s l. omega (arith, value_none L R C U a b s h)) (supported_line 0 0 n)

  window_edge : (a b n : ℕ) → Edges b → Supported (λ s. value L R C U a (suc b) s) n
  window_edge a b n x =
      by_cases
      (dec_le a b)
      (λ h.
      supported_same
      (λ s. lowest (candidate L R C U (value L R C U) a b s) a (suc b) (candidate L R C U (value L R C U) a b s 0))
      (λ s. value L R C U a (suc b) s) n
      (λ s l. sym (value_step L R C U a b s h))
      (supported_lowest (λ s. candidate L R C U (value L R C U) a b s) (λ s. candidate L R C U (value L R C U) a b s 0) a (suc b) n
      (candidate_edge a b 0 n x (omega arith))
      (λ d k l. candidate_edge a b (suc d) n x (omega arith))))
      (λ h. none a (suc b) n (omega arith))

  edges : (b : ℕ) → Edges b
  edges zero a b' n h = none a b' n (omega arith)
  edges (suc b) a b' n h =
      by_cases
      (dec_le b' b)
      (λ l. edges b a b' n l)
      (λ l. let e : b' ≡ suc b = omega arith in rw e (window_edge a b n (edges b)))

  pub value_supported : (a b n : ℕ) → Supported (λ s. value L R C U a b s) n
  value_supported a b n = edges b a b n (le_refl b)

  pub value_supported_later : (a b i n : ℕ) → Supported (λ s. value L R C U a b (s + i)) n
  value_supported_later a b i n = later a b i n (value_supported a b)

  pub candidate_supported : (a b k n : ℕ) → k ≤ suc b → Supported (λ s. candidate L R C U (value L R C U) a b s k) n
  candidate_supported a b k n h = candidate_edge a b k n (edges b) h
