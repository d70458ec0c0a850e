-- A plan of least cost starts no detour at a stop where the stop before it starts too: from that one the same way reads one stop more, and
-- nothing is lost.
use Prim.Native.Nat.{ℕ, zero, suc, ◌+◌, ◌-◌, ◌*◌, ◌≤◌, ◌<◌}
use native.Mathlib.Omega.{arith}
use native.Mathlib.Decide.{dec_le, dec_lt}
use native.Mathlib.Nat.{le_refl, mul-le-mul, mul-le-mul_right}
use mathlib.Core.Path.{◌≡◌, ap}
use mathlib.Core.Logic.{by_cases}
use Rattle.least.specs.Recurrence.{Plan, empty, skip, detour, W, early, trip, wait, value, candidate, best}
use Rattle.least.proofs.Plan.{Over, Owned}
use Rattle.least.proofs.Rising.{rises_not_strictly}
use Rattle.least.proofs.Sums.{W-suc}
use Rattle.least.proofs.Cost.{cost}
use Rattle.least.proofs.Lines.{supported_rises}
use Rattle.least.proofs.Edges.{value_supported}
use Rattle.least.proofs.Value.{value_none, value_least_skip, value_least}
use Rattle.least.proofs.Best.{best_least, best_over, best_cost}
use Rattle.least.proofs.Ties.{detour_parts}
use Rattle.least.proofs.Times.{Spaced, starts_rise, ends_rise}

-- A way that more reads wait for costs more.
more_wait : (t w c s : ℕ) → 0 < t → 0 < c → t * (w + s) < t * (w + c + s)
more_wait t w c s h l = omega (arith, mul-le-mul h l)

module _ (L R C : ℕ → ℕ) (U : ℕ) where
  -- The more reads are skipped right of a window, the more it costs.
  value_rises : (a b s t : ℕ) → s ≤ t → value L R C U a b s ≤ value L R C U a b t
  value_rises a b s t h = supported_rises (λ x. value L R C U a b x) (suc t) (value_supported L R C U a b (suc t)) s t h (omega arith)

  -- A window with one more stop on its left, where the next one starts, costs no more: the leg from there reads that one too.
  module _ (d : ℕ) (same : L d ≡ L (suc d)) where
    early_same : (b : ℕ) → early L C d b ≡ early L C (suc d) b
    early_same b = rw same

    wider : (p : Plan) (b s : ℕ) → Over p (suc d) b → value L R C U d b s ≤ cost L R C U p (suc d) b s
    unfolding cost
    wider empty b s o =
        by_cases
        (dec_le b d)
        (λ h. omega (arith, value_none L R C U d b s h))
        (λ h.
        let e : b ≡ suc d = omega arith in
        let none : L (suc d) - L d ≡ 0 = omega arith in
        rw e (omega (arith, value_least_skip L R C U d d s (le_refl d), value_none L R C U d d (s + C (suc d)) (le_refl d), ap (λ x. 2 * x * C (suc d)) none)))
    wider (skip p) zero s o = absurd o
    wider (skip p) (suc b) s o = omega (arith, value_least_skip L R C U d b s (omega arith), early_same (suc b), wider p b (s + C (suc b)) o.1)
    wider (detour e inner rest) zero s o = absurd o
    wider (detour e inner rest) (suc b) s o =
        omega (arith, value_least L R C U d b s e (omega arith) o.1, best_least L R C U inner (suc e) b (s + C (suc b)) o.2, wider rest e s o.3)

    value_wider : (b s : ℕ) → value L R C U d b s ≤ value L R C U (suc d) b s
    value_wider b s = omega (arith, wider (best L R C U (suc d) b s) b s (best_over L R C U (suc d) b s), best_cost L R C U (suc d) b s)

  module _ (n : ℕ) (spaced : Spaced L R n) where
    wait_rises : (d x b s : ℕ) → x ≤ b → b ≤ n → wait L R C U (suc d) x s ≤ wait L R C U (suc d) b s
    wait_rises d x b s h l = mul-le-mul_right (W C (suc d) + s) (omega (arith, rises_not_strictly R n (ends_rise L R n spaced) x b h l))

    -- Two windows side by side cost no less than one, where a detour from between them to stop b or further right is paid.
    module _ (a d b : ℕ) (low : a ≤ d) (high : b ≤ n) where
      join : (p : Plan) (x s : ℕ) → Over p (suc d) x → d < x → x ≤ b → value L R C U a x s ≤ wait L R C U (suc d) b s + cost L R C U p (suc d) x s + value L R C U a d s
      unfolding cost
      join empty x s o h l =
          let e : x ≡ suc d = omega arith in
          let none : L (suc d) - L (suc d) ≡ 0 = omega arith in
          rw e
          (omega (
            arith,
            value_least L R C U a d s d low (le_refl d),
            value_none L R C U (suc d) d (s + C (suc d)) (omega arith),
            ap (λ y. 2 * y * C (suc d)) none,
            wait_rises d (suc d) b s (omega arith) high,
          ))
      join (skip p) zero s o h l = absurd o
      join (skip p) (suc x) s o h l =
          omega (arith, value_least L R C U a x s d low (omega arith), best_least L R C U p (suc d) x (s + C (suc x)) o.1, wait_rises d (suc x) b s l high)
      join (detour e inner rest) zero s o h l = absurd o
      join (detour e inner rest) (suc x) s o h l =
          omega (
            arith,
            value_least L R C U a x s e (omega arith) o.1,
            best_least L R C U inner (suc e) x (s + C (suc x)) o.2,
            join rest e s o.3 (omega arith) (omega arith),
          )

      value_join : (x s : ℕ) → d < x → x ≤ b → value L R C U a x s ≤ wait L R C U (suc d) b s + value L R C U (suc d) x s + value L R C U a d s
      value_join x s h l = omega (arith, join (best L R C U (suc d) x s) x s (best_over L R C U (suc d) x s) h l, best_cost L R C U (suc d) x s)

    -- A window without its last stop costs no more.
    shorter : (p : Plan) (a b s : ℕ) → suc b ≤ n → Over p a (suc b) → value L R C U a b s ≤ cost L R C U p a (suc b) s
    unfolding cost
    shorter empty a b s h o = omega (arith, value_none L R C U a b s (omega arith))
    shorter (skip p) a b s h o =
        omega (arith, value_rises a b s (s + C (suc b)) (omega arith), best_least L R C U p a b (s + C (suc b)) o.1)
    shorter (detour e inner rest) a b s h o =
        by_cases
        (dec_lt e b)
        (λ l.
        omega (
          arith,
          value_join a e (suc b) o.0 h b s l (omega arith),
          value_rises (suc e) b s (s + C (suc b)) (omega arith),
          best_least L R C U inner (suc e) b (s + C (suc b)) o.2,
          best_least L R C U rest a e s o.3,
        ))
        (λ l. let q : e ≡ b = omega arith in omega (arith, rw q at (best_least L R C U rest a e s o.3), ap (λ x. cost L R C U rest a x s) q))

    value_shorter : (a b s : ℕ) → suc b ≤ n → value L R C U a b s ≤ value L R C U a (suc b) s
    value_shorter a b s h = omega (arith, shorter (best L R C U a (suc b) s) a b s h (best_over L R C U a (suc b) s), best_cost L R C U a (suc b) s)

    module _ (counted : (i : ℕ) → i ≤ n → 0 < C i) where
      trip_some : (d b : ℕ) → d ≤ b → b ≤ n → 0 < trip L R U d b
      trip_some d b h l = omega (arith, starts_rise L R n spaced d b h l, spaced.extends b l)

      -- The choice of such a start is not the least: at the window's left edge it is better to skip, elsewhere to start one stop further left.
      not_least_at_edge : (b s d : ℕ) → d ≤ b → suc b ≤ n → L d ≡ L (suc d) → value L R C U d (suc b) s < candidate L R C U (value L R C U) d b s (suc d)
      unfolding candidate
      not_least_at_edge b s d h l same =
          let some : 0 < wait L R C U (suc d) (suc b) s
          = omega (arith, more_wait (trip L R U (suc d) (suc b)) 0 (W C (suc d) + s) 0 (trip_some (suc d) (suc b) (omega arith) l) (omega (arith, W-suc C d, counted d (omega arith)))) in
          omega (arith, value_least_skip L R C U d b s h, early_same d same (suc b), value_wider d same b (s + C (suc b)))

      not_least_inside : (a b s d : ℕ) → a ≤ d → d < b → suc b ≤ n → L (suc d) ≡ L (suc (suc d)) → value L R C U a (suc b) s < candidate L R C U (value L R C U) a b s (suc (suc d))
      unfolding candidate
      not_least_inside a b s d k h l same =
          let more : wait L R C U (suc d) (suc b) s < wait L R C U (suc (suc d)) (suc b) s
          = rw (← same, W-suc C (suc d)) (more_wait (trip L R U (suc d) (suc b)) (W C (suc d)) (C (suc d)) s (trip_some (suc d) (suc b) (omega arith) l) (counted (suc d) (omega arith))) in
          omega (arith, value_least L R C U a b s d k (omega arith), early_same (suc d) same (suc b), value_wider (suc d) same b (s + C (suc b)), value_shorter a d s (omega arith))

      not_least : (a b s d : ℕ) → a ≤ d → d ≤ b → suc b ≤ n → L d ≡ L (suc d) → value L R C U a (suc b) s < candidate L R C U (value L R C U) a b s (suc d)
      not_least a b s zero k h l same = let e : a ≡ 0 = omega arith in rw e (not_least_at_edge b s 0 h l same)
      not_least a b s (suc d) k h l same =
          by_cases
          (dec_le a d)
          (λ g. not_least_inside a b s d g h l same)
          (λ g. let e : a ≡ suc d = omega arith in rw e (not_least_at_edge b s (suc d) h l same))

      least_owned : (p : Plan) (a b s : ℕ) → Over p a b → b ≤ n → cost L R C U p a b s ≡ value L R C U a b s → Owned L p
      unfolding cost
      least_owned empty a b s o h e = tt
      least_owned (skip p) a zero s o h e = absurd o
      least_owned (skip p) a (suc b) s o h e =
          least_owned p a b (s + C (suc b)) o.1 (omega arith) (omega (arith, value_least_skip L R C U a b s o.0, best_least L R C U p a b (s + C (suc b)) o.1))
      least_owned (detour d inner rest) a zero s o h e = absurd o
      least_owned (detour d inner rest) a (suc b) s o h e =
          let parts = detour_parts L R C U d inner rest a b s o e in
          let low : L d ≤ L (suc d) = spaced.starts d (omega arith) in (
            by_cases (dec_lt (L d) (L (suc d))) (λ l. l) (λ l. absurd (omega (arith, parts.0, not_least a b s d o.0 o.1 h (omega arith)))),
            least_owned inner (suc d) b (s + C (suc b)) o.2 (omega arith) parts.1,
            least_owned rest a d s o.3 (omega arith) parts.2,
          )

      pub best_owned : (a b s : ℕ) → b ≤ n → Owned L (best L R C U a b s)
      best_owned a b s h = least_owned (best L R C U a b s) a b s (best_over L R C U a b s) h (best_cost L R C U a b s)
