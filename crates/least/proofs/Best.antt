-- The plan read off the table: at each window the first choice whose candidate is the window's value.
-- It fits its window, it costs the value, and no plan over the window costs less.
use Prim.Native.Nat.{ℕ, zero, suc, ◌+◌, ◌≤◌, ◌<◌}
use native.Mathlib.Omega.{arith}
use native.Mathlib.Decide.{dec_le}
use native.Mathlib.Nat.{le_refl}
use mathlib.Core.Path.{◌≡◌, refl, sym, ◌∙◌}
use mathlib.Core.Bool.{cond}
use mathlib.Core.Logic.{by_cases}
use lib.Dec.{leb}
use borrow.Author.Tests.{le-leb, lt-leb}
use Rattle.least.proofs.Plan.{Over}
use Rattle.least.proofs.Columns.{Agree, filled_first, filled_next}
use Rattle.least.proofs.Cost.{cost}
use Rattle.least.proofs.Value.{choice_first, choice_value, value_none, value_least_skip, value_least}
use Rattle.least.specs.Recurrence.{Plan, empty, skip, detour, CellsOf, filled, value, candidate, choice, nextPlan, best, built}

module _ (L R C : ℕ → ℕ) (U : ℕ) where
  built_same : (P Q : CellsOf Plan) (a b s k : ℕ) → k ≤ suc b → Agree P Q b → built L R C U P a b s k ≡ built L R C U Q a b s k
  unfolding built
  built_same P Q a b s zero h e = rw (e a b (s + C (suc b)) (omega arith))
  built_same P Q a b s (suc d) h e = rw (e (suc d) b (s + C (suc b)) (omega arith), e a d s (omega arith))

  choice_within : (a b s : ℕ) → a ≤ b → choice L R C U a b s ≤ suc b
  choice_within a b s h = by_cases (dec_le 1 (choice L R C U a b s)) (λ l. omega (arith, (choice_first L R C U a b s h).within l)) (λ n. omega arith)

  next_plan_first : (P : CellsOf Plan) (a s : ℕ) → nextPlan L R C U P a 0 s ≡ empty
  unfolding nextPlan
  next_plan_first P a s = refl

  next_plan_same : (P Q : CellsOf Plan) (n : ℕ) → Agree P Q n → Agree (nextPlan L R C U P) (nextPlan L R C U Q) (suc n)
  unfolding nextPlan
  next_plan_same P Q n e a zero s h = refl
  next_plan_same P Q n e a (suc b) s h =
      by_cases
      (dec_le a b)
      (λ l. rw (le-leb a b l) (built_same P Q a b s (choice L R C U a b s) (choice_within a b s l) (λ a b' s k. e a b' s (omega arith))))
      (λ m. rw (lt-leb a b (omega arith)))

  best_next : (a b s : ℕ) → best L R C U a (suc b) s ≡ nextPlan L R C U (best L R C U) a (suc b) s
  unfolding best
  best_next = filled_next empty (nextPlan L R C U) next_plan_first next_plan_same

  pub best_none : (a b s : ℕ) → b ≤ a → best L R C U a b s ≡ empty
  unfolding nextPlan best
  best_none a zero s h = filled_first empty (nextPlan L R C U) next_plan_first next_plan_same a s
  best_none a (suc b) s h = best_next a b s ∙ rw (lt-leb a b h)

  pub best_step : (a b s : ℕ) → a ≤ b → best L R C U a (suc b) s ≡ built L R C U (best L R C U) a b s (choice L R C U a b s)
  unfolding nextPlan
  best_step a b s h = best_next a b s ∙ rw (le-leb a b h)

  pub best_skip : (a b s : ℕ) → a ≤ b → choice L R C U a b s ≡ 0 → best L R C U a (suc b) s ≡ skip (best L R C U a b (s + C (suc b)))
  unfolding built
  best_skip a b s h e = best_step a b s h ∙ rw e

  pub best_detour : (a b s d : ℕ) → a ≤ b → choice L R C U a b s ≡ suc d → best L R C U a (suc b) s ≡ detour d (best L R C U (suc d) b (s + C (suc b))) (best L R C U a d s)
  unfolding built
  best_detour a b s d h e = best_step a b s h ∙ rw e

  pub best_least : (p : Plan) (a b s : ℕ) → Over p a b → value L R C U a b s ≤ cost L R C U p a b s
  unfolding cost
  best_least empty a b s o = omega (arith, value_none L R C U a b s o)
  best_least (skip p) a zero s o = absurd o
  best_least (skip p) a (suc b) s o = omega (arith, value_least_skip L R C U a b s o.0, best_least p a b (s + C (suc b)) o.1)
  best_least (detour d inner rest) a zero s o = absurd o
  best_least (detour d inner rest) a (suc b) s o =
      omega (arith, value_least L R C U a b s d o.0 o.1, best_least inner (suc d) b (s + C (suc b)) o.2, best_least rest a d s o.3)

  -- A plan over the window that costs its value.
  pub record Attains (p : Plan) (a b s : ℕ) : Type 0 where
    pub over : Over p a b
    pub costs : cost L R C U p a b s ≡ value L R C U a b s

  attains_skip : (p : Plan) (a b s : ℕ) → a ≤ b → choice L R C U a b s ≡ 0 → Attains p a b (s + C (suc b)) → Attains (skip p) a (suc b) s
  unfolding cost candidate
  attains_skip p a b s h e g = record {
    over = (h, g.over);
    costs = omega (arith, g.costs, rw e at (choice_value L R C U a b s h));
  }

  attains_detour : (d : ℕ) (p q : Plan) (a b s : ℕ) → a ≤ b → choice L R C U a b s ≡ suc d → Attains p (suc d) b (s + C (suc b)) → Attains q a d s → Attains (detour d p q) a (suc b) s
  unfolding cost candidate
  attains_detour d p q a b s h e g k =
      let w : (a < suc d) × (suc d ≤ suc b) = rw e at ((choice_first L R C U a b s h).within (omega arith)) in
      record {
        over = (omega arith, omega arith, g.over, k.over);
        costs = omega (arith, g.costs, k.costs, rw e at (choice_value L R C U a b s h));
      }

  best_attains_step : (a b s : ℕ) → a ≤ b → ((a b' s : ℕ) → b' ≤ b → Attains (best L R C U a b' s) a b' s) → Attains (best L R C U a (suc b) s) a (suc b) s
  best_attains_step a b s h g = go (choice L R C U a b s) refl
    where
      go : (k : ℕ) → choice L R C U a b s ≡ k → Attains (best L R C U a (suc b) s) a (suc b) s
      go zero e = rw (best_skip a b s h e) (attains_skip (best L R C U a b (s + C (suc b))) a b s h e (g a b (s + C (suc b)) (le_refl b)))
      go (suc d) e =
          rw
          (best_detour a b s d h e)
          (attains_detour d (best L R C U (suc d) b (s + C (suc b))) (best L R C U a d s) a b s h e (g (suc d) b (s + C (suc b)) (le_refl b)) (g a d s (omega (arith, choice_within a b s h))))

  attains_none : (a b s : ℕ) → b ≤ a → Attains (best L R C U a b s) a b s
  unfolding cost
  attains_none a b s h = rw (best_none a b s h) (record { over = h; costs = sym (value_none L R C U a b s h) })

  best_attains_case : (a b s : ℕ) → ((a b' s : ℕ) → b' < b → Attains (best L R C U a b' s) a b' s) → Attains (best L R C U a b s) a b s
  best_attains_case a zero s g = attains_none a 0 s (omega arith)
  best_attains_case a (suc b) s g =
      by_cases
      (dec_le a b)
      (λ h. best_attains_step a b s h (λ a b' s l. g a b' s (omega arith)))
      (λ n. attains_none a (suc b) s (omega arith))

  best_attains_to : (f a b s : ℕ) → b ≤ f → Attains (best L R C U a b s) a b s
  best_attains_to zero a b s h = attains_none a b s (omega arith)
  best_attains_to (suc f) a b s h = best_attains_case a b s (λ a b' s l. best_attains_to f a b' s (omega arith))

  pub best_attains : (a b s : ℕ) → Attains (best L R C U a b s) a b s
  best_attains a b s = best_attains_to b a b s (le_refl b)

  pub best_over : (a b s : ℕ) → Over (best L R C U a b s) a b
  best_over a b s = (best_attains a b s).over

  pub best_cost : (a b s : ℕ) → cost L R C U (best L R C U a b s) a b s ≡ value L R C U a b s
  best_cost a b s = (best_attains a b s).costs
