-- The planner's contract determines its answer and every row.
use mathlib.Core.Path.{◌≡◌, refl, sym, ap, ◌∙◌}
use mathlib.Core.Bool.{Bool, true, false}
use Rattle.walk.specs.declared.Answer.{Answer}
use Rattle.refusals.specs.Refusals.{is_refusal}
use Rattle.runs.specs.Run.{Run, stops_of}
use Rattle.walk.specs.Price.{priced_answer}
use Rattle.walk.specs.AnyHead.{priced_any_answer}
use Rattle.least.proofs.LeastList.{least_unique}
use Rattle.least.proofs.LeastAny.{least_any_unique}
use Rattle.planner.specs.Plan.{Plans, Planned, Refused, plan_verdict, rows_with}
use Rattle.planner.specs.AnyHead.{PlansAny, PlannedAny, plan_any_verdict, rows_any_with}
use Rattle.planner.specs.Rows.{Rows}

module _ (r : Run) (before : Rows) (a a' : Answer) (after after' : Rows) where
  pub planned_once : Planned r before a after → Planned r before a' after' → (a ≡ a') × (after ≡ after')
  planned_once p q =
      let e = least_unique r.turn r.head (stops_of r) p.list q.list p.least q.least in
      (p.says ∙ ap (priced_answer r) e ∙ sym q.says, p.rows ∙ ap (λ l. rows_with r l before) e ∙ sym q.rows)

  refused_once : Refused (plan_verdict r before) before a after → Refused (plan_verdict r before) before a' after' → (a ≡ a') × (after ≡ after')
  refused_once p q = (p.says ∙ sym q.says, p.kept ∙ sym q.kept)

  -- Two results that fit the contract are equal.
  pub plan_determined : Plans r before a after → Plans r before a' after' → (a ≡ a') × (after ≡ after')
  plan_determined p q = go (is_refusal (plan_verdict r before).refusal) refl
    where
      go : (b : Bool) → is_refusal (plan_verdict r before).refusal ≡ b → (a ≡ a') × (after ≡ after')
      go true e = refused_once (p.refused e) (q.refused e)
      go false e = planned_once (p.planned e) (q.planned e)

-- The same for a head anywhere.
module _ (r : Run) (before : Rows) (a a' : Answer) (after after' : Rows) where
  pub planned_any_once : PlannedAny r before a after → PlannedAny r before a' after' → (a ≡ a') × (after ≡ after')
  planned_any_once p q =
      let e = least_any_unique r.turn r.head (stops_of r) p.list q.list p.least q.least in
      (p.says ∙ ap (priced_any_answer r) e ∙ sym q.says, p.rows ∙ ap (λ l. rows_any_with r l before) e ∙ sym q.rows)

  pub plan_any_determined : PlansAny r before a after → PlansAny r before a' after' → (a ≡ a') × (after ≡ after')
  plan_any_determined p q = go (is_refusal (plan_any_verdict r before).refusal) refl
    where
      go : (b : Bool) → is_refusal (plan_any_verdict r before).refusal ≡ b → (a ≡ a') × (after ≡ after')
      go true e = let x = p.refused e in let y = q.refused e in (x.says ∙ sym y.says, x.kept ∙ sym y.kept)
      go false e = planned_any_once (p.planned e) (q.planned e)
