-- The engine's contract determines its answer and every row.
use mathlib.Core.Path.{◌≡◌, refl, sym, ap, ◌∙◌}
use mathlib.Core.Bool.{Bool, true, false}
use Rattle.refusals.specs.Refusals.{is_refusal}
use Rattle.runs.specs.Run.{Run, stops_of}
use Rattle.walk.specs.declared.Answer.{Answer}
use Rattle.walk.specs.Price.{priced_answer}
use Rattle.least.proofs.LeastList.{least_unique}
use Rattle.engine_plain.specs.Plain.{PlainRows, PlainPlans, PlainPlanned, plain_verdict, plain_rows_with}

module _ (r : Run) (before : PlainRows) (a a' : Answer) (after after' : PlainRows) where
  plain_once : PlainPlanned r before a after → PlainPlanned r before a' after' → (a ≡ a') × (after ≡ after')
  plain_once p q =
      let e = least_unique r.turn r.head (stops_of r) p.list q.list p.least q.least in
      (p.says ∙ ap (priced_answer r) e ∙ sym q.says, p.rows ∙ ap (λ l. plain_rows_with r l before) e ∙ sym q.rows)

  -- Two results that fit the contract are equal.
  pub plain_determined : PlainPlans r before a after → PlainPlans r before a' after' → (a ≡ a') × (after ≡ after')
  plain_determined p q = go (is_refusal (plain_verdict r before).refusal) refl
    where
      go : (b : Bool) → is_refusal (plain_verdict r before).refusal ≡ b → (a ≡ a') × (after ≡ after')
      go true e = ((p.refused e).says ∙ sym (q.refused e).says, (p.refused e).kept ∙ sym (q.refused e).kept)
      go false e = plain_once (p.planned e) (q.planned e)
