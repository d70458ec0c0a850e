-- The refusal answers, or the walk's numbers.
use mathlib.Core.Path.{sym, ◌∙◌}
use Rattle.runs.proofs.AnyHead.{accepted_any}
use Rattle.walk.proofs.AnyHead.{priceable, any_good, any_not_past}
use Rattle.walk.proofs.Priced.{price_any_passed, price_any_refusal, price_any_numbers}
use Rattle.walk.proofs.any_head.price_any.Goals as goal

pub returns-in-Err-clause-value : goal.returns-in-Err-clause-value
returns-in-Err-clause-value c = (price_any_refusal _ _ _ _ _ c.in-Err.ensures _ c.refuse.ensures).0

pub returns-in-Err-clause-legs_value : goal.returns-in-Err-clause-legs_value
returns-in-Err-clause-legs_value c = (price_any_refusal _ _ _ _ _ c.in-Err.ensures _ c.refuse.ensures).1

pub priced-requires-clause-priceable : goal.priced-requires-clause-priceable
priced-requires-clause-priceable c =
    let good = price_any_passed _ _ _ _ _ (sym c.in_default.is ∙ c.judge_price_any-judged.ensures) in
    priceable _ (accepted_any _ good.run) c.args.froms.now c.args.tos.now (any_good _ _ _ _ good.list) (any_not_past _ _ _ _ good.list)

pub priced-requires-clause-numbers_in_bounds : goal.priced-requires-clause-numbers_in_bounds
priced-requires-clause-numbers_in_bounds c = (price_any_passed _ _ _ _ _ (sym c.in_default.is ∙ c.judge_price_any-judged.ensures)).rows

pub returns : goal.returns
returns c =
    let passes = sym c.in_default.is ∙ c.judge_price_any-judged.ensures in
    let both = price_any_numbers _ _ _ _ _ passes _ _ c.priced.ensures.value c.priced.ensures.legs_value in
    record { value = both.0; legs_value = both.1 }
