-- The refusal answers, or the walk's numbers.
use mathlib.Core.Path.{sym, ◌∙◌}
use Rattle.runs.specs.Lists.{list_of}
use Rattle.runs.proofs.Judged.{accepted_run}
use Rattle.walk.proofs.AnyHead.{run_priceable, priced_same, rows_same}
use Rattle.walk.proofs.Walks.{accepted_list}
use Rattle.walk.proofs.Priced.{price_passed, price_refusal, price_numbers}
use Rattle.walk.proofs.pricing.price.Goals as goal

pub returns-in-Err-clause-value : goal.returns-in-Err-clause-value
returns-in-Err-clause-value c = (price_refusal _ _ _ _ _ c.in-Err.ensures _ c.refuse.ensures).0

pub returns-in-Err-clause-legs_value : goal.returns-in-Err-clause-legs_value
returns-in-Err-clause-legs_value c = (price_refusal _ _ _ _ _ c.in-Err.ensures _ c.refuse.ensures).1

pub priced-requires-clause-priceable : goal.priced-requires-clause-priceable
priced-requires-clause-priceable c =
    let good = price_passed _ _ _ _ _ (sym c.in_default.is ∙ c.judge_price-judged.ensures) in
    run_priceable _ (accepted_run _ good.run) c.args.froms.now c.args.tos.now (accepted_list _ _ _ good.list)

pub priced-requires-clause-numbers_in_bounds : goal.priced-requires-clause-numbers_in_bounds
priced-requires-clause-numbers_in_bounds c = (price_passed _ _ _ _ _ (sym c.in_default.is ∙ c.judge_price-judged.ensures)).rows

pub returns : goal.returns
returns c =
    let passes = sym c.in_default.is ∙ c.judge_price-judged.ensures in
    let good = accepted_run _ (price_passed _ _ _ _ _ passes).run in
    let list = list_of c.args.froms.now c.args.tos.now in
    let both = price_numbers _ _ _ _ _ passes _ _ (c.priced.ensures.value ∙ priced_same _ good list) (c.priced.ensures.legs_value ∙ rows_same _ good list _) in
    record { value = both.0; legs_value = both.1 }
