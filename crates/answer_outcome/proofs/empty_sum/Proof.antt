-- `answer_outcome::empty_sum` meets its contract: no check of the pricer refuses the empty list of an accepted run.
-- Assumes nothing.
use mathlib.Core.Path.{ap, ◌∙◌}
use Rattle.answer_outcome.proofs.Plans.{empty_price_lem}
use borrow.Author.Rules.{rules}
use Rattle.answer_outcome.proofs.empty_sum.Statement.{statement}
use Rattle.answer_outcome.proofs.empty_sum.Tie as tie

-- src/lib.rt:109:9
slice-aggregate-price : tie.Need-slice_bounds-price-end
slice-aggregate-price c = search rules

-- src/lib.rt:110:9
slice-aggregate-price-2 : tie.Need-slice_bounds-price-end-2
slice-aggregate-price-2 c = search rules

-- src/lib.rt:111:9
slice-aggregate-price-3 : tie.Need-slice_bounds-price-end-3
slice-aggregate-price-3 c = search rules

-- src/lib.rt:112:9
slice-aggregate-price-4 : tie.Need-slice_bounds-price-end-4
slice-aggregate-price-4 c = search rules

-- src/lib.rt:101:9
price-requires : tie.Need-price-price-requires
price-requires c κs = search rules

-- src/lib.rt:86:1
returns : tie.Need-returns
returns c =
    let back = c in
    let start = back in
    ap (λ a. a.sum) c.price-price.ensures.0 ∙ empty_price_lem _ _ (search rules) (search rules) start.requires

pub empty_sum_spec : {M : Type 1} → statement M
empty_sum_spec =
    tie.close
    (tie.spec
    slice-aggregate-price
    slice-aggregate-price-2
    slice-aggregate-price-3
    slice-aggregate-price-4
    price-requires
    returns)
