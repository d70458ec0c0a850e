use Rattle.answer_rewrite.proofs.Cut.{price_within, price_found}
use Rattle.answer_rewrite.proofs.empty_price.Goals as goal

pub bounds-sheet-at : goal.bounds-sheet-at
bounds-sheet-at c = price_within _ c.requires _ c.third_line-at.ensures

pub returns : goal.returns
returns c = rw c.then_some.ensures (price_found _ c.requires _ c.third_line-at.ensures)
