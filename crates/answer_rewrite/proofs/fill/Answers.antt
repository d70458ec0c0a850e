use Rattle.answer_rewrite.proofs.Filling.{zero_filled}
use Rattle.answer_rewrite.proofs.fill.Goals as goal

pub returns-in-Some : goal.returns-in-Some
returns-in-Some c =
    rw c.in-Some.is (zero_filled c.args.out.now c.args.sheet.now c.in-Some.at (rw c.in-Some.is at c.requires.price_within) (rw c.in-Some.is at c.requires.in_bounds)
    _ _ _ _ _ _ (rw c.split_at.ensures.front at c.put-zero_at.ensures) c.put-back_at.ensures (rw c.split_at.ensures.back at c.put.ensures))
