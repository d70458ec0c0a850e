-- Rows of zeros have no note, and what was noted by line is handed over.
use mathlib.Core.Path.{sym, ◌∙◌}
use Rattle.tape_picks.proofs.Searching.{zeros_fit, zeros_none, kept_fit, search_bad, search_good}
use Rattle.tape_picks.proofs.gather.search.Goals as goal

pub gather-good-requires : goal.gather-good-requires
gather-good-requires c = record {
  index_value = c.requires.index_value;
  list_held = c.requires.list_held;
  all_fit = zeros_fit 1024 _ c.requires.all_fit.1;
  none_noted = zeros_none 1024 _ c.args.order.now;
}

pub returns-then-not-good : goal.returns-then-not-good
returns-then-not-good c = search_bad _ _ _ _ _ _ _ _ _ (sym c.if-not-good.true ∙ c.gather-good.ensures.judged)

pub hand_over-requires-2 : goal.hand_over-requires-2
hand_over-requires-2 c =
    (kept_fit 1024 _ c.gather-good.new.starts c.gather-good.auto.starts c.requires.all_fit.1, c.requires.all_fit.0.1.0)

pub hand_over-requires-3 : goal.hand_over-requires-3
hand_over-requires-3 c =
    (kept_fit 1024 _ c.gather-good.new.ends c.gather-good.auto.ends c.requires.all_fit.1, c.requires.all_fit.0.1.1)

pub returns : goal.returns
returns c =
    let k = c.gather-good.auto in
    let l = c.gather-good.new in
    let b = c.requires.all_fit.1 in
    search_good _ _ _ _ _ _ _ _ _ _ c.requires.list_held l.states l.starts l.ends (kept_fit 1024 _ l.states k.states b, (kept_fit 1024 _ l.starts k.starts b, kept_fit 1024 _ l.ends k.ends b))
    (rw c.if-not-good.false at c.gather-good.ensures) _ _ _ c.hand_over.ensures c.hand_over-2.ensures
    c.hand_over-3.ensures
