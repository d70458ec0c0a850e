-- An entry of the list, or the last sweep behind them.
use Rattle.std.proofs.Common.{rules}
use mathlib.Core.Path.{◌∙◌}
use Rattle.walk.proofs.Legs.{leg_of_detour, leg_of_sweep}
use Rattle.walk.proofs.pricing.leg_at.Goals as goal

pub returns-then-i-froms : goal.returns-then-i-froms
returns-then-i-froms c = c.detour_leg.ensures ∙ leg_of_detour c.args.head _ _ _ c.args.numbers.now _ _ c.args.reach c.requires.rows_fit.list.even _ (search rules)

pub sweep_leg-requires-clause-numbers_nonzero : goal.sweep_leg-requires-clause-numbers_nonzero
sweep_leg-requires-clause-numbers_nonzero c = (leg_of_sweep c.args.head _ _ _ _ _ _ _ c.requires.rows_fit.list.even _ c.if-i-froms.false c.requires.i_in_bounds).0

pub returns : goal.returns
returns c = c.sweep_leg.ensures ∙ (leg_of_sweep c.args.head _ _ _ _ _ _ _ c.requires.rows_fit.list.even _ c.if-i-froms.false c.requires.i_in_bounds).1
