use Rattle.std.proofs.Common.{rules}
use Rattle.text_lines.proofs.Filling.{filling_none, pair_filled, stopped, ended}
use Rattle.text_lines.proofs.fill_pairs.Goals as goal

pub loop-i-init : goal.loop-i-init
loop-i-init c = filling_none _ _ _ c.args.count _ _ _ (search rules) _ c.position-here.ensures.upper_bound c.position-here.ensures.text_value

pub returns-in_default : goal.returns-in_default
returns-in_default c = stopped _ _ _ _ _ _ _ (search rules) _ _ _ _ c.loop-i.invariant (search rules) c.in_default.ensures

pub loop-i-preserved : goal.loop-i-preserved
loop-i-preserved c = pair_filled _ _ _ c.args.count _ _ _ (search rules) _ _ _ _ c.loop-i.invariant (search rules) _ _ _ c.in-Some.ensures

pub returns : goal.returns
returns c = ended _ _ _ _ _ _ _ (search rules) _ _ _ _ c.loop-i.invariant (search rules)
