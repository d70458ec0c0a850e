use Rattle.std.proofs.Common.{rules, arith}
use Rattle.text_paths.proofs.Positions.{paths_none, path_filled, paths_stopped, paths_ended}
use Rattle.text_paths.proofs.fill_paths.Goals as goal

pub loop-i-init : goal.loop-i-init
loop-i-init c = paths_none _ c.args.count _ _ _ (search rules)

pub returns-in_default : goal.returns-in_default
returns-in_default c = paths_stopped _ _ _ _ _ (search rules) _ _ _ _ c.loop-i.invariant (search rules) c.in_default.ensures

pub overflow_add-next : goal.overflow_add-next
overflow_add-next c = omega (arith, c.in-Some.ensures.passed.within)

pub loop-i-preserved : goal.loop-i-preserved
loop-i-preserved c = path_filled _ c.args.count _ _ _ (search rules) _ _ _ _ c.loop-i.invariant (search rules) _ _ c.in-Some.ensures

pub returns : goal.returns
returns c = paths_ended _ _ _ _ _ (search rules) _ _ _ _ c.loop-i.invariant (search rules)
