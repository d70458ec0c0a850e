use Rattle.std.proofs.Common.{rules, arith, refl}
use Rattle.text_lines.proofs.Passing.{lines_none, line_bad_here, line_seen, lines_passed}
use Rattle.text_paths.proofs.path_lines.Goals as goal

pub loop-i-init : goal.loop-i-init
loop-i-init c = lines_none _ _ _ _ _ (omega arith) refl

pub returns-in_default : goal.returns-in_default
returns-in_default c = line_bad_here _ _ _ _ _ _ c.loop-i.invariant (search rules) c.in_default.ensures

pub overflow_add-next : goal.overflow_add-next
overflow_add-next c = omega (arith, c.in-Some.ensures.passed.within)

pub loop-i-preserved : goal.loop-i-preserved
loop-i-preserved c = line_seen _ _ _ _ _ _ c.loop-i.invariant (search rules) _ c.in-Some.ensures.passed

pub returns : goal.returns
returns c = lines_passed _ _ _ _ _ _ c.loop-i.invariant (search rules)
