use Rattle.std.proofs.Common.{rules}
use Rattle.text_lines.proofs.Passing.{lines_none, line_bad_here, line_seen, lines_passed}
use Rattle.text_lines.proofs.pass_lines.Goals as goal

pub loop-i-init : goal.loop-i-init
loop-i-init g c test passes = lines_none _ _ _ _ _ c.position-next.ensures.upper_bound c.position-next.ensures.text_value

pub returns-in_default : goal.returns-in_default
returns-in_default g c test passes =
    let seen = c.loop-i.invariant test passes in
    line_bad_here _ _ _ _ _ _ seen (search rules) (passes _ _ seen.within c.in_default.ensures)

pub loop-i-preserved : goal.loop-i-preserved
loop-i-preserved g c test passes =
    let seen = c.loop-i.invariant test passes in
    line_seen _ _ _ _ _ _ seen (search rules) _ (passes _ _ seen.within c.in-Some.ensures)

pub returns : goal.returns
returns g c test passes = lines_passed _ _ _ _ _ _ (c.loop-i.invariant test passes) (search rules)
