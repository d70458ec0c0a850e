use Rattle.sheet_reader.proofs.Passing.{unkeyed_rule, rule_line_sweep, rule_line_least, rule_line_bad}
use Rattle.sheet_reader.proofs.top.rule_line.Goals as goal
use Rattle.sheet_reader.proofs.top.rule_line.Goals.{else-not-sweep-via-then-not-sweep+else-not-same, else-not-sweep-via-else-not-sweep}

pub returns-in_err-rule : goal.returns-in_err-rule
returns-in_err-rule c = rw c.from_residual.ensures (unkeyed_rule _ c.in_err-rule.ensures)

pub returns-then-not-same : goal.returns-then-not-same
returns-then-not-same c = rule_line_bad _ _ _ _ c.in_ok-rule.ensures _ c.same-sweep.ensures _ c.same.ensures c.if-not-sweep.true c.if-not-same.true

pub returns : goal.returns
returns c =
    elim c.else-not-sweep.branch [
      | else-not-sweep-via-then-not-sweep+else-not-same w ↦ rule_line_least _ _ _ _ c.in_ok-rule.ensures _ c.same-sweep.ensures _ w.same.ensures w.if-not-same.false
      | else-not-sweep-via-else-not-sweep w ↦ rule_line_sweep _ _ _ _ c.in_ok-rule.ensures _ c.same-sweep.ensures w.if-not-sweep.false
    ]
