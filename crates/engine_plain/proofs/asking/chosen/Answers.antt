use Rattle.std.proofs.Common.{arith}
use Rattle.engine_plain.proofs.Windows.{Sooner, sooner, not_sooner, chosen_starts, chosen_turn, chosen_ends}
use Rattle.engine_plain.proofs.asking.chosen.Goals as goal
use Rattle.engine_plain.proofs.asking.chosen.Goals.{then-cost-least, else-cost-least}

pub loop-c-init : goal.loop-c-init
loop-c-init c = chosen_starts _ _ _ _ _ _ _ c.requires.a_lt_b _ c.choice-least.ensures

pub loop-c-preserved : goal.loop-c-preserved
loop-c-preserved c =
    let taken : Sooner c.loop-c.at c.loop-c.least c.loop-c.c c.choice-cost.result c.if-cost-least.at c.if-cost-least.least =
    elim c.if-cost-least.branch [
      | then-cost-least w ↦ sooner _ _ _ _ _ _ w.if-cost-least.true w.at-is w.least-is
      | else-cost-least w ↦ not_sooner _ _ _ _ _ _ w.if-cost-least.false w.at-is w.least-is
    ]
    in
    chosen_turn _ _ _ _ _ _ _ _ _ _ c.loop-c.invariant (omega arith) _ _ _ c.choice-cost.ensures taken.0 taken.1

pub returns : goal.returns
returns c = chosen_ends _ _ _ _ _ _ _ _ _ _ c.loop-c.invariant (omega arith)

pub returns-after-cost-least : goal.returns-after-cost-least
returns-after-cost-least c =
    let taken : Sooner c.loop-c.at c.loop-c.least c.loop-c.c c.choice-cost.result c.if-cost-least.at c.if-cost-least.least =
    elim c.if-cost-least.branch [
      | then-cost-least w ↦ sooner _ _ _ _ _ _ w.if-cost-least.true w.at-is w.least-is
      | else-cost-least w ↦ not_sooner _ _ _ _ _ _ w.if-cost-least.false w.at-is w.least-is
    ]
    in
    chosen_ends _ _ _ _ _ _ _ _ _ _ (chosen_turn _ _ _ _ _ _ _ _ _ _ c.loop-c.invariant (omega arith) _ _ _ c.choice-cost.ensures taken.0 taken.1) (omega arith)
