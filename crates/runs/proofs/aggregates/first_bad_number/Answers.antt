use Rattle.std.proofs.Common.{arith}
use Rattle.runs.proofs.Numbers.{numbers_none, bad_number_found, number_passed}
use Rattle.runs.proofs.aggregates.first_bad_number.Goals as goal
use Rattle.runs.proofs.aggregates.first_bad_number.Goals.{then-number-ne0, else-number-ne0}

pub loop-i-init : goal.loop-i-init
loop-i-init c = numbers_none _ _ _

pub returns-then-bad_number : goal.returns-then-bad_number
returns-then-bad_number c = bad_number_found _ _ _ _ c.loop-i.invariant c.loop-i-test.true _ c.bad_number.ensures c.if-bad_number.true

pub loop-i-preserved : goal.loop-i-preserved
loop-i-preserved c =
    elim c.if-number-ne0.branch [
      | then-number-ne0 w ↦ number_passed _ _ _ _ c.loop-i.invariant c.loop-i-test.true _ c.bad_number.ensures c.if-bad_number.false _ _ (omega arith, λ some. omega arith) (omega arith, omega arith)
      | else-number-ne0 w ↦ number_passed _ _ _ _ c.loop-i.invariant c.loop-i-test.true _ c.bad_number.ensures c.if-bad_number.false _ _ (omega arith, λ some. omega arith) (omega arith, omega arith)
    ]
