-- `answer_month::add_longest` meets its contract.
-- Assumes nothing.
use Prim.Native.Nat.{◌≤◌, ◌<◌}
use native.Mathlib.Omega.{arith}
use borrow.Author.Tests.{lt-ltb, le-ltb}
use Rattle.answer_month.specs.Month.{with_longest}
use Rattle.answer_month.proofs.add_longest.Statement.{statement}
use Rattle.answer_month.proofs.add_longest.Tie as tie

returns : tie.Need-returns-then-run-month
unfolding with_longest
returns c =
    let a = c.args in
    let shorter : a.run.time ≤ a.month.time = omega (arith, c.if-run-month.true) in
    simp (le-ltb a.month.time a.run.time shorter)

returns-2 : tie.Need-returns
unfolding with_longest
returns-2 c =
    let a = c.args in
    let longer : a.month.time < a.run.time = omega (arith, c.if-run-month.false) in
    simp (lt-ltb a.month.time a.run.time longer)

pub add_longest_spec : {M : Type 1} → statement M
add_longest_spec = tie.close (tie.spec
    returns
    returns-2)
