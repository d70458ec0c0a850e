-- At the first entry and past the row none does; else the two numbers are compared.
use mathlib.Core.Path.{sym}
use Rattle.runs.proofs.Members.{goes_on_zero, goes_on_past, goes_on_row}
use Rattle.runs.proofs.aggregates.goes_on.Goals as goal

pub returns-then-i-eq0 : goal.returns-then-i-eq0
returns-then-i-eq0 c = rw c.if-i-eq0.true (sym (goes_on_zero _))

pub returns-then-aggregates-i : goal.returns-then-aggregates-i
returns-then-aggregates-i c = sym (goes_on_past _ _ c.if-aggregates-i.true)

pub returns : goal.returns
returns c = rw (goes_on_row c.args.aggregates.now c.args.i c.if-i-eq0.false) c.same_aggregate.ensures
