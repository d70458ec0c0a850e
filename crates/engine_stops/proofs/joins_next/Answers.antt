-- The last want has no next; else the two aggregate numbers are compared.
use Rattle.std.proofs.Common.{◌-◌, get_or, ap, ◌∙◌, arith}
use lib.Dec.{eqb}
use native.Mathlib.Numerals.{add-one}
use Rattle.engine_stops.proofs.Joining.{next_none, next_zero, next_number}
use Rattle.engine_stops.proofs.joins_next.Goals as goal

pub returns-then-numbers-i : goal.returns-then-numbers-i
returns-then-numbers-i c = next_none _ _ c.requires.wants_fit _ c.if-numbers-i.true

pub overflow_sub-number : goal.overflow_sub-number
overflow_sub-number c = c.requires.wants_fit.named _ c.requires.i_in_bounds

pub bounds-aggregates-numbers : goal.bounds-aggregates-numbers
bounds-aggregates-numbers c = omega (arith, c.requires.wants_fit.named _ c.requires.i_in_bounds, c.requires.wants_fit.in_table _ c.requires.i_in_bounds)

pub returns-then-number-eq0 : goal.returns-then-number-eq0
returns-then-number-eq0 c = next_zero _ _ c.requires.wants_fit _ (omega (arith, c.if-numbers-i.false)) c.if-number-eq0.true

pub overflow_sub-result : goal.overflow_sub-result
overflow_sub-result c = c.requires.wants_fit.named _ c.if-numbers-i.false

pub bounds-aggregates-numbers-2 : goal.bounds-aggregates-numbers-2
bounds-aggregates-numbers-2 c = omega (arith, c.requires.wants_fit.named _ c.if-numbers-i.false, c.requires.wants_fit.in_table _ c.if-numbers-i.false)

pub returns : goal.returns
returns c =
    let a = c.args in
    ap (λ n. eqb (get_or a.aggregates.now (get_or a.numbers.now n 0 - 1) 0) (get_or a.aggregates.now (get_or a.numbers.now a.i 0 - 1) 0)) (add-one a.i)
    ∙ next_number _ _ c.requires.wants_fit _ (omega (arith, c.if-numbers-i.false)) c.if-number-eq0.false
