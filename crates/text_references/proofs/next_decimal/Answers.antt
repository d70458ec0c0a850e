use mathlib.Core.Path.{sym, ◌∙◌}
use native.Mathlib.Omega.{arith}
use Rattle.text_references.proofs.Digits.{within_is, decimal_more, decimal_none}
use Rattle.text_references.proofs.next_decimal.Goals as goal

pub overflow_mul-capped : goal.overflow_mul-capped
overflow_mul-capped c = omega (arith, c.capped.ensures)

pub overflow_sub-byte : goal.overflow_sub-byte
overflow_sub-byte c = (within_is _ _ _ _ c.is_between.ensures c.if-is_between.true).low

pub overflow_add-capped : goal.overflow_add-capped
overflow_add-capped c = omega (arith, c.capped.ensures, c.from.ensures)

pub returns-then-is_between : goal.returns-then-is_between
returns-then-is_between c = let s = c.args in decimal_more s.number s.byte _ (sym c.is_between.ensures ∙ c.if-is_between.true) (c.capped-then-is_between.ensures ∙ rw (c.from.ensures, c.capped.ensures))

pub returns : goal.returns
returns c = let s = c.args in decimal_none s.number s.byte (sym c.is_between.ensures ∙ c.if-is_between.false)
