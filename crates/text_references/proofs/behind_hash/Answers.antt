use mathlib.Core.Path.{sym, ◌∙◌}
use borrow.Author.Tests.{eq-eqb, ne_eqb}
use Rattle.text_references.proofs.Digits.{within_is}
use Rattle.text_references.proofs.behind_hash.Goals as goal

pub overflow_sub-byte : goal.overflow_sub-byte
overflow_sub-byte c = (within_is _ _ _ _ c.is_between.ensures c.if-is_between.true).low

pub returns-then-is_between : goal.returns-then-is_between
returns-then-is_between c = rw (c.from.ensures, sym c.is_between.ensures ∙ c.if-is_between.true)

pub returns-then-byte-eq120 : goal.returns-then-byte-eq120
returns-then-byte-eq120 c = rw (sym c.is_between.ensures ∙ c.if-is_between.false, eq-eqb _ _ c.if-byte-eq120.true)

pub returns : goal.returns
returns c = rw (sym c.is_between.ensures ∙ c.if-is_between.false, ne_eqb _ _ c.if-byte-eq120.false)
