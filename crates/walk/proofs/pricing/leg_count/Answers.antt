use Rattle.std.proofs.Common.{sym, ◌∙◌}
use borrow.Author.Tests.{eqb-true, eqb-false}
use Rattle.walk.proofs.Legs.{no_legs_lem, legs_count}
use Rattle.walk.proofs.pricing.leg_count.Goals as goal

pub returns-then-is_empty : goal.returns-then-is_empty
returns-then-is_empty c = λ m s l a tos reach even. no_legs_lem m s l a _ _ tos reach even (eqb-true _ _ (sym c.is_empty.ensures ∙ c.if-is_empty.true)) c.requires

pub returns : goal.returns
returns c = λ m s l a tos reach even. legs_count m s l a _ _ tos reach even (eqb-false _ _ (sym c.is_empty.ensures ∙ c.if-is_empty.false))
