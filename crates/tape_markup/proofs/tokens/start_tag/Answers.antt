use Rattle.std.proofs.Common.{sym, ◌∙◌}
use Rattle.tape_markup.proofs.Pieces.{start_never, alone_step, opens_step}
use Rattle.tape_markup.proofs.tokens.start_tag.Goals as goal

pub returns-in_default : goal.returns-in_default
returns-in_default c = start_never _ _ _ _ c.behind_name-to.ensures.0 c.if-from-to.false c.in_default.ensures

pub returns-then-is_alone : goal.returns-then-is_alone
returns-then-is_alone c = alone_step _ _ _ _ c.behind_name-to.ensures.0 _ c.if-from-to.false c.in-Some.ensures (sym c.is_alone.ensures ∙ c.if-is_alone.true)

pub returns : goal.returns
returns c = opens_step _ _ _ _ c.behind_name-to.ensures.0 _ c.if-from-to.false c.in-Some.ensures (sym c.is_alone.ensures ∙ c.if-is_alone.false)
