use Rattle.std.proofs.Common.{rules}
use Rattle.tape_markup.proofs.Pieces.{close_over, close_other, close_step}
use Rattle.tape_markup.proofs.tokens.end_tag.Goals as goal
use Rattle.tape_markup.proofs.tokens.end_tag.Goals.{then-end-text-via-then-end-text, then-end-text-via-else-end-text+then-text-end-ne62}

pub returns-then-end-text : goal.returns-then-end-text
returns-then-end-text c =
    elim c.then-end-text.branch [
      | then-end-text-via-then-end-text w ↦ close_over _ _ _ _ c.behind_name-to.ensures.0 _ c.if-from-to.false c.behind_blanks-end.ensures.0 (search rules)
      | then-end-text-via-else-end-text+then-text-end-ne62 w ↦ close_other _ _ _ _ c.behind_name-to.ensures.0 _ c.if-from-to.false c.behind_blanks-end.ensures.0 w.if-text-end-ne62.true
    ]

pub returns : goal.returns
returns c = close_step _ _ _ _ c.behind_name-to.ensures.0 _ c.if-from-to.false c.behind_blanks-end.ensures.0 c.if-text-end-ne62.false
