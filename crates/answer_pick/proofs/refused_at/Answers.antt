use Rattle.answer_pick.proofs.Judging.{refused_none, refused_some}
use Rattle.answer_pick.proofs.refused_at.Goals as goal

pub returns-then-place-eq0 : goal.returns-then-place-eq0
returns-then-place-eq0 c = refused_none c.args.place c.args.number c.if-place-eq0.true

pub returns : goal.returns
returns c = refused_some _ _ c.if-place-eq0.false
