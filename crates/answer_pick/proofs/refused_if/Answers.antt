use Rattle.answer_pick.proofs.refused_if.Goals as goal

pub returns-then-bad : goal.returns-then-bad
returns-then-bad c = simp c.if-bad.true

pub returns : goal.returns
returns c = simp c.if-bad.false
