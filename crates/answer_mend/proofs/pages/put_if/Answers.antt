use Rattle.answer_mend.proofs.Texts.{change_said, change_unsaid}
use Rattle.answer_mend.proofs.pages.put_if.Goals as goal

pub returns-then-changed : goal.returns-then-changed
returns-then-changed c = change_said _ _ _ _ _ c.args.word.now _ c.if-changed.true c.put_change.ensures

pub returns : goal.returns
returns c = change_unsaid _ _ _ c.args.word.now _ c.if-changed.false
