-- Both texts in the rows, or neither.
use Rattle.answer_ltfs.proofs.Framing.{out_short, notes_short, both_put}
use Rattle.answer_ltfs.proofs.input.hand_both.Goals as goal

pub returns-then-out-text : goal.returns-then-out-text
returns-then-out-text c = out_short _ _ _ _ c.if-out-text.true

pub returns-then-notes-report : goal.returns-then-notes-report
returns-then-notes-report c = notes_short _ _ _ _ c.if-notes-report.true

pub returns : goal.returns
returns c =
    both_put _ _ _ _ c.if-out-text.false c.if-notes-report.false _ _ _ _ c.put.ensures c.put-2.ensures
