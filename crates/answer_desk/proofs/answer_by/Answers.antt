-- By whether the text was written.
use mathlib.Core.Path.{sym, ◌∙◌}
use Rattle.refusals.proofs.Checked.{passed, stopped}
use Rattle.answer_desk.proofs.answer_by.Goals as goal

pub returns-in-Err : goal.returns-in-Err
returns-in-Err c = let s = stopped _ _ c.in-Err.ensures in rw (s.so, s.is) c.refuse.ensures

pub returns : goal.returns
returns c = rw (passed _ _ (sym c.in_default.is ∙ c.told.ensures), c.accepted.ensures)
