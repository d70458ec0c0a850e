-- 3 and 5, then the texts.
use mathlib.Core.Path.{sym, ◌∙◌}
use Rattle.answer_mend.proofs.Answers.{wants_none, wants_writable, wants_handed}
use Rattle.answer_mend.proofs.mend_wants.Goals as goal

pub returns-in-Err : goal.returns-in-Err
returns-in-Err c = wants_none _ _ _ _ c.requires _ _ c.gather-many.ensures _ _ _ _ _ c.in-Err.ensures _ c.unmended.ensures

pub write_mended-requires : goal.write_mended-requires
write_mended-requires c = wants_writable _ _ _ _ c.requires _ _ c.gather-many.ensures _ (sym c.in_default.is ∙ c.judge_wants.ensures)

pub returns : goal.returns
returns c = wants_handed _ _ _ _ c.requires _ _ c.gather-many.ensures _ _ _ _ _ (sym c.in_default.is ∙ c.judge_wants.ensures) _ _ _ c.write_mended.ensures
