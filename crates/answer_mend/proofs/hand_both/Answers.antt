-- 12, then 8, or both texts in the rows.
use mathlib.Core.Path.{sym, ◌∙◌}
use Rattle.answer_mend.proofs.Answers.{handed_none, both_put}
use Rattle.answer_mend.proofs.hand_both.Goals as goal

pub returns-in-Err : goal.returns-in-Err
returns-in-Err c = handed_none _ _ _ _ _ _ c.in-Err.ensures _ c.unmended.ensures

pub returns : goal.returns
returns c = both_put _ _ _ _ _ (sym c.in_default.is ∙ c.judge_texts-judged.ensures) _ _ _ _ c.put.ensures c.put-2.ensures
