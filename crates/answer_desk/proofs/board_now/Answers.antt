-- The boarding's refusal, or what it answers and leaves in the rows, said.
use mathlib.Core.Path.{sym, ◌∙◌}
use Rattle.std.proofs.Common.{rules}
use Rattle.refusals.proofs.Checked.{passed}
use Rattle.answer_desk.proofs.Leaving.{unmapped, who_leaves}
use Rattle.answer_desk.proofs.Rehearsing.{now_refused, now_told}
use Rattle.answer_desk.proofs.board_now.Goals as goal

pub returns-in-Err : goal.returns-in-Err
returns-in-Err c = now_refused _ _ _ _ _ _ _ _ c.board_in-done.ensures _ _ c.in-Err.ensures c.refuse.ensures

pub say_boarding-written-requires : goal.say_boarding-written-requires
say_boarding-written-requires c =
    who_leaves _ _ _ (search (rules, unmapped)) _ _ _ _ c.board_in-done.ensures (passed _ _ (sym c.in_default.is ∙ c.told.ensures))

pub returns : goal.returns
returns c = now_told _ _ _ _ _ _ _ _ c.board_in-done.ensures _ _ (sym c.in_default.is ∙ c.told.ensures) _ _ c.say_boarding-written.ensures c.answer_by.ensures
