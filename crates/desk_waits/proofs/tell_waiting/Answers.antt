-- The table's refusal, or its text.
use mathlib.Core.Path.{sym, ◌∙◌}
use Rattle.std.proofs.Common.{rules}
use Rattle.desk_waits.proofs.Told.{not_told, told, waiters_so}
use Rattle.desk_waits.proofs.tell_waiting.Goals as goal

pub returns-in-Err : goal.returns-in-Err
returns-in-Err c = not_told _ _ _ _ c.in-Err.ensures _ c.answer_to.ensures

pub say_waiting-requires : goal.say_waiting-requires
say_waiting-requires c =
    let said = sym c.in_default.is ∙ c.judge_row.ensures in
    waiters_so _ _ c.args.out.now _ said (search rules) _ _ c.count_waiting-ones.ensures c.count_waiting-twos.ensures

pub returns : goal.returns
returns c = told _ _ _ _ (sym c.in_default.is ∙ c.judge_row.ensures) _ _ c.say_waiting.ensures
