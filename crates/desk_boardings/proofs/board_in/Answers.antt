-- A row that passes is answered by the plan of the boarders' wants.
use mathlib.Core.Path.{sym, ◌∙◌}
use Rattle.desk_boardings.proofs.Answers.{run_boarded}
use Rattle.desk_boardings.proofs.board_in.Goals as goal

pub returns : goal.returns
returns c =
    let said = sym c.in_default.is ∙ c.judge_row.ensures in
    run_boarded _ _ _ _ _ _ _ said _ _ _ c.wants_of-wants.ensures c.plan-answer.ensures c.boarded_by.ensures
