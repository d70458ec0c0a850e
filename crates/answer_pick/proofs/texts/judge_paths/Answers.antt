use Rattle.answer_pick.proofs.Judging.{list_passed, list_stopped}
use Rattle.answer_pick.proofs.texts.judge_paths.Goals as goal

pub returns-in-Ok : goal.returns-in-Ok
returns-in-Ok c = list_passed _ _ c.in-Ok.ensures

pub returns-in-Err : goal.returns-in-Err
returns-in-Err c = list_stopped _ _ c.in-Err.ensures _ c.numbered.ensures
