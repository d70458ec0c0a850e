-- What is written of the list of the sheet's run is the answer to the sheet.
use Rattle.answer_plan.proofs.Answered.{recalled}
use Rattle.answer_plan.specs.Recall.{run_checks}
use Rattle.answer_plan.proofs.Planned.{run_judged}
use Rattle.answer_plan.proofs.recall.Goals as goal

pub returns : goal.returns
returns c = recalled run_checks run_judged _ _ c.read_run-run.ensures c.list_run-list.result c.list_run-list.ensures _ _ _ c.write_list.ensures
