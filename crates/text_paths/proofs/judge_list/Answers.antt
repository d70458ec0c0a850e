use Rattle.std.proofs.Common.{ap, ◌∙◌}
use Rattle.refusals.specs.Refusals.{checked}
use Rattle.text_paths.proofs.Asked.{list_bad, list_ended}
use Rattle.text_paths.proofs.judge_list.Goals as goal

pub returns-in-Err : goal.returns-in-Err
returns-in-Err c = c.at.ensures ∙ ap checked (list_bad _ _ c.count_lines-count.ensures _ c.in-Err.ensures)

pub returns-in-Ok : goal.returns-in-Ok
returns-in-Ok c = c.when.ensures ∙ ap checked (list_ended _ _ c.count_lines-count.ensures _ c.in-Ok.ensures)
