-- A run that 01 refuses is refused so, and the plan of any other is the one from a head anywhere.
use mathlib.Core.Path.{sym, ◌∙◌}
use Rattle.refusals.proofs.Checked.{passed}
use Rattle.planner.proofs.Same.{run_refused, plan_same}
use Rattle.planner.proofs.plan.Goals as goal

pub returns-in-Err : goal.returns-in-Err
returns-in-Err c = run_refused _ _ _ c.in-Err.ensures _ c.refuse.ensures

pub returns : goal.returns
returns c = plan_same _ _ (passed _ _ (sym c.in_default.is ∙ c.judge-judged.ensures)) _ _ c.plan_any.ensures
