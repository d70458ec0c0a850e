-- 01's judging with the head at the end of the tape.
use mathlib.Core.Path.{sym, ap, ◌∙◌}
use Rattle.refusals.specs.Refusals.{checked}
use Rattle.runs.specs.Run.{run_of}
use Rattle.runs.specs.Judging.{judge_of}
use Rattle.runs.proofs.AnyHead.{judge_any_lem}
use Rattle.sheet_writer.proofs.plan.judge_any.Goals as goal

pub returns : goal.returns
returns c =
    let a = c.args in
    let run = run_of a.starts.now a.lengths.now a.aggregates.now a.numbers.now a.counts.now in
    c.judge.ensures ∙ ap (λ m. checked (judge_of (run m a.turn))) c.lift_head-lifted.ensures ∙ ap checked (sym (judge_any_lem (run a.head a.turn)))
