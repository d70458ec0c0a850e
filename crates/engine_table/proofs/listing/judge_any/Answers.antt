-- The number of files, then the judging with the head at the end of the tape.
use mathlib.Core.Path.{ap, ◌∙◌}
use Rattle.std.proofs.lemmas.Result.{err_from_is_err_and}
use Rattle.refusals.specs.Refusals.{checked}
use Rattle.runs.specs.Alone.{alone_of}
use Rattle.runs.specs.Judging.{judge_of}
use Rattle.engine_table.proofs.Refusals.{table_refused, table_judged}
use Rattle.engine_table.proofs.listing.judge_any.Goals as goal

pub returns-in_err-when : goal.returns-in_err-when
returns-in_err-when c =
    let p = err_from_is_err_and c.from_residual.result c.from_residual.ensures.1 in
    rw (p.1, p.2) (table_refused _ _ c.in_err-when.ensures)

pub returns : goal.returns
returns c =
    let a = c.args in
    table_judged (alone_of a.starts.now a.lengths.now a.numbers.now a.counts.now a.head a.turn) _ c.in_ok-when.ensures _
    (c.judge_alone.ensures
    ∙ ap (λ h. checked (judge_of (alone_of a.starts.now a.lengths.now a.numbers.now a.counts.now h a.turn))) c.lift_head.ensures)
