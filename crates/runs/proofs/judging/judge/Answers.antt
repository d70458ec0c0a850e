-- The table, the wants and the head in turn.
use mathlib.Core.Path.{◌∙◌, ap, sym}
use Rattle.std.proofs.lemmas.Result.{err_from_is_err_and}
use Rattle.refusals.specs.Refusals.{checked, first_of}
use Rattle.refusals.proofs.Checked.{passed}
use Rattle.runs.specs.Run.{run_of}
use Rattle.runs.specs.Judging.{head_checks}
use Rattle.runs.proofs.Judged.{judged_by_table, judged_by_wants, judged_by_head, accepted_table, accepted_wants, wants_named}
use Rattle.runs.proofs.judging.judge.Goals as goal

pub returns-in_err-judge_table : goal.returns-in_err-judge_table
returns-in_err-judge_table c =
    let a = c.args in
    let p = err_from_is_err_and c.from_residual.result c.from_residual.ensures.1 in
    rw (p.1, p.2) (judged_by_table (run_of a.starts.now a.lengths.now a.aggregates.now a.numbers.now a.counts.now a.head a.turn) _ c.in_err-judge_table.ensures)

pub returns-in_err-judge_wants : goal.returns-in_err-judge_wants
returns-in_err-judge_wants c =
    let a = c.args in
    let p = err_from_is_err_and c.from_residual-in_err-judge_wants.result c.from_residual-in_err-judge_wants.ensures.1 in
    rw (p.1, p.2) (judged_by_wants (run_of a.starts.now a.lengths.now a.aggregates.now a.numbers.now a.counts.now a.head a.turn) _ c.in_ok-judge_table.ensures _ c.in_err-judge_wants.ensures)

pub right_end_joined-requires-clause-sound_table : goal.right_end_joined-requires-clause-sound_table
right_end_joined-requires-clause-sound_table c = (accepted_table _ _ _ (passed _ _ c.in_ok-judge_table.ensures)).table

pub right_end_joined-requires-clause-starts_len : goal.right_end_joined-requires-clause-starts_len
right_end_joined-requires-clause-starts_len c = (accepted_table _ _ _ (passed _ _ c.in_ok-judge_table.ensures)).rows

pub right_end_joined-requires-clause-by_index : goal.right_end_joined-requires-clause-by_index
right_end_joined-requires-clause-by_index c = wants_named _ _ _ (accepted_wants _ _ _ (passed _ _ c.in_ok-judge_wants.ensures))

pub returns : goal.returns
returns c =
    let a = c.args in
    let wants = accepted_wants _ a.numbers.now a.counts.now (passed _ _ c.in_ok-judge_wants.ensures) in
    judged_by_head (run_of a.starts.now a.lengths.now a.aggregates.now a.numbers.now a.counts.now a.head a.turn) _ c.in_ok-judge_table.ensures _ c.in_ok-judge_wants.ensures _
    (c.judge_head.ensures ∙ ap (λ e. checked (first_of (head_checks a.turn a.head e))) (c.right_end_joined.ensures a.counts.now (sym wants.equal)))
