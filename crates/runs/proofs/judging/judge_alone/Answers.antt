-- The table, the wants and the head in turn, as they were before there were aggregates.
use mathlib.Core.Path.{◌∙◌, ap, sym}
use Rattle.std.proofs.lemmas.Result.{err_from_is_err_and}
use Rattle.refusals.specs.Refusals.{checked, first_of}
use Rattle.refusals.proofs.Checked.{passed}
use Rattle.runs.specs.Judging.{head_checks}
use Rattle.runs.proofs.Judged.{accepted_places, accepted_wants, wants_named}
use Rattle.runs.proofs.Alone.{alone_by_table, alone_by_wants, alone_by_head}
use Rattle.runs.proofs.judging.judge_alone.Goals as goal

pub returns-in_err-judge_places : goal.returns-in_err-judge_places
returns-in_err-judge_places c =
    let a = c.args in
    let p = err_from_is_err_and c.from_residual.result c.from_residual.ensures.1 in
    rw (p.1, p.2) (alone_by_table a.starts.now a.lengths.now a.numbers.now a.counts.now a.head a.turn _ c.in_err-judge_places.ensures)

pub returns-in_err-judge_wants : goal.returns-in_err-judge_wants
returns-in_err-judge_wants c =
    let a = c.args in
    let p = err_from_is_err_and c.from_residual-in_err-judge_wants.result c.from_residual-in_err-judge_wants.ensures.1 in
    rw (p.1, p.2) (alone_by_wants a.starts.now a.lengths.now a.numbers.now a.counts.now a.head a.turn _ c.in_ok-judge_places.ensures _ c.in_err-judge_wants.ensures)

pub right_end-requires-clause-sound_table : goal.right_end-requires-clause-sound_table
right_end-requires-clause-sound_table c = accepted_places c.args.starts.now c.args.lengths.now (passed _ _ c.in_ok-judge_places.ensures)

pub right_end-requires-clause-by_index : goal.right_end-requires-clause-by_index
right_end-requires-clause-by_index c =
    let a = c.args in
    wants_named a.starts.now a.numbers.now a.counts.now (accepted_wants _ _ _ (passed _ _ c.in_ok-judge_wants.ensures))

pub returns : goal.returns
returns c =
    let a = c.args in
    let wants = accepted_wants _ a.numbers.now a.counts.now (passed _ _ c.in_ok-judge_wants.ensures) in
    alone_by_head a.starts.now a.lengths.now a.numbers.now a.counts.now a.head a.turn _ c.in_ok-judge_places.ensures _ c.in_ok-judge_wants.ensures _
    (c.judge_head.ensures ∙ ap (λ e. checked (first_of (head_checks a.turn a.head e))) (c.right_end.ensures a.counts.now (sym wants.equal)))
