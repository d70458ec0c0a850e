-- A refusal where the planner refuses, else what its list and times come to.
use mathlib.Core.Path.{sym, ap, ◌∙◌}
use mathlib.Core.List.{[]}
use native.Mathlib.Omega.{arith}
use lib.Seq.{length-take-le}
use Rattle.refusals.proofs.Checked.{passed, stopped}
use Rattle.answer_outcome.specs.Outcomes.{refused_outcome}
use Rattle.answer_outcome.proofs.Plans.{run_refused, judged, few_times, saves, name_fits, run_planned}
use Rattle.answer_outcome.proofs.run_outcome.Goals as goal

pub returns-in-Err : goal.returns-in-Err
returns-in-Err c =
    let s = stopped _ _ c.in-Err.ensures in
    run_refused _ _ c.timed_plan-timed.result c.timed_plan-timed.ensures s.so _ (c.refused_outcome.ensures ∙ ap (λ v. refused_outcome v.refusal) (sym s.is))

pub empty_sum-empty-requires : goal.empty_sum-empty-requires
empty_sum-empty-requires c = judged [] _ c.timed_plan-timed.result c.timed_plan-timed.ensures (passed _ _ (sym c.in_default.is ∙ c.told.ensures))

pub slice_bounds-times-end : goal.slice_bounds-times-end
slice_bounds-times-end c =
    omega (arith, few_times [] _ c.timed_plan-timed.result c.timed_plan-timed.ensures (passed _ _ (sym c.in_default.is ∙ c.told.ensures)), c.timed_plan-timed.ensures.long)

pub slice_bounds-longest_time-end : goal.slice_bounds-longest_time-end
slice_bounds-longest_time-end c =
    sym
    (length-take-le _ _
    (omega (arith, few_times [] _ c.timed_plan-timed.result c.timed_plan-timed.ensures (passed _ _ (sym c.in_default.is ∙ c.told.ensures)), c.timed_plan-timed.ensures.long)))

pub overflow_sub-result : goal.overflow_sub-result
overflow_sub-result c =
    omega (arith, saves [] _ c.timed_plan-timed.result c.timed_plan-timed.ensures (passed _ _ (sym c.in_default.is ∙ c.told.ensures)), c.empty_sum-empty.ensures)

pub letters_of-requires : goal.letters_of-requires
letters_of-requires c = name_fits _ c.requires

pub returns : goal.returns
returns c =
    run_planned _ _ c.timed_plan-timed.result c.timed_plan-timed.ensures (passed _ _ (sym c.in_default.is ∙ c.told.ensures)) _ _ _ _ c.count_reads.ensures c.empty_sum-empty.ensures
    c.longest_time-most.ensures c.letters_of.ensures
