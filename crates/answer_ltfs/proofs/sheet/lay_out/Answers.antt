-- The files are counted, and the checks are made on what was counted.
use mathlib.Core.Path.{sym, ap, ◌∙◌}
use lib.Seq.{length-take-le}
use Rattle.std.proofs.Common.{rules}
use Rattle.refusals.proofs.Checked.{passed, stopped}
use Rattle.answer_ltfs.specs.TapeTable.{refused_report}
use Rattle.answer_ltfs.proofs.Laid.{laid_refused, laid_passed, laid_ends, laid_out, kept_few}
use Rattle.answer_ltfs.proofs.sheet.lay_out.Goals as goal

pub returns-in-Err : goal.returns-in-Err
returns-in-Err c =
    let s = stopped _ _ c.in-Err.ensures in
    let a = laid_refused c.args.name.now c.args.size c.args.partition _ c.args.out.now c.gather-tally.result _ _ c.gather-tally.ensures (record { first = c.gather-tally.auto.starts; second = c.gather-tally.auto.lengths }) s.so in
    record { value = c.refusal_of.ensures ∙ ap refused_report (sym s.is) ∙ a.0; out_after = a.1 }

pub last_end-head-requires-clause-kept_bound : goal.last_end-head-requires-clause-kept_bound
last_end-head-requires-clause-kept_bound c = c.gather-tally.ensures.within

pub last_end-head-requires-clause-ends_fit : goal.last_end-head-requires-clause-ends_fit
last_end-head-requires-clause-ends_fit c =
    let p = laid_passed c.args.name.now c.args.size c.args.partition _ c.args.out.now c.gather-tally.result _ _ c.gather-tally.ensures (passed _ _ (sym c.in_default.is ∙ c.judge_files-judged.ensures)) in
    laid_ends c.args.name.now c.args.size c.args.partition _ c.args.out.now c.gather-tally.result _ _ c.gather-tally.ensures p.0 p.1 p.2 (record { first = c.gather-tally.auto.starts; second = c.gather-tally.auto.lengths })

pub slice_bounds-write_table-end : goal.slice_bounds-write_table-end
slice_bounds-write_table-end c =
    let w = c.gather-tally.ensures.within in
    sym (length-take-le _ _ (search rules))

pub slice_bounds-write_table-end-2 : goal.slice_bounds-write_table-end-2
slice_bounds-write_table-end-2 c =
    let w = c.gather-tally.ensures.within in
    sym (length-take-le _ _ (search rules))

pub write_table-written-requires : goal.write_table-written-requires
write_table-written-requires c = kept_few _ _ _ c.gather-tally.ensures.within

pub returns : goal.returns
returns c =
    let p = laid_passed c.args.name.now c.args.size c.args.partition _ c.args.out.now c.gather-tally.result _ _ c.gather-tally.ensures (passed _ _ (sym c.in_default.is ∙ c.judge_files-judged.ensures)) in
    let a = laid_out c.args.name.now c.args.size c.args.partition _ c.args.out.now c.gather-tally.result _ _ c.gather-tally.ensures p.0 p.1 p.2 (record { first = c.gather-tally.auto.starts; second = c.gather-tally.auto.lengths }) c.requires (sym p.3) _ c.last_end-head.ensures _ _ c.write_table-written.ensures in
    record { value = c.report_of.ensures ∙ a.0; out_after = a.1 }
