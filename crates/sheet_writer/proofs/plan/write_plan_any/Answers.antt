-- 1 to 7, then 13, then 10 as the pricer gives it, then 8, then the sheet.
use Rattle.std.proofs.Common.{rules}
use mathlib.Core.Path.{sym, ◌∙◌}
use native.Mathlib.Omega.{arith}
use Rattle.runs.proofs.Accepted.{counted_exact}
use Rattle.sheet_writer.proofs.Sheets.{refused_handed, page_handed}
use Rattle.sheet_writer.proofs.Plans.{plan_refused, plan_good, plan_list_refused, plan_last, times_length, legs_length, plan_fits, plan_wrote}
use Rattle.sheet_writer.proofs.plan.write_plan_any.Goals as goal

pub returns-in-Err : goal.returns-in-Err
returns-in-Err c = refused_handed _ _ _ _ _ _ (plan_refused _ _ _ _ _ _ c.in-Err.ensures) c.answer_to.ensures

pub returns-in-Err-told : goal.returns-in-Err-told
returns-in-Err-told c =
    let good = sym c.in_default.is ∙ c.judge_plan-judged.ensures in
    refused_handed _ _ _ _ _ _
    (plan_list_refused _ _ _ _ _ _ good _ _ (search rules) (search rules) _ c.price_any-answer.ensures.value _ c.in-Err-told.ensures)
    c.answer_to-in-Err-told.ensures

pub slice_bounds-times-end : goal.slice_bounds-times-end
slice_bounds-times-end c =
    let good = sym c.in_default.is ∙ c.judge_plan-judged.ensures in
    omega (arith, (plan_good _ _ c.args.froms.now c.args.tos.now c.args.out.now _ good).run.wants.few)

pub slice_bounds-put_plan-end-2 : goal.slice_bounds-put_plan-end-2
slice_bounds-put_plan-end-2 c =
    let good = sym c.in_default.is ∙ c.judge_plan-judged.ensures in
    let price = c.price_any-answer.ensures in
    times_length _ _ _ _ c.args.out.now _ good _ _ (search rules) (search rules) _ price.value _ (sym c.in_default-told.is ∙ c.told.ensures) _ _ price.legs_value

pub slice_bounds-legs-end : goal.slice_bounds-legs-end
slice_bounds-legs-end c =
    let good = sym c.in_default.is ∙ c.judge_plan-judged.ensures in
    omega (arith, (plan_good _ _ c.args.froms.now c.args.tos.now c.args.out.now _ good).run.wants.few)

pub slice_bounds-put_plan-end-3 : goal.slice_bounds-put_plan-end-3
slice_bounds-put_plan-end-3 c =
    let good = sym c.in_default.is ∙ c.judge_plan-judged.ensures in
    let price = c.price_any-answer.ensures in
    legs_length _ _ _ _ c.args.out.now _ good _ _ (search rules) (search rules) _ price.value _ (sym c.in_default-told.is ∙ c.told.ensures) _ _ price.legs_value

pub put_plan-bytes-requires : goal.put_plan-bytes-requires
put_plan-bytes-requires c =
    let good = sym c.in_default.is ∙ c.judge_plan-judged.ensures in
    let price = c.price_any-answer.ensures in
    plan_fits _ _ _ _ c.args.out.now _ good _ _ (search rules) (search rules) _ price.value _ (sym c.in_default-told.is ∙ c.told.ensures) _ _ price.legs_value _ (search rules)

pub returns : goal.returns
returns c =
    let good = sym c.in_default.is ∙ c.judge_plan-judged.ensures in
    let listed = sym c.in_default-told.is ∙ c.told.ensures in
    let price = c.price_any-answer.ensures in
    let reads = counted_exact c.args.counts.now (plan_good _ _ c.args.froms.now c.args.tos.now c.args.out.now _ good).run.wants.reads in
    let wrote =
    plan_wrote _ _ _ _ c.args.out.now _ good _ _ (search rules) (search rules) _ price.value _ listed _ _ price.legs_value
    _ (c.count_reads.ensures ∙ reads) _ _ _ c.put_plan-bytes.ensures in
    page_handed _ _ _ _ _ wrote _ _ (plan_last _ _ _ _ _ _ good _ _ (search rules) (search rules) _ price.value _ listed) _ _ c.hand_out.ensures
