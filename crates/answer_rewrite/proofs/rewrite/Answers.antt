use Rattle.std.proofs.Common.{length, ap, sym, ◌∙◌}
use Rattle.refusals.proofs.Checked.{passed}
use Rattle.answer_rewrite.proofs.Answers.{unread, refused_result, rewritten_so}
use Rattle.answer_rewrite.proofs.rewrite.Goals as goal

pub returns-in-Err : goal.returns-in-Err
returns-in-Err c = unread _ c.args.out.now _ c.in-Err.ensures _ c.unwritten.ensures

pub empty_price-price-requires : goal.empty_price-price-requires
empty_price-price-requires c = passed _ _ (sym c.in_default.is ∙ c.judge.ensures)

pub returns-in-Err-judge_result : goal.returns-in-Err-judge_result
returns-in-Err-judge_result c =
    let read = sym c.in_default.is ∙ c.judge.ensures in
    let long = c.bytes_with-bytes.ensures ∙ ap length c.empty_price-price.ensures.result in
    refused_result _ c.args.out.now _ read _ long _ c.in-Err-judge_result.ensures _ c.unwritten-in-Err-judge_result.ensures

pub returns : goal.returns
returns c =
    let read = sym c.in_default.is ∙ c.judge.ensures in
    let long = c.bytes_with-bytes.ensures ∙ ap length c.empty_price-price.ensures.result in
    rewritten_so _ c.args.out.now _ read _ long _ (sym c.in_default-judge_result.is ∙ c.judge_result.ensures) _ _ c.empty_price-price.ensures.result c.fill.ensures
