-- The sum of the pricer's answer, or its refusal, for the run and the list that the rows hold.
use Rattle.std.proofs.Common.{rules}
use mathlib.Core.Path.{refl}
use Rattle.std.specs.Prelude.{Ok, Err}
use Rattle.std.proofs.lemmas.Result.{err_from_is_err_and}
use Rattle.sheet_runs.proofs.Runs.{held_by}
use Rattle.answer_check.proofs.Prices.{priced_held}
use Rattle.answer_check.proofs.pricing.priced.Goals as goal

pub returns-in_err-told : goal.returns-in_err-told
returns-in_err-told c =
    let p = err_from_is_err_and c.from_residual.result c.from_residual.ensures.1 in
    rw (p.1, p.2)
    (priced_held c.args.run c.args.list _
    (held_by c.args.run c.entries.ensures.result_value c.entries-2.ensures.result_value c.entries-3.ensures.result_value c.entries-4.ensures.result_value c.entries-5.ensures.result_value)
    _ _ c.entries-6.ensures.result_value c.entries-7.ensures.result_value (search rules) _ (search rules) (search rules) _ c.price_any-answer.ensures.value (Err c.in_err-told.field-0.0) c.in_err-told.ensures)

pub returns : goal.returns
returns c =
    priced_held c.args.run c.args.list _
    (held_by c.args.run c.entries.ensures.result_value c.entries-2.ensures.result_value c.entries-3.ensures.result_value c.entries-4.ensures.result_value c.entries-5.ensures.result_value)
    _ _ c.entries-6.ensures.result_value c.entries-7.ensures.result_value (search rules) _ (search rules) (search rules) _ c.price_any-answer.ensures.value (Ok c.price_any-answer.result.sum) (c.in_ok-told.ensures, refl)
