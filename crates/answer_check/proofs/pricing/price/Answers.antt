-- The two lines of the first refusal, else the list's plan sheet.
use mathlib.Core.Path.{refl, sym, ap, ◌∙◌}
use mathlib.Core.Bool.{true, false}
use Rattle.refusals.proofs.Checked.{passed, stopped}
use Rattle.refusals.proofs.Verdicts.{refuses}
use Rattle.answer_check.proofs.Prices.{price_refused, price_written}
use Rattle.answer_check.proofs.pricing.price.Goals as goal

pub returns-in-Err : goal.returns-in-Err
returns-in-Err c =
    let a = c.args in
    let s = stopped _ _ c.in-Err.ensures in
    price_refused _ c.read_run-run.result c.read_run-run.ensures a.list.now _ c.read_list-handed.result c.read_list-handed.ensures _ (sym s.is) true (sym (ap refuses (sym s.is) ∙ s.so)) refl c.write_refusal-lines.result _ c.write_refusal-lines.ensures

pub returns : goal.returns
returns c =
    let a = c.args in
    price_written _ c.read_run-run.result c.read_run-run.ensures a.list.now _ c.read_list-handed.result c.read_list-handed.ensures _ refl false (sym (passed _ _ (sym c.in_default.is ∙ c.judged.ensures))) refl c.write_any-text.result _ c.write_any-text.ensures
