-- The two lines of a refusal, else the sheet.
use mathlib.Core.Path.{refl, sym, subst, ◌∙◌}
use mathlib.Core.Bool.{true, false}
use Rattle.refusals.proofs.Checked.{passed, stopped}
use Rattle.sheet_writer.specs.RefusalLines.{RefusalWritten}
use Rattle.answer_buys_any.proofs.Laws.{bought_refused, bought_figures}
use Rattle.answer_buys_any.proofs.buys_any.Goals as goal

pub returns-in-Err : goal.returns-in-Err
returns-in-Err c =
    let a = c.args in
    let s = stopped _ _ c.in-Err.ensures in
    let w = c.write_refusal-lines in
    bought_refused a.sheet.now _ c.read_run-run.ensures a.room.now c.list_any-list.result _ c.list_any-list.ensures true (sym s.so) refl a.out.now w.result _
    (subst (λ v. RefusalWritten v a.out.now w.result w.new.out) (sym s.is) w.ensures)

pub returns : goal.returns
returns c =
    let a = c.args in
    bought_figures a.sheet.now _ c.read_run-run.ensures a.room.now c.list_any-list.result _ c.list_any-list.ensures false (sym (passed _ _ (sym c.in_default.is ∙ c.told.ensures))) refl a.out.now c.write_any-text.result _ c.write_any-text.ensures
