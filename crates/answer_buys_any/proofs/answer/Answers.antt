-- A refusal leaves the row, and else the sheet is handed out.
use mathlib.Core.Path.{refl, sym, ap, ◌∙◌}
use mathlib.Core.Bool.{true, false}
use Rattle.refusals.proofs.Checked.{passed, stopped}
use Rattle.sheet_writer.specs.Writing.{written_of}
use Rattle.answer_buys_any.proofs.Laws.{figures_refused, figures_written}
use Rattle.answer_buys_any.proofs.answer.Goals as goal

pub returns-in-Err : goal.returns-in-Err
returns-in-Err c =
    let a = c.args in
    let s = stopped _ _ c.in-Err.ensures in
    figures_refused a.sheet.now _ c.read_run-run.ensures a.room.now c.list_any-planned.result _ c.list_any-planned.ensures true (sym s.so) refl a.out.now _ (c.answer_to.ensures ∙ ap (λ v. written_of v 0) (sym s.is))

pub returns : goal.returns
returns c =
    let a = c.args in
    figures_written a.sheet.now _ c.read_run-run.ensures a.room.now c.list_any-planned.result _ c.list_any-planned.ensures false (sym (passed _ _ (sym c.in_default.is ∙ c.told.ensures))) refl a.out.now _ _ c.write_any.ensures
