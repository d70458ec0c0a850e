-- The two lines of a refusal, else the text of the run and the list that the rows hold.
use mathlib.Core.Path.{refl, sym, subst, ◌∙◌}
use mathlib.Core.Bool.{true, false}
use Rattle.refusals.proofs.Checked.{passed, stopped}
use Rattle.sheet_writer.specs.RefusalLines.{RefusalWritten}
use Rattle.sheet_figures.specs.FigureSheet.{FigureWritten}
use Rattle.answer_plan.proofs.Answered.{refusal_written, text_written}
use Rattle.answer_buys.proofs.write_list.Goals as goal

pub returns-in-Err : goal.returns-in-Err
returns-in-Err c =
    let a = c.args in
    let s = stopped _ _ c.in-Err.ensures in
    let w = c.write_refusal-lines in
    refusal_written FigureWritten a.sheet.now a.run a.list a.out.now true (sym s.so) refl w.result _ (subst (λ v. RefusalWritten v a.out.now w.result w.new.out) (sym s.is) w.ensures)

pub returns : goal.returns
returns c =
    let a = c.args in
    text_written FigureWritten a.sheet.now a.run a.list a.out.now false (sym (passed _ _ (sym c.in_default.is ∙ c.told.ensures))) refl c.tape_name.ensures.result_value c.entries.ensures.result_value c.entries-2.ensures.result_value
    c.write_text-text.result _ c.write_text-text.ensures
