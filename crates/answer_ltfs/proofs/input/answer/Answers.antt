-- The lines of a refusal, or the sheet and the files left out.
use mathlib.Core.Path.{refl, sym, ◌∙◌, subst}
use native.Mathlib.Omega.{arith}
use Rattle.refusals.proofs.Checked.{passed, stopped}
use Rattle.sheet_writer.specs.RefusalLines.{RefusalWritten}
use Rattle.sheet_writer.proofs.Sheets.{part_length}
use Rattle.answer_ltfs.proofs.Framing.{answer_refused, sheet_fits, sheet_part, answer_handed}
use Rattle.answer_ltfs.proofs.input.answer.Goals as goal

pub returns-in-Err : goal.returns-in-Err
returns-in-Err c =
    let s = stopped _ _ c.in-Err.ensures in
    answer_refused _ _ _ _ c.draft-report.ensures _ (sym s.so) refl _ _ _ _
    (subst (λ v. RefusalWritten v c.args.out.now c.write_refusal-lines.result c.write_refusal-lines.new.out) (sym s.is) c.write_refusal-lines.ensures)

pub slice_bounds-page-end : goal.slice_bounds-page-end
slice_bounds-page-end c = omega (arith, sheet_fits _ _ _ _ c.draft-report.ensures _ (sym (passed _ _ (sym c.in_default.is ∙ c.told.ensures))) refl)

pub slice_bounds-hand_both-end : goal.slice_bounds-hand_both-end
slice_bounds-hand_both-end c = sheet_part _ _ _ _ c.draft-report.ensures _ (sym (passed _ _ (sym c.in_default.is ∙ c.told.ensures))) refl

pub slice_bounds-hand_both-end-2 : goal.slice_bounds-hand_both-end-2
slice_bounds-hand_both-end-2 c = part_length _ _ _ _ _ c.put_left_out-noted.ensures

pub returns : goal.returns
returns c = answer_handed _ _ _ _ c.draft-report.ensures _ (sym (passed _ _ (sym c.in_default.is ∙ c.told.ensures))) refl _ _ _ _ _ c.put_left_out-noted.ensures _ _ _ c.hand_both.ensures
