-- The texts are judged, then the files of the index decide.
use mathlib.Core.Path.{sym, ap, ◌∙◌}
use Rattle.refusals.proofs.Checked.{passed, stopped}
use Rattle.answer_ltfs.specs.TapeTable.{refused_report}
use Rattle.answer_ltfs.proofs.Laid.{sheet_refused, sheet_passed, sheet_laid}
use Rattle.answer_ltfs.proofs.sheet.table_sheet.Goals as goal

pub returns-in-Err : goal.returns-in-Err
returns-in-Err c =
    let s = stopped _ _ (rw c.read_label-read.ensures at c.in-Err.ensures) in
    let a = sheet_refused c.args.name.now c.args.label.now c.args.index.now c.args.out.now s.so in
    record { value = c.refusal_of.ensures ∙ ap refused_report (sym s.is) ∙ a.0; out_after = a.1 }

pub lay_out-requires : goal.lay_out-requires
lay_out-requires c = (sheet_passed c.args.name.now c.args.label.now c.args.index.now c.args.out.now (passed _ _ (rw c.read_label-read.ensures at (sym c.in_default.is ∙ c.judge_texts.ensures)))).0

pub returns : goal.returns
returns c =
    let p = sheet_passed c.args.name.now c.args.label.now c.args.index.now c.args.out.now (passed _ _ (rw c.read_label-read.ensures at (sym c.in_default.is ∙ c.judge_texts.ensures))) in
    let a =
    sheet_laid c.args.name.now c.args.label.now c.args.index.now c.args.out.now p.0 p.1 _ _ (rw c.read_label-read.ensures at c.value_in-size.ensures) (rw c.read_label-read.ensures at c.value_in-partition.ensures) _ _
    c.lay_out.ensures.value c.lay_out.ensures.out_after in
    record { value = a.0; out_after = a.1 }
