-- 1 to 7, then 13, then 8, then the sheet.
use Rattle.std.proofs.Common.{rules}
use mathlib.Core.Path.{sym, ◌∙◌}
use Rattle.sheet_writer.proofs.Sheets.{refused_handed, write_refused, sheet_fits, sheet_last, page_handed}
use Rattle.sheet_writer.proofs.writer.write_sheet.Goals as goal

pub returns-in-Err : goal.returns-in-Err
returns-in-Err c = refused_handed _ _ _ _ _ _ (write_refused _ _ _ _ c.in-Err.ensures) c.answer_to.ensures

pub put_sheet-bytes-requires : goal.put_sheet-bytes-requires
put_sheet-bytes-requires c = sheet_fits _ _ c.args.out.now _ (sym c.in_default.is ∙ c.judge_sheet-judged.ensures) _ (search rules)

pub returns : goal.returns
returns c =
    page_handed _ _ _ _ _ c.put_sheet-bytes.ensures _ _ (sheet_last _ _ c.args.out.now _ (sym c.in_default.is ∙ c.judge_sheet-judged.ensures)) _ _ c.hand_out.ensures
