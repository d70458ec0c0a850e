-- The run, then the name.
use Rattle.sheet_writer.proofs.Sheets.{judged_after}
use Rattle.sheet_writer.proofs.writer.judge_sheet.Goals as goal

pub returns : goal.returns
returns c = judged_after _ _ _ _ c.judge-run.ensures c.judge_name.ensures
