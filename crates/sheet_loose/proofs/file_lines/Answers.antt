use Rattle.sheet_loose.proofs.Passing.{block_full, block_part, block_never}
use Rattle.sheet_loose.proofs.file_lines.Goals as goal

pub returns-in-Ok : goal.returns-in-Ok
returns-in-Ok c = block_full _ _ _ _ _ c.in-Ok.ensures

pub returns-in-Ok-triple_lines : goal.returns-in-Ok-triple_lines
returns-in-Ok-triple_lines c = block_part _ _ _ _ _ c.in-Err.ensures _ c.in-Ok-triple_lines.ensures

pub returns-in-Err-triple_lines : goal.returns-in-Err-triple_lines
returns-in-Err-triple_lines c = absurd (block_never _ _ _ _ _ c.in-Err.ensures _ c.in-Err-triple_lines.ensures)
