use Rattle.sheet_runs.proofs.Filling.{run_read_lem}
use Rattle.sheet_runs.proofs.read_run.Goals as goal

pub returns : goal.returns
returns c = run_read_lem _ c.read_sheet-read.result _ c.read_sheet-read.ensures c.said_by.result c.said_by.ensures
