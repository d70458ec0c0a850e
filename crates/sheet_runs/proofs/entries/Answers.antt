use Rattle.std.proofs.Common.{arith}
use Rattle.sheet_runs.proofs.Filling.{first_entries}
use Rattle.sheet_runs.proofs.entries.Goals as goal

pub returns-clause-result_value : goal.returns-clause-result_value
returns-clause-result_value c = first_entries _ _ _ (omega arith)
