use Rattle.std.proofs.Common.{◌∙◌, arith, rules}
use Rattle.engine_table.proofs.MetRows.{first_more, smaller_by_min}
use Rattle.engine_table.proofs.pulling.pulled_starts.Goals as goal

pub loop-i-preserved : goal.loop-i-preserved
loop-i-preserved c = (search rules, first_more _ _ _ c.loop-i.invariant.1 (omega arith) _ (c.min.ensures ∙ smaller_by_min _ _))
