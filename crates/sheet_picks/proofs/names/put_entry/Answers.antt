use Rattle.std.proofs.Common.{arith}
use Rattle.sheet_picks.proofs.Laying.{entry_none, entry_more, entry_all}
use Rattle.sheet_picks.proofs.names.put_entry.Goals as goal

pub loop-i-init : goal.loop-i-init
loop-i-init c = entry_none _ _ _ _ _ _ _ _

pub loop-i-preserved : goal.loop-i-preserved
loop-i-preserved c = entry_more _ _ _ _ _ _ _ _ _ _ _ c.loop-i.invariant (omega arith) _ _ c.put_line_name-next.ensures

pub returns : goal.returns
returns c = entry_all _ _ _ _ _ _ _ _ _ _ _ c.loop-i.invariant (omega arith)
