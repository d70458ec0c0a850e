use Rattle.std.proofs.Common.{arith}
use Rattle.sheet_picks.proofs.Laying.{names_none, names_more, names_all}
use Rattle.sheet_picks.proofs.names.put_names.Goals as goal

pub loop-k-init : goal.loop-k-init
loop-k-init c = names_none _ _ _ _ _ _

pub loop-k-preserved : goal.loop-k-preserved
loop-k-preserved c = names_more _ _ _ _ _ _ c.requires.entry_rows _ _ _ c.loop-k.invariant c.loop-k-test.true _ _ c.put_entry-next.ensures

pub returns : goal.returns
returns c = names_all _ _ _ _ _ _ c.requires.entry_rows _ _ _ c.loop-k.invariant (omega arith)
