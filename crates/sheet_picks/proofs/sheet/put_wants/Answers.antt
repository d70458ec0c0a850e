use Rattle.std.proofs.Common.{arith}
use Rattle.text_pages.proofs.Pages.{lines_put_none}
use Rattle.sheet_picks.proofs.Sheets.{want_put, wants_put}
use Rattle.sheet_picks.proofs.sheet.put_wants.Goals as goal

pub loop-i-init : goal.loop-i-init
loop-i-init c = lines_put_none _ _ _ _ _

pub loop-i-preserved : goal.loop-i-preserved
loop-i-preserved c =
    want_put _ _ _ _ _ c.requires.entry_rows c.requires.firsts_in_bounds _ _ _ c.loop-i.invariant c.loop-i-test.true _ c.reads_in-reads.ensures _ _ c.put_pair_line-next.ensures

pub returns : goal.returns
returns c = wants_put _ _ _ _ _ c.requires.entry_rows c.requires.firsts_in_bounds _ _ _ c.loop-i.invariant (omega arith)
