use Rattle.sheet_reader.specs.Lines.{want_key}
use Rattle.text_pages.proofs.Pages.{lines_put, pairs_over}
use Rattle.answer_mend.proofs.Texts.{want_put, each_long}
use Rattle.answer_mend.proofs.pages.put_wants.Goals as goal

pub loop-file-preserved : goal.loop-file-preserved
loop-file-preserved c =
    want_put _ _ _ _ _ c.requires.row_in_bounds _ _ _ c.loop-file.invariant c.loop-file-test.true _ c.reads_of-reads.ensures _ _ c.put_pair_line-next.ensures

pub returns : goal.returns
returns c = lines_put _ _ _ _ _ c.requires.row_in_bounds _ _ _ _ c.loop-file.invariant c.loop-file-test.false (pairs_over want_key _ _ (each_long _ _ _) _ c.loop-file-test.false)
