use Rattle.std.proofs.Common.{arith, rules}
use Rattle.text_pages.proofs.Pages.{line_room, line_wrote, lines_put}
use Rattle.sheet_figures.proofs.Figures.{figures_left, figures_over}
use Rattle.sheet_figures.proofs.put_figures.Goals as goal

pub put_figure-next-requires : goal.put_figure-next-requires
put_figure-next-requires c = line_room _ _ _ _ _ c.requires.froms_in_bounds _ _ _ _ c.loop-i.invariant c.loop-i-test.true

pub loop-i-preserved : goal.loop-i-preserved
loop-i-preserved c =
    line_wrote _ _ _ _ _ c.requires.froms_in_bounds _ _ _ _ c.loop-i.invariant c.loop-i-test.true _ _
    (figures_left _ _ _ c.requires.froms_len c.requires.froms_len_2 _ c.loop-i-test.true (search rules)) _ (omega arith) _ _ c.put_figure-next.ensures

pub returns : goal.returns
returns c =
    lines_put _ _ _ _ _ c.requires.froms_in_bounds _ _ _ _ c.loop-i.invariant c.loop-i-test.false
    (figures_over _ _ _ c.requires.froms_len c.requires.froms_len_2 _ c.loop-i-test.false)
