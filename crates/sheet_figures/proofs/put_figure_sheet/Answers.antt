-- Three lines and the figures.
use Rattle.std.proofs.Common.{arith}
use Rattle.sheet_figures.specs.FigureSheet.{figure_page}
use Rattle.text_pages.proofs.Pages.{wrote_both, wrote_on, wrote_within}
use Rattle.sheet_figures.proofs.put_figure_sheet.Goals as goal

pub returns : goal.returns
unfolding figure_page
returns c =
    let z = c.requires in
    let one = c.put_line-sum_at.ensures.room (omega arith) in
    let two = wrote_on one (omega arith) c.put_number_line-detours_at.ensures in
    let three = wrote_on two (omega arith) c.put_number_line-buys_at.ensures in
    wrote_within (wrote_both three c.put_figures.ensures) _ (omega arith)
