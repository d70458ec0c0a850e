use Rattle.std.proofs.Common.{length, drop}
use Rattle.text_pages.proofs.Pages.{LinesPut}
use Rattle.sheet_figures.specs.FigureSheet.{figure_lines}
use Rattle.sheet_figures.proofs.put_figures.Given as goal

abbrev pub invariant-loop-i : goal.invariant-loop-i
invariant-loop-i l =
    LinesPut l.fn.page l.at 69 (figure_lines l.froms l.tos l.figures) (length l.froms) (figure_lines (drop l.i l.froms) (drop l.i l.tos) (drop l.i l.figures)) l.page l.next l.i
