use Rattle.std.proofs.Common.{pos}
use Rattle.runs.specs.Run.{run_of}
use Rattle.runs.specs.Lists.{list_of}
use Rattle.figures.specs.AnyHead.{figures_any_of}
use Rattle.figures.proofs.Filling.{Filling}
use Rattle.figures.proofs.fill_figures.Given as goal

abbrev pub invariant-loop-i : goal.invariant-loop-i
invariant-loop-i l =
    Filling (pos 0) (figures_any_of (run_of l.starts l.lengths l.aggregates l.numbers l.counts l.head l.turn) (list_of l.froms l.tos)) l.initial.row l.row l.i
