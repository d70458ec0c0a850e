-- The key, the two files and the size behind the sign that was chosen.
use Rattle.std.proofs.Common.{◌≡◌, take, [], ◌∷◌}
use mathlib.Core.Path.{◌∙◌}
use Rattle.sheet_figures.proofs.Figures.{sign_key, minus_taken, none_taken, whole_size, figure_wrote}
use Rattle.sheet_figures.proofs.put_figure.Goals as goal
use Rattle.sheet_figures.proofs.put_figure.Goals.{then-figure-lt0, else-figure-lt0}

pub returns : goal.returns
returns c =
    let fits = c.ranges.figure in
    let sign : take c.if-figure-lt0.sign (44 ∷ 45 ∷ []) ≡ sign_key c.args.figure =
    elim c.if-figure-lt0.branch [
      | then-figure-lt0 w ↦ minus_taken _ fits w.if-figure-lt0.true _ w.sign-is
      | else-figure-lt0 w ↦ none_taken _ fits w.if-figure-lt0.false _ w.sign-is
    ] in
    figure_wrote _ _ _ _ c.args.figure c.requires _ sign _ (c.size_of.ensures ∙ whole_size _ fits) _ _ c.put-value.ensures _ _ c.put_pair-comma.ensures _ _ c.put_number_line.ensures
