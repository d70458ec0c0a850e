-- A run that 01 refuses is refused so, and of any other the figures are those for a head anywhere.
use mathlib.Core.Path.{ap, sym, ◌∙◌}
use Rattle.refusals.proofs.Checked.{passed, stopped}
use Rattle.walk.specs.Price.{refusal_answer}
use Rattle.figures.proofs.AnyHead.{run_refused, figures_same}
use Rattle.figures.proofs.figures.Goals as goal

pub returns-in-Err : goal.returns-in-Err
returns-in-Err c =
    let s = stopped _ _ c.in-Err.ensures in
    let so = run_refused _ _ _ _ s.so in
    record { value = c.refuse.ensures ∙ ap refusal_answer (sym s.is) ∙ so.0; row_after = so.1 }

pub returns : goal.returns
returns c =
    let so = figures_same _ _ _ _ (passed _ _ (sym c.in_default.is ∙ c.judge-judged.ensures)) in
    record { value = c.figures_any.ensures.value ∙ so.0; row_after = c.figures_any.ensures.row_after ∙ so.1 }
