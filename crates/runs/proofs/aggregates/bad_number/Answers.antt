-- Outside the bounds no entry has the number.
use mathlib.Core.Path.{sym, ◌∙◌}
use Rattle.runs.proofs.Numbers.{number_new, unmet_low, unmet_high}
use Rattle.runs.proofs.aggregates.bad_number.Goals as goal

pub returns-then-number-low : goal.returns-then-number-low
returns-then-number-low c =
    number_new _ _ c.if-number-gt-MOST_AGGREGATES.false c.if-number-eq0.false (sym c.goes_on.ensures ∙ c.if-goes_on.false) _ (sym (unmet_low _ _ _ _ c.requires.spanned c.if-number-eq0.false c.if-number-low.true))

pub returns-then-high-number : goal.returns-then-high-number
returns-then-high-number c =
    number_new _ _ c.if-number-gt-MOST_AGGREGATES.false c.if-number-eq0.false (sym c.goes_on.ensures ∙ c.if-goes_on.false) _ (sym (unmet_high _ _ _ _ c.requires.spanned c.if-number-eq0.false c.if-high-number.true))
