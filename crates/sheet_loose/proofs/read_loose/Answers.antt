use mathlib.Core.Path.{sym, ◌∙◌}
use Rattle.sheet_loose.proofs.Answers.{loose_refused, loose_short, loose_read}
use Rattle.sheet_loose.proofs.read_loose.Goals as goal

pub returns-in-Err : goal.returns-in-Err
returns-in-Err c = loose_refused _ _ _ _ c.in-Err.ensures _ c.refused_parts.ensures

pub returns-in-Err-when : goal.returns-in-Err-when
returns-in-Err-when c = loose_short _ _ _ _ c.in-Ok.ensures _ c.is_short-short.ensures _ c.in-Err-when.ensures _ c.refused_parts-in-Err-when.ensures

pub returns-in_default : goal.returns-in_default
returns-in_default c = loose_read _ _ _ _ c.in-Ok.ensures _ c.is_short-short.ensures (sym c.in_default.is ∙ c.when.ensures) _ _ c.fill_pairs.ensures
