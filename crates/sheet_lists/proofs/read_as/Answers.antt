use mathlib.Core.Path.{sym, ◌∙◌}
use Rattle.sheet_lists.proofs.Answers.{read_bad, read_short, read_whole}
use Rattle.sheet_lists.proofs.read_as.Goals as goal

pub returns-in-Err : goal.returns-in-Err
returns-in-Err c = read_bad _ _ _ _ c.requires _ c.in-Err.is

pub returns-in-Err-when : goal.returns-in-Err-when
returns-in-Err-when c = read_short _ _ _ _ c.requires _ _ c.in-Ok.is _ c.is_short-short.ensures _ c.in-Err-when.ensures

pub returns-in_default : goal.returns-in_default
returns-in_default c =
    read_whole _ _ _ _ c.requires _ _ c.in-Ok.is _ c.is_short-short.ensures (sym c.in_default.is ∙ c.when.ensures) _ c.accepted.ensures _ _ c.fill_pairs.ensures
