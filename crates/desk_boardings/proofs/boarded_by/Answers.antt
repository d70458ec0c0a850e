-- Those that stay are the sound row without the first of each office.
use mathlib.Core.Path.{◌∙◌}
use Rattle.std.proofs.Common.{rules}
use Rattle.desk_boardings.proofs.Who.{staying}
use Rattle.desk_boardings.proofs.Answers.{somebody}
use Rattle.desk_boardings.proofs.boarded_by.Goals as goal

pub returns : goal.returns
returns c =
    let a = c.args in
    somebody a.row a.lasts a.answer (search rules) _ _ _ c.requires.taken_value c.requires.wants_value
    (c.without_first-staying.ensures ∙ staying a.row (search rules) c.requires.sound_row _ c.requires.taken_value)
