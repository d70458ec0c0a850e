-- Directories and their contents take turns.
use Rattle.tape_picks.proofs.Ranges.{shallow_level, deep_level}
use Rattle.tape_picks.proofs.walk.in_contents.Goals as goal

pub returns-then-depth-lt2 : goal.returns-then-depth-lt2
returns-then-depth-lt2 c = shallow_level _ c.if-depth-lt2.true

pub returns : goal.returns
returns c = deep_level _ c.if-depth-lt2.false
