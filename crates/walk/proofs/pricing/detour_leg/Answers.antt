-- The first file of an aggregate is its own first member.
use Rattle.runs.proofs.Members.{first_stays}
use Rattle.walk.proofs.pricing.detour_leg.Goals as goal

pub returns : goal.returns
returns c = rw (c.extent_end-right.ensures, c.smaller-left.ensures, first_stays c.args.aggregates.now _ c.requires.from_value)
