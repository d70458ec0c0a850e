-- The first member is at or left of the file, which lies in the table.
use Rattle.std.proofs.Common.{arith, ◌-◌}
use Rattle.runs.proofs.Members.{first_below}
use Rattle.walk.proofs.pricing.extent_start.Goals as goal

pub offset_bounds-starts-first : goal.offset_bounds-starts-first
offset_bounds-starts-first c = omega (arith, c.first_member-first.ensures, first_below c.args.aggregates.now (c.args.file - 1), c.requires.least, c.requires.most)

pub bounds-starts-first : goal.bounds-starts-first
bounds-starts-first c = omega (arith, c.first_member-first.ensures, first_below c.args.aggregates.now (c.args.file - 1), c.requires.least, c.requires.most)
