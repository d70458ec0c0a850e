-- Only in contents a directory adds its name.
use Rattle.tape_picks.specs.Private.{below_range}
use Rattle.tape_picks.proofs.walk.below.Goals as goal

pub returns-then-not-in_contents : goal.returns-then-not-in_contents
unfolding below_range
returns-then-not-in_contents c = rw (← c.in_contents.ensures, c.if-not-in_contents.true)

pub returns : goal.returns
unfolding below_range
returns c = rw (← c.in_contents.ensures, c.if-not-in_contents.false, ← c.named_range-named.ensures) c.narrow.ensures
