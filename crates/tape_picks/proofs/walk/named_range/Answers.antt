-- A range without paths stays so.
use borrow.Author.Tests.{le-leb, lt-leb}
use Rattle.tape_picks.specs.Private.{named_range}
use Rattle.tape_picks.proofs.walk.named_range.Goals as goal

pub returns-then-range : goal.returns-then-range
unfolding named_range
returns-then-range c =
    rw (le-leb c.args.range.high c.args.range.low c.if-range.true)

pub returns : goal.returns
unfolding named_range
returns c =
    rw (lt-leb c.args.range.high c.args.range.low c.if-range.false) c.own_name.ensures
