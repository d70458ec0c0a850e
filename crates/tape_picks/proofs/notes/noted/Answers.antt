-- The first file of a path is the one, a later one makes several.
use borrow.Author.Tests.{eq-eqb, ne_eqb}
use Rattle.tape_picks.specs.Private.{noted_pick}
use Rattle.tape_picks.proofs.notes.noted.Goals as goal

pub returns-then-not-here : goal.returns-then-not-here
unfolding noted_pick
returns-then-not-here c = rw (c.if-not-here.true)

pub returns-then-pick-eq0 : goal.returns-then-pick-eq0
unfolding noted_pick
returns-then-pick-eq0 c =
    rw (
      c.if-not-here.false,
      eq-eqb c.args.pick.state 0 c.if-pick-eq0.true,
    )
    c.one_pick.ensures

pub returns : goal.returns
unfolding noted_pick
returns c = rw (c.if-not-here.false, ne_eqb c.args.pick.state 0 c.if-pick-eq0.false)
