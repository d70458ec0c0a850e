use Rattle.std.proofs.Common.{take, drop, arith, ◌∙◌}
use Rattle.boundary_desk.specs.Private.{places_of}
use Rattle.boundary_desk.proofs.Taking.{placing_none, placing_more, places_long, place_there}
use Rattle.boundary_desk.proofs.put_places.Goals as goal

pub loop-i-init : goal.loop-i-init
loop-i-init c = placing_none _ _ _ _

pub loop-i-preserved : goal.loop-i-preserved
loop-i-preserved c =
    let a = c.args in
    placing_more a.taken.now a.at (places_of a.numbers (take a.n (drop a.first a.row))) a.n _ _ c.loop-i.invariant c.loop-i-test.true
    (places_long a.numbers a.row (omega arith) a.first a.n c.requires.n_bound) c.requires.n_in_bounds _ _
    (c.want_place.ensures ∙ place_there a.numbers a.row (omega arith) a.first a.n c.requires.n_bound c.loop-i.i c.loop-i-test.true)
