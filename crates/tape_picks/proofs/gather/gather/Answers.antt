use Rattle.std.proofs.Common.{refl}
use Rattle.std.proofs.lemmas.Bool.{false≢true}
use Rattle.tape_picks.proofs.Gathering.{gathering_none, gathering_more, gathering_bad, gathering_good, gathering_notes, met_high}
use Rattle.tape_picks.proofs.gather.gather.Goals as goal

pub loop-next-init : goal.loop-next-init
loop-next-init c = gathering_none _ _ _ _ _ _ c.requires.list_held _ c.requires.index_value _ c.requires.none_noted _ c.walk_start.ensures

pub returns-in_default-file : goal.returns-in_default-file
returns-in_default-file c =
    let g = rw c.in-Some.is at c.loop-next.invariant in
    let met = c.meet-met.ensures g.own g.outer (g.at _ refl) in
    record {
      judged = gathering_bad _ _ _ _ _ _ c.requires.list_held _ _ _ g _ met c.in_default-file.is;
      notes = λ e. absurd (false≢true e);
    }

pub note-requires-clause-order_held : goal.note-requires-clause-order_held
note-requires-clause-order_held c =
    let g = rw c.in-Some.is at c.loop-next.invariant in
    let met = c.meet-met.ensures g.own g.outer (g.at _ refl) in
    (c.requires.list_held.lines, met_high _ _ _ _ _ _ c.requires.list_held _ _ _ g _ met)

pub loop-next-smaller : goal.loop-next-smaller
loop-next-smaller c =
    let g = rw c.in-Some.is at c.loop-next.invariant in
    let met = c.meet-met.ensures g.own g.outer (g.at _ refl) in
    rw c.in-Some.is met.fewer

pub loop-next-preserved : goal.loop-next-preserved
loop-next-preserved c =
    let g = rw c.in-Some.is at c.loop-next.invariant in
    let met = c.meet-met.ensures g.own g.outer (g.at _ refl) in
    gathering_more _ _ _ _ _ _ c.requires.list_held _ _ _ g _ met _ c.in-Some-file.is _ c.note.ensures

pub returns : goal.returns
returns c =
    let g = rw c.in_default.is at c.loop-next.invariant in
    record {
      judged = gathering_good _ _ _ _ _ _ c.requires.list_held _ _ g;
      notes = λ e. gathering_notes _ _ _ _ _ _ c.requires.list_held _ _ g;
    }
