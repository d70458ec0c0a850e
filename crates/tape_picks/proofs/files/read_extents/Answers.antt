use Rattle.std.proofs.Common.{ap, ◌∙◌}
use Rattle.tape_files.specs.Values.{extent_of}
use Rattle.tape_files.proofs.Bare.{read_more, read_over, read_less}
use Rattle.tape_files.proofs.Placing.{named_here, unnamed_here, left_here}
use Rattle.tape_picks.specs.Private.{ranged_with}
use Rattle.tape_picks.proofs.Extents.{inside_place, extent_step, extents_read}
use Rattle.tape_picks.proofs.files.read_extents.Goals as goal

pub loop-inner-smaller : goal.loop-inner-smaller
loop-inner-smaller c =
    let met = named_here _ _ c.loop-inner.invariant.around.within _ _ c.in-Ok.ensures in
    read_less _ _ _ _ _ met (left_here _ _ met.within _ c.read_extent-read.ensures.1)

pub loop-inner-preserved : goal.loop-inner-preserved
loop-inner-preserved c =
    let met = named_here _ _ c.loop-inner.invariant.around.within _ _ c.in-Ok.ensures in
    let read = c.read_extent-read.ensures in
    read_more (extent_step _) _ _ _ _ _ _ c.loop-inner.invariant _ _ _ met (left_here _ _ met.within _ read.1)
    (c.add_extent-known.ensures ∙ ap (ranged_with c.args.tape c.loop-inner.known) (read.0 ∙ ap extent_of (inside_place _ _ met.within)))

pub returns-in-Err : goal.returns-in-Err
returns-in-Err c =
    let read = read_over (extent_step _) _ _ _ _ _ _ c.loop-inner.invariant _ (unnamed_here _ _ c.loop-inner.invariant.around.within _ _ c.in-Err.ensures) in
    (read.0 ∙ extents_read _ _ _, read.1)
