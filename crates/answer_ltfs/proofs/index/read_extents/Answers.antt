use Rattle.std.proofs.Common.{ap, ◌∙◌}
use Rattle.answer_ltfs.specs.Private.Parts.{with_extent}
use Rattle.tape_files.proofs.Placing.{named_here, unnamed_here, left_here, extent_here}
use Rattle.tape_files.proofs.Bare.{read_none, read_more, read_over, read_less}
use Rattle.answer_ltfs.proofs.Files.{extent_step, extents_read}
use Rattle.answer_ltfs.proofs.index.read_extents.Goals as goal

pub loop-inner-init : goal.loop-inner-init
loop-inner-init c = read_none extent_step _ _ _ _ c.requires

pub loop-inner-smaller : goal.loop-inner-smaller
loop-inner-smaller c =
    let m = named_here _ _ c.loop-inner.invariant.around.within _ _ (rw c.in-Ok.is at c.next_named.ensures) in
    read_less _ _ _ _ _ m (left_here _ _ m.within _ c.read_extent-read.ensures.1)

pub loop-inner-preserved : goal.loop-inner-preserved
loop-inner-preserved c =
    let m = named_here _ _ c.loop-inner.invariant.around.within _ _ (rw c.in-Ok.is at c.next_named.ensures) in
    let e = c.read_extent-read.ensures in
    read_more extent_step _ _ _ _ _ _ c.loop-inner.invariant _ _ _ m (left_here _ _ m.within _ e.1)
    (c.with_extent-file.ensures ∙ ap (with_extent c.loop-inner.file) (extent_here _ _ m.within _ e.1 _ e.0))

pub returns-in-Err : goal.returns-in-Err
returns-in-Err c =
    let r = read_over extent_step _ _ _ _ _ _ c.loop-inner.invariant _ (unnamed_here _ _ c.loop-inner.invariant.around.within _ _ (rw c.in-Err.is at c.next_named.ensures)) in
    (r.0 ∙ extents_read _ _, r.1)
