use Rattle.std.proofs.Common.{◌∙◌}
use Rattle.tape_files.proofs.Placing.{named_here, unnamed_here}
use Rattle.tape_files.proofs.Bare.{read_none, read_more, read_over, read_less}
use Rattle.answer_ltfs.proofs.Files.{info_step, file_read}
use Rattle.answer_ltfs.proofs.index.read_file.Goals as goal

pub loop-inner-init : goal.loop-inner-init
loop-inner-init c = read_none info_step _ _ _ _ c.requires

pub read_extents-read-requires : goal.read_extents-read-requires
read_extents-read-requires c =
    let m = named_here _ _ c.loop-inner.invariant.around.within _ _ (rw c.in-Ok.is at c.next_named.ensures) in
    m.within

pub loop-inner-smaller : goal.loop-inner-smaller
loop-inner-smaller c =
    read_less _ _ _ _ _ (named_here _ _ c.loop-inner.invariant.around.within _ _ (rw c.in-Ok.is at c.next_named.ensures)) c.read_extents-read.ensures.1

pub loop-inner-preserved : goal.loop-inner-preserved
loop-inner-preserved c =
    read_more info_step _ _ _ _ _ _ c.loop-inner.invariant _ _ _ (named_here _ _ c.loop-inner.invariant.around.within _ _ (rw c.in-Ok.is at c.next_named.ensures))
    c.read_extents-read.ensures.1 c.read_extents-read.ensures.0

pub returns-in-Err : goal.returns-in-Err
returns-in-Err c =
    let r = read_over info_step _ _ _ _ _ _ c.loop-inner.invariant _ (unnamed_here _ _ c.loop-inner.invariant.around.within _ _ (rw c.in-Err.is at c.next_named.ensures)) in
    (r.0 ∙ file_read _ _, r.1)
