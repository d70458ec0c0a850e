use Rattle.std.proofs.Common.{ap, ◌∙◌}
use Rattle.tape_files.specs.Index.{extents_of}
use Rattle.tape_files.specs.Elements.{inside}
use Rattle.tape_files.proofs.Bare.{read_more, read_over, read_less}
use Rattle.tape_files.proofs.Placing.{named_here, unnamed_here}
use Rattle.tape_picks.specs.Private.{ranged_from}
use Rattle.tape_picks.proofs.Extents.{info_step, file_read}
use Rattle.tape_picks.proofs.files.read_file.Goals as goal

pub read_extents-read-requires : goal.read_extents-read-requires
read_extents-read-requires c = (named_here _ _ c.loop-inner.invariant.around.within _ _ c.in-Ok.ensures).within

pub loop-inner-smaller : goal.loop-inner-smaller
loop-inner-smaller c =
    read_less _ _ _ _ _ (named_here _ _ c.loop-inner.invariant.around.within _ _ c.in-Ok.ensures) c.read_extents-read.ensures.1

pub loop-inner-preserved : goal.loop-inner-preserved
loop-inner-preserved c =
    let met = named_here _ _ c.loop-inner.invariant.around.within _ _ c.in-Ok.ensures in
    read_more (info_step _) _ _ _ _ _ _ c.loop-inner.invariant _ _ _ met c.read_extents-read.ensures.1 c.read_extents-read.ensures.0

pub returns-in-Err : goal.returns-in-Err
returns-in-Err c =
    let read = read_over (info_step _) _ _ _ _ _ _ c.loop-inner.invariant _ (unnamed_here _ _ c.loop-inner.invariant.around.within _ _ c.in-Err.ensures) in
    (read.0 ∙ file_read _ _ _ ∙ ap (λ f. ranged_from c.args.tape f (extents_of (inside c.args.text.now c.args.place))) c.no_file-file.ensures, read.1)
