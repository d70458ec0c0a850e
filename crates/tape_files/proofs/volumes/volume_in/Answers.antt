use Rattle.std.proofs.lemmas.Result.{err_from_is_err_and}
use Rattle.tape_files.proofs.Uuids.{volumes_none, volumes_over, volume_found, volumes_more}
use Rattle.tape_files.proofs.volumes.volume_in.Goals as goal

pub loop-inner-init : goal.loop-inner-init
loop-inner-init c = volumes_none _ _

pub returns-in_err-inner : goal.returns-in_err-inner
returns-in_err-inner c =
    let p = err_from_is_err_and c.from_residual.result c.from_residual.ensures.1 in
    rw p.1 (volumes_over _ _ _ c.loop-inner.invariant _ c.in_err-inner.ensures)

pub returns-in-Ok : goal.returns-in-Ok
returns-in-Ok c = volume_found _ _ _ c.loop-inner.invariant _ c.in_ok-inner.ensures _ c.in-Ok.ensures

pub loop-inner-preserved : goal.loop-inner-preserved
loop-inner-preserved c = volumes_more _ _ _ c.loop-inner.invariant _ c.in_ok-inner.ensures _ c.in-Err.ensures
