-- The judging's own code, or the number.
use Rattle.boundary.proofs.Plans.{run_placed, run_code, own_number_lem}
use Rattle.boundary.proofs.refused_code.Goals as goal

pub code-requires : goal.code-requires
code-requires c = run_placed _ c.args.number _ c.in-Err.ensures _ c.refuse.ensures

pub returns-in-Err : goal.returns-in-Err
returns-in-Err c = run_code _ c.args.number _ c.in-Err.ensures _ c.refuse.ensures _ c.code.ensures

pub returns-in-Ok : goal.returns-in-Ok
returns-in-Ok c = own_number_lem _ c.args.number _ c.in-Ok.ensures
