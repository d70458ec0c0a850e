use Rattle.std.proofs.Common.{◌<◌, length, take, sym, ap, ◌∙◌, arith}
use Rattle.std.proofs.Math.ListN.{length-map}
use Rattle.planner.specs.Private.{first_file_in}
use Rattle.planner.proofs.Filling.{filling_next, filling_more, map_at}
use Rattle.planner.proofs.name_files.Goals as goal

pub loop-file-preserved : goal.loop-file-preserved
loop-file-preserved c =
    let name = first_file_in c.args.firsts.now in
    let part = take c.args.entries c.args.row.now in
    let inside : c.loop-file.file-index < length part = omega (arith, c.loop-file.invariant.same) in
    filling_more _ _ _ _ c.loop-file.invariant (omega (arith, length-map part name)) _
    (ap name (filling_next _ _ _ _ c.loop-file.invariant inside) ∙ sym (map_at name part c.loop-file.file-index inside))
