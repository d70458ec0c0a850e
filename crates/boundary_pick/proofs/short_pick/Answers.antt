-- No empty row takes a sheet, so something is refused.
use Rattle.boundary_pick.proofs.Calling.{number_small, called_short}
use Rattle.boundary_pick.proofs.short_pick.Goals as goal

pub code_of-requires : goal.code_of-requires
code_of-requires c =
    let a = c.args in
    number_small a.unit a.name.now a.label.now a.index.now a.list.now a.head.now a.turn.now _ _ _ _ _ c.pick-picked.ensures

pub returns : goal.returns
returns c =
    let a = c.args in
    called_short a.unit a.name.now a.label.now a.index.now a.list.now a.head.now a.turn.now _ _ _ c.pick-picked.ensures _ c.code_of.ensures
