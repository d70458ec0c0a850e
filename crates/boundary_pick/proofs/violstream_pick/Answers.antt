-- No words for the lengths, a refusal, or both texts with their lengths.
use Rattle.boundary_pick.proofs.Calling.{number_small, called_refused, called_told}
use Rattle.boundary_pick.proofs.violstream_pick.Goals as goal

pub returns-then-sizes-lt2 : goal.returns-then-sizes-lt2
returns-then-sizes-lt2 c = c.short_pick.ensures _ _ _ c.if-sizes-lt2.true

pub code_of-code-requires : goal.code_of-code-requires
code_of-code-requires c =
    let a = c.args in
    number_small a.unit a.tape.now a.label.now a.index.now a.list.now a.head.now a.turn.now _ _ _ _ _ c.pick-picked.ensures

pub returns-then-picked-ne0 : goal.returns-then-picked-ne0
returns-then-picked-ne0 c =
    let a = c.args in
    called_refused a.unit a.tape.now a.label.now a.index.now a.list.now a.head.now a.turn.now _ _ _ c.if-sizes-lt2.false _ _ _ c.pick-picked.ensures _ c.code_of-code.ensures c.if-picked-ne0.true

pub returns : goal.returns
returns c =
    let a = c.args in
    called_told a.unit a.tape.now a.label.now a.index.now a.list.now a.head.now a.turn.now _ _ _ c.if-sizes-lt2.false _ _ _ c.pick-picked.ensures _ c.code_of-code.ensures c.if-picked-ne0.false
