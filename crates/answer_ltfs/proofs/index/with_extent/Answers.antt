use Rattle.answer_ltfs.specs.Private.Parts.{with_extent}
use Rattle.answer_ltfs.proofs.index.with_extent.Goals as goal

pub returns-then-file : goal.returns-then-file
unfolding with_extent
returns-then-file c = simp (c.if-file.true, c.extent_is_good.ensures)

pub returns : goal.returns
unfolding with_extent
returns c =
    simp (c.if-file.false, c.extent_is_good.ensures, c.value_in.ensures, c.value_in-2.ensures, c.value_in-3.ensures, c.value_in-4.ensures)
