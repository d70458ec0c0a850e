use Rattle.std.proofs.Common.{refl}
use Rattle.text_order.specs.Order.{narrowed_all}
use Rattle.tape_names.proofs.Names.{narrowed_next}
use Rattle.tape_names.proofs.with_character.Goals as goal

pub loop-byte-init : goal.loop-byte-init
unfolding narrowed_all
loop-byte-init c = refl

pub loop-byte-preserved : goal.loop-byte-preserved
loop-byte-preserved c = narrowed_next _ _ _ _ _ _ _ _ _ c.loop-byte.invariant c.loop-byte-test.true c.narrow-longer.ensures
