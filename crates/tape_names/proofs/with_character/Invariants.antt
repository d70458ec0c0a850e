use Rattle.std.proofs.Common.{◌≡◌, take}
use Rattle.text_order.specs.Order.{narrowed_all}
use Rattle.tape_names.proofs.with_character.Given as goal

-- The bytes so far.
abbrev pub invariant-loop-byte : goal.invariant-loop-byte
invariant-loop-byte l = l.longer ≡ narrowed_all l.list l.starts l.ends l.order l.fn.range (take l.byte-index l.byte-items)
