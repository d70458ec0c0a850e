use mathlib.Core.Path.{refl}
use borrow.Author.Tests.{lt-ltb, le-ltb}
use Rattle.text_references.proofs.encode_long.Goals as goal

pub returns-then-number-lt65536 : goal.returns-then-number-lt65536
returns-then-number-lt65536 c = rw (lt-ltb _ _ c.if-number-lt65536.true) (record { size = refl; fields = refl })

pub returns : goal.returns
returns c = rw (c.later_byte.ensures, le-ltb _ _ c.if-number-lt65536.false) (record { size = refl; fields = refl })
