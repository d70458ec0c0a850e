-- `answer_outcome::longer_of` meets its contract.
-- Assumes nothing.
use borrow.Author.Tests.{lt-ltb, le-ltb}
use Rattle.answer_outcome.proofs.longer_of.Statement.{statement}
use Rattle.answer_outcome.proofs.longer_of.Tie as tie

returns : tie.Need-returns-then-most-time
returns c = simp (lt-ltb _ _ c.if-most-time.true)

returns-2 : tie.Need-returns
returns-2 c = simp (le-ltb _ _ c.if-most-time.false)

pub longer_of_spec : {M : Type 1} → statement M
longer_of_spec = tie.close (tie.spec
    returns
    returns-2)
