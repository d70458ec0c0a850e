-- `answer_month::tape_of` meets its contract.
-- Assumes nothing.
use Prim.Native.Nat.{◌≤◌}
use mathlib.Core.Path.{sym}
use native.Mathlib.Omega.{arith}
use lib.ListN.{length}
use lib.Seq.{length-take-le, take_all}
use borrow.Author.Rules.{rules}
use Rattle.answer_month.proofs.page.tape_of.Statement.{statement}
use Rattle.answer_month.proofs.page.tape_of.Tie as tie

slice-aggregate-result : tie.Need-slice_bounds-result-end
slice-aggregate-result c = sym (length-take-le _ _ c.if-end-tape.true)

returns : tie.Need-returns-then-end-tape
returns c = search rules

returns-2 : tie.Need-returns
returns-2 c =
    let short : length c.args.tape.now ≤ c.args.letters = omega (arith, c.if-end-tape.false) in
    sym (take_all c.args.letters c.args.tape.now short)

pub tape_of_spec : {M : Type 1} → statement M
tape_of_spec = tie.close (tie.spec
    slice-aggregate-result
    returns
    returns-2)
