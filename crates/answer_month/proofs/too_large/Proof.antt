-- `answer_month::too_large` meets its contract.
-- Assumes nothing.
use Prim.Native.Nat.{◌<◌, ◌^◌}
use Rattle.answer_month.proofs.Adding.{word_full}
use borrow.Author.Rules.{rules}
use Rattle.answer_month.proofs.too_large.Statement.{statement}
use Rattle.answer_month.proofs.too_large.Tie as tie

sub-result : tie.Need-overflow_sub-result
sub-result c = search rules

returns : tie.Need-returns
returns c = let l : c.args.total < 2 ^ 64 = search rules in word_full c.args.total c.args.more l

pub too_large_spec : {M : Type 1} → statement M
too_large_spec = tie.close (tie.spec
    sub-result
    returns)
