use Prim.Native.Nat.{◌-◌}
use Rattle.answer_ltfs.proofs.Neighbours.{last_none, last_found}
use borrow.Author.Rules.{rules}
use Rattle.answer_ltfs.proofs.sheet.last_end.Goals as goal

pub returns-then-kept-eq0 : goal.returns-then-kept-eq0
returns-then-kept-eq0 c = last_none c.args.starts.now c.args.lengths.now c.args.kept c.if-kept-eq0.true

pub overflow_add-result : goal.overflow_add-result
overflow_add-result c = let e = c.requires.ends_fit (c.args.kept - 1) (search rules) in search rules

pub returns : goal.returns
returns c =
    last_found c.args.starts.now c.args.lengths.now c.args.kept c.requires.table_rows c.requires.kept_bound c.if-kept-eq0.false
