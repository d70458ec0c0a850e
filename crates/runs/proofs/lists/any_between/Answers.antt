use Rattle.std.proofs.Common.{leb, ◌&&◌, ◌∙◌, rules, tests}
use Rattle.std.proofs.lemmas.Iterator.{YieldsList-from_slice}
use Rattle.std.proofs.lemmas.Iterator.Search.{any_from_yields_List}
use Rattle.runs.proofs.Entries.{some_between-list_any}
use Rattle.runs.proofs.lists.any_between.Goals as goal

pub returns : goal.returns
returns c =
    any_from_yields_List (λ n. leb c.args.low n && leb n c.args.high) _ _ _ c.any.ensures.ran (YieldsList-from_slice c.args.numbers.now cc) (λ x b q k. search (rules, tests))
    ∙ some_between-list_any c.args.numbers.now c.args.low c.args.high
