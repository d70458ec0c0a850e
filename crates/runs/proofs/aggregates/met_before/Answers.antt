use Rattle.std.proofs.Common.{eqb, ◌||◌, false, take, sym, ◌∙◌, rules, tests}
use Rattle.std.proofs.lemmas.Iterator.{YieldsList-from_slice}
use Rattle.std.proofs.lemmas.Iterator.Consumers.{fold_from_yields_List}
use Rattle.runs.proofs.Search.{any_taken, any_folded}
use Rattle.runs.proofs.aggregates.met_before.Goals as goal

pub returns : goal.returns
returns c =
    let row = take c.args.i c.args.aggregates.now in
    fold_from_yields_List _ (λ met x. met || eqb x c.args.number) false c.fold.result c.fold.ensures.ran (YieldsList-from_slice row cc) (λ a x b q k. search (rules, tests))
    ∙ any_folded (λ x. eqb x c.args.number) row
    ∙ sym (any_taken (λ x. eqb x c.args.number) c.args.aggregates.now c.args.i c.requires)
