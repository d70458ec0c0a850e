use Rattle.std.proofs.Common.{rules, tests}
use Rattle.std.proofs.lemmas.Iterator.{YieldsList-from_slice}
use Rattle.std.proofs.lemmas.Iterator.Search.{position_from_yields_List}
use Rattle.answer_pick.specs.Private.{is_bad}
use Rattle.answer_pick.proofs.Judging.{bad_found, bad_unfound}
use Rattle.answer_pick.proofs.lines.first_bad.Goals as goal

pub returns-in-Some : goal.returns-in-Some
returns-in-Some c =
    let e = position_from_yields_List (is_bad c.args.test) _ _ c.position.result c.position.ensures.ran (YieldsList-from_slice c.args.row.now c.iter.ensures.rest) (λ x b q k. search (rules, tests)) in
    bad_found c.args.test c.args.row.now _ e _ c.in-Some.is

pub returns-in-None : goal.returns-in-None
returns-in-None c =
    let e = position_from_yields_List (is_bad c.args.test) _ _ c.position.result c.position.ensures.ran (YieldsList-from_slice c.args.row.now c.iter.ensures.rest) (λ x b q k. search (rules, tests)) in
    bad_unfound c.args.test c.args.row.now _ e c.in-None.is
