use Rattle.std.proofs.Common.{drop, rules, tests}
use Rattle.std.proofs.lemmas.Iterator.{YieldsList-from_slice}
use Rattle.std.proofs.lemmas.Iterator.Consumers.{count_from_yields_List}
use Rattle.std.proofs.lemmas.Iterator.Search.{YieldsList-from_take_while}
use Rattle.tape_markup.specs.Markup.{is_char}
use Rattle.tape_markup.proofs.Scanning.{front_counted, rest_all}
use Rattle.tape_markup.proofs.scan.behind_chars.Goals as goal

pub returns : goal.returns
returns c =
    front_counted is_char _ _ _ c.requires
    (count_from_yields_List c.take_while.result _ c.count.ensures.ran
    (YieldsList-from_take_while _ is_char (YieldsList-from_slice (drop c.args.at c.args.text.now) (cc (rest_all c.args.text.now c.args.at))) c.take_while.ensures.closure c.take_while.ensures.done (λ x b q k. search (rules, tests))))
