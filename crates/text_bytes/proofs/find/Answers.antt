use Rattle.std.proofs.Common.{nat_eq, rules, tests}
use Rattle.std.proofs.lemmas.Iterator.{YieldsList-from_slice}
use Rattle.std.proofs.lemmas.Iterator.Search.{position_from_yields_List}
use Rattle.text_bytes.proofs.Bytes.{position_found}
use Rattle.text_bytes.proofs.find.Goals as goal

pub returns : goal.returns
returns c =
    position_found _ _ _ (position_from_yields_List (λ b. nat_eq b c.args.byte) _ _ c.position.result c.position.ensures.ran (YieldsList-from_slice c.args.text.now cc) (λ x b q k. search (rules, tests)))
