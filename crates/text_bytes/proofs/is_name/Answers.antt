use Rattle.std.proofs.Common.{◌∙◌, rules, tests, arith}
use Rattle.std.proofs.lemmas.Iterator.{YieldsList-from_slice}
use Rattle.std.proofs.lemmas.Iterator.Search.{all_from_yields_List}
use Rattle.text_bytes.specs.Text.{is_name_byte}
use Rattle.text_bytes.proofs.Bytes.{all_are, name_fits, name_short, name_long}
use Rattle.text_bytes.proofs.is_name.Goals as goal

pub returns-then-text-lt1 : goal.returns-then-text-lt1
returns-then-text-lt1 c = grind (arith, name_short, name_long)

pub returns : goal.returns
returns c =
    let text = c.args.text.now in
    all_from_yields_List is_name_byte _ _ c.all.result c.all.ensures.ran (YieldsList-from_slice text cc) (λ x b q k. search (rules, tests))
    ∙ (all_are is_name_byte text ∙ name_fits text (search rules) (search rules))
