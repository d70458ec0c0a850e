use Rattle.std.proofs.Common.{rules, tests}
use Rattle.text_lines.specs.Lines.{is_triple_line}
use Rattle.text_lines.proofs.triple_lines.Goals as goal

pub returns : goal.returns
returns c = c.pass_lines.ensures (is_triple_line c.args.key.now) (λ next r within called. search (rules, tests))
