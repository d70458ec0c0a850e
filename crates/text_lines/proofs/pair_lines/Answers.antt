use Rattle.std.proofs.Common.{rules, tests}
use Rattle.text_lines.specs.Lines.{is_pair_line}
use Rattle.text_lines.proofs.pair_lines.Goals as goal

pub returns : goal.returns
returns c = c.pass_lines.ensures (is_pair_line c.args.key.now) (λ next r within called. search (rules, tests))
