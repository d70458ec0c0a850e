use Rattle.boundary_desk.proofs.Filling.{line_goes_on}
use Rattle.boundary_desk.proofs.one_line.Goals as goal

pub returns-clause-line_value : goal.returns-clause-line_value
returns-clause-line_value c = line_goes_on c.args.line.now _ c.in-Some.ensures c.if-end-line.false
