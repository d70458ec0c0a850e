use Rattle.tape_markup.specs.Steps.{step_at}
use Rattle.tape_markup.proofs.tokens.step_from.Goals as goal

pub returns-in-Shut : goal.returns-in-Shut
unfolding step_at
returns-in-Shut c = rw c.in-Shut.is
