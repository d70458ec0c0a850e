-- `answer_outcome::refused_outcome` meets its contract.
-- Assumes nothing.
use mathlib.Core.Path.{refl}
use Rattle.answer_outcome.specs.Outcomes.{refused_outcome}
use Rattle.answer_outcome.proofs.refused_outcome.Statement.{statement}
use Rattle.answer_outcome.proofs.refused_outcome.Tie as tie

returns : tie.Need-returns
unfolding refused_outcome
returns c = refl

pub refused_outcome_spec : {M : Type 1} → statement M
refused_outcome_spec = tie.close (tie.spec
    returns)
