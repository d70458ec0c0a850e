use mathlib.Core.Path.{ap}
use Rattle.refusals.specs.declared.Refusal.TheVariants.{BadSheetCount}
use Rattle.answer_month.specs.Parts.{input_verdict}
use Rattle.answer_month.proofs.parts.judge_input.Goals as goal

pub returns-then-good : goal.returns-then-good
unfolding input_verdict
returns-then-good c = rw c.if-good.true c.accepted.ensures

pub returns : goal.returns
unfolding input_verdict
returns c = rw c.if-good.false (ap (λ n. record { refusal = BadSheetCount; place = n }) c.next_sheet.ensures)
