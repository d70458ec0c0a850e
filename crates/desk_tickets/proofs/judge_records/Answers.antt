use mathlib.Core.Path.{sym, ap, ◌∙◌}
use Rattle.runs.proofs.Search.{first_none, first_more, first_here}
use Rattle.refusals.specs.declared.Refusal.TheVariants.{BadRecord}
use Rattle.refusals.specs.Refusals.{checked, refuse_at}
use Rattle.desk_tickets.proofs.judge_records.Goals as goal

pub loop-i-init : goal.loop-i-init
loop-i-init c = first_none _

pub returns-then-bad_record : goal.returns-then-bad_record
returns-then-bad_record c =
    c.at.ensures ∙ ap (λ n. checked (refuse_at n BadRecord)) (sym (first_here _ _ 32 c.loop-i.invariant (sym c.bad_record.ensures ∙ c.if-bad_record.true) c.loop-i-test.true))

pub loop-i-preserved : goal.loop-i-preserved
loop-i-preserved c = first_more _ _ c.loop-i.invariant (sym c.bad_record.ensures ∙ c.if-bad_record.false)
