-- 41, 42, then 23.
use mathlib.Core.Path.{◌∙◌}
use Rattle.answer_pick.proofs.Judging.{lines_unknown, lines_without, lines_far}
use Rattle.answer_pick.proofs.lines.judge_lines.Goals as goal

pub returns-then-unknown-ne0 : goal.returns-then-unknown-ne0
returns-then-unknown-ne0 c =
    lines_unknown c.args.states.now c.args.ends.now _ c.first_bad-unknown.ensures c.if-unknown-ne0.true _ (c.refused_at.ensures ∙ rw c.own_number.ensures)

pub returns-then-without-ne0 : goal.returns-then-without-ne0
returns-then-without-ne0 c =
    lines_without c.args.states.now c.args.ends.now _ c.first_bad-unknown.ensures c.if-unknown-ne0.false _ c.first_bad-without.ensures c.if-without-ne0.true _ (c.refused_at-then-without-ne0.ensures ∙ rw c.own_number-then-without-ne0.ensures)

pub returns : goal.returns
returns c =
    lines_far c.args.states.now c.args.ends.now _ c.first_bad-unknown.ensures c.if-unknown-ne0.false _ c.first_bad-without.ensures c.if-without-ne0.false _ c.first_bad.ensures _ (c.refused_at-2.ensures ∙ rw c.number.ensures)
