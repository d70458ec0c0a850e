-- Each row that is too short, or a list that is refused, leaves none.
use mathlib.Core.Path.{sym, ◌∙◌}
use Rattle.tape_picks.proofs.Asking.{list_says, asked_refused, asked_no_state, asked_no_start, asked_no_end, asked_all}
use Rattle.tape_picks.proofs.lines_asked.Goals as goal

pub returns-then-is_err : goal.returns-then-is_err
returns-then-is_err c = asked_refused _ _ _ _ (sym (c.is_err.ensures.value ∙ list_says _ _ c.judge_list.ensures) ∙ c.if-is_err.true)

pub returns-then-states-count : goal.returns-then-states-count
returns-then-states-count c =
    let good = sym (c.is_err.ensures.value ∙ list_says _ _ c.judge_list.ensures) ∙ c.if-is_err.false in
    asked_no_state _ _ _ _ good _ c.count_lines-count.ensures c.if-states-count.true

pub returns-then-starts-count : goal.returns-then-starts-count
returns-then-starts-count c =
    let good = sym (c.is_err.ensures.value ∙ list_says _ _ c.judge_list.ensures) ∙ c.if-is_err.false in
    asked_no_start _ _ _ _ good _ c.count_lines-count.ensures c.if-states-count.false c.if-starts-count.true

pub returns-then-ends-count : goal.returns-then-ends-count
returns-then-ends-count c =
    let good = sym (c.is_err.ensures.value ∙ list_says _ _ c.judge_list.ensures) ∙ c.if-is_err.false in
    asked_no_end _ _ _ _ good _ c.count_lines-count.ensures c.if-states-count.false c.if-starts-count.false c.if-ends-count.true

pub returns : goal.returns
returns c =
    let good = sym (c.is_err.ensures.value ∙ list_says _ _ c.judge_list.ensures) ∙ c.if-is_err.false in
    asked_all _ _ _ _ good _ c.count_lines-count.ensures c.if-states-count.false c.if-starts-count.false c.if-ends-count.false
