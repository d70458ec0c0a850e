-- 13, then 20, 44, 11 and 5, then the lines.
use mathlib.Core.Bool.{not}
use borrow.Author.Rules.{rules}
use mathlib.Core.Path.{◌∙◌, ap}
use Rattle.answer_pick.proofs.Answering.{name_refused, input_refused, lines_fit, lines_answered_lem}
use Rattle.answer_pick.proofs.pick.Goals as goal

pub returns-then-not-is_name : goal.returns-then-not-is_name
returns-then-not-is_name c =
    let a = c.args in
    name_refused a.unit a.name.now a.label.now a.index.now a.list.now a.head.now a.turn.now _ _ _ c.is_name.ensures (ap not c.if-not-is_name.true) _ (c.refused_if.ensures ∙ rw c.number.ensures) _ c.unpicked.ensures

pub returns-then-input-ne0 : goal.returns-then-input-ne0
returns-then-input-ne0 c =
    let a = c.args in
    input_refused a.unit a.name.now a.label.now a.index.now a.list.now a.head.now a.turn.now _ _ _ c.is_name.ensures (ap not c.if-not-is_name.false) _ _ _ _ _ _ _ (search rules) (search rules) (search rules) c.read_index-good.ensures _ c.other_if-other.ensures _ c.judge_input-input.ensures c.if-input-ne0.true _ c.unpicked-then-input-ne0.ensures

pub pick_lines-requires : goal.pick_lines-requires
pick_lines-requires c =
    let a = c.args in
    let f = lines_fit a.unit a.name.now a.label.now a.index.now a.list.now a.head.now a.turn.now a.out.now a.names.now _ c.is_name.ensures (ap not c.if-not-is_name.false) _ _ _ _ _ _ _ (search rules) (search rules) (search rules) c.read_index-good.ensures _ c.other_if-other.ensures _ c.judge_input-input.ensures c.if-input-ne0.false in
    record { list_in_bounds = search rules; list_in_bounds_2 = search rules; list_in_bounds_3 = search rules }

pub returns : goal.returns
returns c =
    let a = c.args in
    lines_answered_lem a.unit a.name.now a.label.now a.index.now a.list.now a.head.now a.turn.now _ _ _ c.is_name.ensures (ap not c.if-not-is_name.false) _ _ _ _ _ _ _ (search rules) (search rules) (search rules) c.read_index-good.ensures _ c.other_if-other.ensures _ c.judge_input-input.ensures c.if-input-ne0.false _ _ _ c.pick_lines.ensures
