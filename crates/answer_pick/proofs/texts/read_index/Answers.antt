-- The label, the index's root, then the files.
use mathlib.Core.Bool.{not}
use mathlib.Core.Path.{ap}
use Rattle.answer_pick.proofs.Labels.{label_bad, index_bad, index_read}
use Rattle.answer_pick.proofs.texts.read_index.Goals as goal

pub returns-then-not-is_label : goal.returns-then-not-is_label
returns-then-not-is_label c =
    let a = c.args in
    label_bad a.unit a.label.now a.index.now a.list.now _ _ _ _ c.read_label-read.ensures _ c.is_label.ensures (ap not c.if-not-is_label.true)

pub returns-then-not-has_index : goal.returns-then-not-has_index
returns-then-not-has_index c =
    let a = c.args in
    index_bad a.unit a.label.now a.index.now a.list.now _ _ _ _ c.read_label-read.ensures _ c.is_label.ensures (ap not c.if-not-is_label.false) _ c.has_index.ensures (ap not c.if-not-has_index.true)

pub returns : goal.returns
returns c =
    let a = c.args in
    index_read a.unit a.label.now a.index.now a.list.now _ _ _ _ c.read_label-read.ensures _ c.is_label.ensures (ap not c.if-not-is_label.false) _ c.has_index.ensures (ap not c.if-not-has_index.false) _ _ c.value_in.ensures c.value_in-2.ensures _ _ _ _ c.find_files.ensures
