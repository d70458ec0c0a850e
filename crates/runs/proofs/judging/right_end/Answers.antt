use Rattle.std.proofs.Common.{arith}
use Rattle.runs.proofs.Table.{named_file, right_end_empty, right_end_row, last_none, last_some}
use Rattle.runs.proofs.judging.right_end.Goals as goal

pub returns-in_default : goal.returns-in_default
returns-in_default c = λ cs e. right_end_empty _ _ _ cs (last_none _ c.in_default.ensures.value)

pub overflow_add-result : goal.overflow_add-result
overflow_add-result c =
    let last = last_some c.args.starts.now c.args.numbers.now c.in-Some.last.now c.in-Some.ensures.value c.requires.by_index in
    omega (arith, (named_file _ _ c.requires.sound_table _ last.in_table).ends)

pub returns : goal.returns
returns c =
    let last = last_some c.args.starts.now c.args.numbers.now c.in-Some.last.now c.in-Some.ensures.value c.requires.by_index in
    λ cs e. rw last.is at (right_end_row c.args.starts.now c.args.lengths.now c.args.numbers.now cs last.some e)
