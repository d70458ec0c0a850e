use Rattle.std.proofs.Common.{arith}
use Rattle.runs.proofs.Table.{table_file, last_none, last_some}
use Rattle.runs.proofs.Stops.{extent, right_end_none, right_end_some}
use Rattle.runs.proofs.judging.right_end_joined.Goals as goal

pub returns-in_default : goal.returns-in_default
returns-in_default c = λ cs e. right_end_none _ _ _ _ cs (last_none _ c.in_default.ensures.value)

pub offset_bounds-starts-at : goal.offset_bounds-starts-at
offset_bounds-starts-at c =
    let last = last_some c.args.starts.now c.args.numbers.now c.in-Some.last.now c.in-Some.ensures.value c.requires.by_index in
    let e = extent c.args.starts.now c.args.lengths.now c.args.aggregates.now c.requires.sound_table c.requires.starts_len c.in-Some.last.now last.in_table in
    omega arith

pub bounds-starts-at : goal.bounds-starts-at
bounds-starts-at c =
    let last = last_some c.args.starts.now c.args.numbers.now c.in-Some.last.now c.in-Some.ensures.value c.requires.by_index in
    let e = extent c.args.starts.now c.args.lengths.now c.args.aggregates.now c.requires.sound_table c.requires.starts_len c.in-Some.last.now last.in_table in
    omega arith

pub offset_bounds-lengths-at : goal.offset_bounds-lengths-at
offset_bounds-lengths-at c =
    let last = last_some c.args.starts.now c.args.numbers.now c.in-Some.last.now c.in-Some.ensures.value c.requires.by_index in
    let e = extent c.args.starts.now c.args.lengths.now c.args.aggregates.now c.requires.sound_table c.requires.starts_len c.in-Some.last.now last.in_table in
    omega arith

pub bounds-lengths-at : goal.bounds-lengths-at
bounds-lengths-at c =
    let last = last_some c.args.starts.now c.args.numbers.now c.in-Some.last.now c.in-Some.ensures.value c.requires.by_index in
    let e = extent c.args.starts.now c.args.lengths.now c.args.aggregates.now c.requires.sound_table c.requires.starts_len c.in-Some.last.now last.in_table in
    omega arith

pub overflow_add-result : goal.overflow_add-result
overflow_add-result c =
    let last = last_some c.args.starts.now c.args.numbers.now c.in-Some.last.now c.in-Some.ensures.value c.requires.by_index in
    let e = extent c.args.starts.now c.args.lengths.now c.args.aggregates.now c.requires.sound_table c.requires.starts_len c.in-Some.last.now last.in_table in
    rw c.last_member-at.ensures (omega (arith, (table_file _ _ c.requires.sound_table _ e.inside).ends))

pub returns : goal.returns
returns c =
    let last = last_some c.args.starts.now c.args.numbers.now c.in-Some.last.now c.in-Some.ensures.value c.requires.by_index in
    λ cs e. rw (c.last_member-at.ensures, ← last.is) (right_end_some _ _ _ _ cs last.some e)
