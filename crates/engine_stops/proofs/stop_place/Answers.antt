-- The first and the last member lie in the table, and the last ends right of where the first starts.
use native.Mathlib.Omega.{arith}
use Rattle.runs.proofs.Stops.{extent}
use Rattle.runs.proofs.Table.{table_file}
use Rattle.engine_stops.proofs.Filling.{place_is}
use Rattle.engine_stops.proofs.stop_place.Goals as goal

pub offset_bounds-starts-first : goal.offset_bounds-starts-first
offset_bounds-starts-first c =
    let e = extent _ _ _ c.requires.sound_table c.requires.starts_len _ c.requires.in_table in
    omega (arith, c.first_member-first.ensures, e.first, e.last, e.inside)

pub bounds-starts-first : goal.bounds-starts-first
bounds-starts-first c =
    let e = extent _ _ _ c.requires.sound_table c.requires.starts_len _ c.requires.in_table in
    omega (arith, c.first_member-first.ensures, e.first, e.last, e.inside)

pub overflow_add-result : goal.overflow_add-result
overflow_add-result c =
    let e = extent _ _ _ c.requires.sound_table c.requires.starts_len _ c.requires.in_table in
    omega (arith, c.first_member-first.ensures, e.first, e.last, e.inside)

pub offset_bounds-starts-last : goal.offset_bounds-starts-last
offset_bounds-starts-last c =
    let e = extent _ _ _ c.requires.sound_table c.requires.starts_len _ c.requires.in_table in
    omega (arith, c.last_member-last.ensures, e.inside)

pub bounds-starts-last : goal.bounds-starts-last
bounds-starts-last c =
    let e = extent _ _ _ c.requires.sound_table c.requires.starts_len _ c.requires.in_table in
    omega (arith, c.last_member-last.ensures, e.inside)

pub offset_bounds-lengths-last : goal.offset_bounds-lengths-last
offset_bounds-lengths-last c =
    let e = extent _ _ _ c.requires.sound_table c.requires.starts_len _ c.requires.in_table in
    omega (arith, c.last_member-last.ensures, e.inside)

pub bounds-lengths-last : goal.bounds-lengths-last
bounds-lengths-last c =
    let e = extent _ _ _ c.requires.sound_table c.requires.starts_len _ c.requires.in_table in
    omega (arith, c.last_member-last.ensures, e.inside, c.requires.sound_table.equal)

pub overflow_add-result-2 : goal.overflow_add-result-2
overflow_add-result-2 c =
    let e = extent _ _ _ c.requires.sound_table c.requires.starts_len _ c.requires.in_table in
    rw c.last_member-last.ensures (omega (arith, (table_file _ _ c.requires.sound_table _ e.inside).ends))

pub overflow_sub-result : goal.overflow_sub-result
overflow_sub-result c =
    let e = extent _ _ _ c.requires.sound_table c.requires.starts_len _ c.requires.in_table in
    rw (c.last_member-last.ensures, c.first_member-first.ensures) (omega (arith, e.extends))

pub returns : goal.returns
returns c =
    let a = c.args in
    place_is a.starts.now a.lengths.now a.aggregates.now a.file _ _ c.requires.in_table.least c.first_member-first.ensures c.last_member-last.ensures
