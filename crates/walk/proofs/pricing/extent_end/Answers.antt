-- The last member is a file of a sound table and ends within the tape, so that the sum fits.
use Rattle.std.proofs.Common.{arith}
use mathlib.Core.Path.{ap}
use Rattle.runs.specs.Run.{end_at}
use Rattle.runs.proofs.Stops.{extent}
use Rattle.runs.proofs.Table.{table_file}
use Rattle.walk.proofs.pricing.extent_end.Goals as goal

pub offset_bounds-starts-last : goal.offset_bounds-starts-last
offset_bounds-starts-last c =
    let lies = extent c.args.starts.now c.args.lengths.now c.args.aggregates.now c.requires.tabled.sound c.requires.tabled.rows c.args.file c.requires.in_table in
    omega (arith, c.last_member-last.ensures, lies.last, lies.inside)

pub bounds-starts-last : goal.bounds-starts-last
bounds-starts-last c =
    let lies = extent c.args.starts.now c.args.lengths.now c.args.aggregates.now c.requires.tabled.sound c.requires.tabled.rows c.args.file c.requires.in_table in
    omega (arith, c.last_member-last.ensures, lies.last, lies.inside)

pub offset_bounds-lengths-last : goal.offset_bounds-lengths-last
offset_bounds-lengths-last c =
    let lies = extent c.args.starts.now c.args.lengths.now c.args.aggregates.now c.requires.tabled.sound c.requires.tabled.rows c.args.file c.requires.in_table in
    omega (arith, c.last_member-last.ensures, lies.last, lies.inside)

pub bounds-lengths-last : goal.bounds-lengths-last
bounds-lengths-last c =
    let lies = extent c.args.starts.now c.args.lengths.now c.args.aggregates.now c.requires.tabled.sound c.requires.tabled.rows c.args.file c.requires.in_table in
    omega (arith, c.last_member-last.ensures, lies.last, lies.inside, c.requires.tabled.sound.equal)

pub overflow_add-result : goal.overflow_add-result
overflow_add-result c =
    let lies = extent c.args.starts.now c.args.lengths.now c.args.aggregates.now c.requires.tabled.sound c.requires.tabled.rows c.args.file c.requires.in_table in
    omega (
      arith,
      ap (end_at c.args.starts.now c.args.lengths.now) c.last_member-last.ensures,
      lies.ends_right,
      (table_file _ _ c.requires.tabled.sound _ lies.inside).ends,
    )
