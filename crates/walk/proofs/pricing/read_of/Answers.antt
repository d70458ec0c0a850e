use Rattle.std.proofs.Common.{arith}
use Rattle.runs.proofs.Stops.{extent}
use Rattle.walk.proofs.Legs.{next_leg, timing_on, read_now, reads_within, never_read}
use Rattle.walk.proofs.pricing.read_of.Goals as goal

pub run_right-requires-clause-place_le_to : goal.run_right-requires-clause-place_le_to
run_right-requires-clause-place_le_to c =
    let table = c.requires.walk_fits.fit.list.table in
    let next = next_leg _ _ _ c.requires.walk_fits.within _ _ c.loop-i.invariant.walking (omega arith) _ c.leg_at-leg.ensures in
    let test = rw (c.extent_start-start.ensures, c.extent_end-end.ensures) at c.reads_file.ensures in
    let inside = reads_within _ _ _ _ _ _ c.loop-i.invariant _ next _ test c.if-reads_file.true in
    let x = extent c.args.starts.now c.args.lengths.now c.args.aggregates.now table.sound table.rows c.args.file c.requires.in_table in
    rw (c.set_off-out.ensures, c.extent_end-end.ensures) (omega (arith, inside.0, x.extends))

pub returns-then-reads_file : goal.returns-then-reads_file
returns-then-reads_file c =
    let next = next_leg _ _ _ c.requires.walk_fits.within _ _ c.loop-i.invariant.walking (omega arith) _ c.leg_at-leg.ensures in
    let test = rw (c.extent_start-start.ensures, c.extent_end-end.ensures) at c.reads_file.ensures in
    rw (c.run_right.ensures, c.set_off-out.ensures, c.extent_end-end.ensures) (read_now _ _ _ _ _ _ c.loop-i.invariant _ next _ test c.if-reads_file.true)

pub loop-i-preserved : goal.loop-i-preserved
loop-i-preserved c =
    let next = next_leg _ _ _ c.requires.walk_fits.within _ _ c.loop-i.invariant.walking (omega arith) _ c.leg_at-leg.ensures in
    let test = rw (c.extent_start-start.ensures, c.extent_end-end.ensures) at c.reads_file.ensures in
    rw (c.run_right-h.ensures, c.set_off-out.ensures) (timing_on _ _ _ _ _ _ c.loop-i.invariant _ next _ test c.requires.walk_fits.within (omega arith) c.if-reads_file.false)

pub returns : goal.returns
returns c = never_read _ _ _ _ _ _ c.loop-i.invariant (omega arith)
